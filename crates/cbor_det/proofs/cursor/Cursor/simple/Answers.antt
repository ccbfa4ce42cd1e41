use Rattle.std.proofs.Common.{◌≡◌, ◌++◌, ◌∙◌, ap}
use Rattle.cbor_det.specs.Item.{Item, Simple, spell}
use Rattle.cbor_det.specs.Reading.{simple_at}
use Rattle.cbor_det.specs.Unread.{unread}
use Rattle.cbor_det.proofs.FieldLaws.{simple_takes, simple_again}
use Rattle.cbor_det.specs.Asked.{as_simple}
use Rattle.cbor_det.proofs.AskedLaws.{item_by, simple_read}
use Rattle.cbor_det.proofs.FaultLaws.{simple_field, fails_by, len_by}
use Rattle.cbor_det.proofs.ReadLaws.{reads_past, found_by, only_value}
use Rattle.cbor_det.proofs.cursor.Cursor.simple.Goals as goal

pub returns : goal.returns
returns c =
    let old = unread c.args.self.now in
    let new = unread c.past.new.self in
    let exact = reads_past (λ (s : Simple). s) old new c.simple_of-read.result c.past.result simple_at c.simple_of-read.ensures.exact c.past.ensures.ok c.past.ensures.err in
    record {
      exact = exact;
      item = item_by (λ (s : Simple). s) old new c.past.result simple_at as_simple simple_read exact;
      found = found_by (λ (s : Simple). s) old new c.past.result simple_at (λ s rest. old.rest ≡ spell (Item.simple s) ++ rest) (λ s rest e. (simple_takes old.rest s rest c.simple_of-read.ensures.fits e).parts) exact;
      only = λ s more parts. only_value old new c.past.result simple_at s more (ap simple_at parts ∙ simple_again s more) exact;
      faults = fails_by (λ (s : Simple). s) (λ m. m ≡ 7) old new c.past.result simple_at simple_field c.simple_of-read.ensures.fits exact;
      len = len_by (λ (s : Simple). s) old new c.past.result simple_at exact;
    }
