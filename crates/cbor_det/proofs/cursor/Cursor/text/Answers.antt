use Rattle.std.proofs.Common.{◌≡◌, ◌^◌, ◌<◌, ℕ, List, ◌++◌, ◌∙◌, ap, length, Bor}
use Rattle.std.specs.Prelude.{IsUtf8}
use Rattle.cbor_det.specs.Item.{Item, spell}
use Rattle.cbor_det.specs.Reading.{text_at}
use Rattle.cbor_det.specs.Unread.{unread}
use Rattle.cbor_det.proofs.FieldLaws.{text_takes, text_again}
use Rattle.cbor_det.specs.Asked.{as_text}
use Rattle.cbor_det.proofs.AskedLaws.{item_by, text_read}
use Rattle.cbor_det.proofs.FaultLaws.{text_field, fails_by, len_by}
use Rattle.cbor_det.proofs.ReadLaws.{reads_past, found_by, only_by}
use Rattle.cbor_det.proofs.cursor.Cursor.text.Goals as goal

pub returns : goal.returns
returns c =
    let old = unread c.args.self.now in
    let new = unread c.past.new.self in
    let exact = reads_past (λ (t : Bor (List ℕ)). t.now) old new c.text_of-read.result c.past.result text_at c.text_of-read.ensures.exact c.past.ensures.ok c.past.ensures.err in
    record {
      exact = exact;
      item = item_by (λ (t : Bor (List ℕ)). t.now) old new c.past.result text_at as_text text_read exact;
      found = found_by (λ (t : Bor (List ℕ)). t.now) old new c.past.result text_at (λ t rest. (length t < 2 ^ 64) × IsUtf8 t × (old.rest ≡ spell (Item.text t) ++ rest)) (λ t rest e. let k = text_takes old.rest t rest c.text_of-read.ensures.fits e in (k.0.short, k.1, k.0.takes.parts)) exact;
      only = λ t more lt utf8 parts. only_by (λ (t : Bor (List ℕ)). t.now) old new c.past.result text_at t more (ap text_at parts ∙ text_again t more lt utf8) exact;
      faults = fails_by (λ (t : Bor (List ℕ)). t.now) (λ m. m ≡ 3) old new c.past.result text_at text_field c.text_of-read.ensures.fits exact;
      len = len_by (λ (t : Bor (List ℕ)). t.now) old new c.past.result text_at exact;
    }
