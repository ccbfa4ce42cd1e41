use Rattle.std.proofs.Common.{◌≡◌, ◌^◌, ◌<◌, ℕ, List, ◌++◌, ◌∙◌, ap, length, Bor}
use Rattle.cbor_det.specs.Item.{Item, spell}
use Rattle.cbor_det.specs.Reading.{bytes_at}
use Rattle.cbor_det.specs.Unread.{unread}
use Rattle.cbor_det.proofs.FieldLaws.{bytes_takes, bytes_again}
use Rattle.cbor_det.specs.Asked.{as_bytes}
use Rattle.cbor_det.proofs.AskedLaws.{item_by, bytes_read}
use Rattle.cbor_det.proofs.FaultLaws.{bytes_field, fails_by, len_by}
use Rattle.cbor_det.proofs.ReadLaws.{reads_past, found_by, only_by}
use Rattle.cbor_det.proofs.cursor.Cursor.bytes.Goals as goal

pub returns : goal.returns
returns c =
    let old = unread c.args.self.now in
    let new = unread c.past.new.self in
    let exact = reads_past (λ (b : Bor (List ℕ)). b.now) old new c.bytes_of-read.result c.past.result bytes_at c.bytes_of-read.ensures.exact c.past.ensures.ok c.past.ensures.err in
    record {
      exact = exact;
      item = item_by (λ (b : Bor (List ℕ)). b.now) old new c.past.result bytes_at as_bytes bytes_read exact;
      found = found_by (λ (b : Bor (List ℕ)). b.now) old new c.past.result bytes_at (λ b rest. (length b < 2 ^ 64) × (old.rest ≡ spell (Item.bytes b) ++ rest)) (λ b rest e. let t = bytes_takes old.rest b rest c.bytes_of-read.ensures.fits e in (t.short, t.takes.parts)) exact;
      only = λ b more lt parts. only_by (λ (b : Bor (List ℕ)). b.now) old new c.past.result bytes_at b more (ap bytes_at parts ∙ bytes_again b more lt) exact;
      faults = fails_by (λ (b : Bor (List ℕ)). b.now) (λ m. m ≡ 2) old new c.past.result bytes_at bytes_field c.bytes_of-read.ensures.fits exact;
      len = len_by (λ (b : Bor (List ℕ)). b.now) old new c.past.result bytes_at exact;
    }
