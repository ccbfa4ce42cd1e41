use Rattle.std.proofs.Common.{◌⊎◌, ◌≡◌, ◌++◌, ◌∙◌, ap}
use Rattle.std.specs.Prelude.{ℤ}
use Rattle.cbor_det.specs.Item.{FitsInt, spell_int}
use Rattle.cbor_det.specs.Reading.{int_at}
use Rattle.cbor_det.specs.Unread.{unread}
use Rattle.cbor_det.proofs.FieldLaws.{int_takes, int_again}
use Rattle.cbor_det.specs.Asked.{as_number}
use Rattle.cbor_det.proofs.AskedLaws.{item_by, number_read}
use Rattle.cbor_det.proofs.FaultLaws.{int_field, fails_by, len_by}
use Rattle.cbor_det.proofs.ReadLaws.{reads_past, found_by, only_value}
use Rattle.cbor_det.proofs.cursor.Cursor.int.Goals as goal

pub returns : goal.returns
returns c =
    let old = unread c.args.self.now in
    let new = unread c.past.new.self in
    let exact = reads_past (λ (n : ℤ). n) old new c.int_of-read.result c.past.result int_at c.int_of-read.ensures.exact c.past.ensures.ok c.past.ensures.err in
    record {
      exact = exact;
      item = item_by (λ (n : ℤ). n) old new c.past.result int_at as_number number_read exact;
      found = found_by (λ (n : ℤ). n) old new c.past.result int_at (λ n rest. FitsInt n × (old.rest ≡ spell_int n ++ rest)) (λ n rest e. let t = int_takes old.rest n rest c.int_of-read.ensures.fits e in (t.fits_int, t.takes.parts)) exact;
      only = λ n more fits parts. only_value old new c.past.result int_at n more (ap int_at parts ∙ int_again n more fits) exact;
      faults = fails_by (λ (n : ℤ). n) (λ m. (m ≡ 0) ⊎ (m ≡ 1)) old new c.past.result int_at int_field c.int_of-read.ensures.fits exact;
      len = len_by (λ (n : ℤ). n) old new c.past.result int_at exact;
    }
