use Rattle.std.proofs.Common.{◌≡◌, ◌^◌, ◌<◌, ℕ, ◌++◌, ◌∙◌, ap, lit<}
use Rattle.cbor_det.specs.Head.{head}
use Rattle.cbor_det.specs.Reading.{argument_at}
use Rattle.cbor_det.specs.Unread.{unread}
use Rattle.cbor_det.proofs.FieldLaws.{argument_takes, argument_again, string_argument}
use Rattle.cbor_det.specs.Asked.{as_unsigned}
use Rattle.cbor_det.proofs.AskedLaws.{item_by, unsigned_read}
use Rattle.cbor_det.proofs.FaultLaws.{argument_field, fails_by, len_by}
use Rattle.cbor_det.proofs.ReadLaws.{reads_past, found_by, only_value}
use Rattle.cbor_det.proofs.cursor.Cursor.uint.Goals as goal

pub returns : goal.returns
returns c =
    let old = unread c.args.self.now in
    let new = unread c.past.new.self in
    let exact = reads_past (λ (n : ℕ). n) old new c.argument_of-read.result c.past.result (argument_at 0) c.argument_of-read.ensures.exact c.past.ensures.ok c.past.ensures.err in
    record {
      exact = exact;
      item = item_by (λ (n : ℕ). n) old new c.past.result (argument_at 0) as_unsigned unsigned_read exact;
      found = found_by (λ (n : ℕ). n) old new c.past.result (argument_at 0) (λ n rest. (n < 2 ^ 64) × (old.rest ≡ head 0 n ++ rest)) (λ n rest e. let t = argument_takes 0 old.rest n rest c.argument_of-read.ensures.fits e in (t.argument.0, t.takes.parts)) exact;
      only = λ n more lt parts. only_value old new c.past.result (argument_at 0) n more (ap (argument_at 0) parts ∙ argument_again 0 n more (string_argument 0 n (lit< tt) lt)) exact;
      faults = fails_by (λ (n : ℕ). n) (λ m. m ≡ 0) old new c.past.result (argument_at 0) (argument_field 0) c.argument_of-read.ensures.fits exact;
      len = len_by (λ (n : ℕ). n) old new c.past.result (argument_at 0) exact;
    }
