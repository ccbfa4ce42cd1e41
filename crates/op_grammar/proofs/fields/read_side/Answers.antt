use Rattle.std.proofs.Common.{sym, ap, ◌∙◌, arith}
use Rattle.op_ids.specs.declared.Side.TheVariants.{Left, Right}
use Rattle.cbor_det.specs.Item.{unsigned}
use Rattle.model.specs.Operation.{side_item}
use Rattle.file_laws.proofs.SameParts.{side_same, unsigned_same}
use Rattle.op_grammar.proofs.FieldLaws.{side_is_item, number_is}
use Rattle.op_grammar.proofs.fields.read_side.Goals as goal

pub returns-in_err-number-clause-only : goal.returns-in_err-number-clause-only
returns-in_err-number-clause-only c side more e =
    let n = number_is side in
    absurd (c.in_err-number.ensures.item (side_item side) more (side_is_item side) e n.0 n.1 tt)

pub returns-in_default-clause-only : goal.returns-in_default-clause-only
returns-in_default-clause-only c side more e =
    let t = c.in_ok-number.ensures.item (side_item side) more (side_is_item side) e in
    let n = number_is side in
    let k = unsigned_same n.0 c.in_ok-number.number (sym n.1 ∙ t.0) in
    let few = n.2 in
    absurd (omega arith)

pub returns-in-0-clause-only : goal.returns-in-0-clause-only
returns-in-0-clause-only c side more e =
    let t = c.in_ok-number.ensures.item (side_item side) more (side_is_item side) e in
    (side_same Left side (sym (t.0 ∙ ap unsigned c.in-0.is)), t.2)

pub returns-in-1-clause-only : goal.returns-in-1-clause-only
returns-in-1-clause-only c side more e =
    let t = c.in_ok-number.ensures.item (side_item side) more (side_is_item side) e in
    (side_same Right side (sym (t.0 ∙ ap unsigned c.in-1.is)), t.2)
