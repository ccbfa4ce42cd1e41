use Rattle.std.proofs.Common.{refl, sym, subst}
use Rattle.model.specs.Value.{value_item, IsValue}
use Rattle.file_laws.proofs.SameParts.{value_same}
use Rattle.op_grammar.specs.Values.{value_of}
use Rattle.op_grammar.proofs.FieldLaws.{value_is_item, said}
use Rattle.op_grammar.proofs.fields.read_value.Goals as goal

pub returns-in_err-value-clause-only : goal.returns-in_err-value-clause-only
returns-in_err-value-clause-only c value more is e =
    absurd (c.in_err-value.ensures.item (value_item value) more (value_is_item value is) e value refl (said value is))

pub returns-then-not-is_value-clause-only : goal.returns-then-not-is_value-clause-only
returns-then-not-is_value-clause-only c value more is e =
    let t = c.in_ok-value.ensures.item (value_item value) more (value_is_item value is) e in
    let same = value_same value (value_of c.in_ok-value.value) t.0 in
    let short = c.is_value.ensures.1 (subst IsValue same is) in
    absurd (cc)

pub returns-clause-only : goal.returns-clause-only
returns-clause-only c value more is e =
    let t = c.in_ok-value.ensures.item (value_item value) more (value_is_item value is) e in
    (sym (value_same value (value_of c.in_ok-value.value) t.0), t.2)
