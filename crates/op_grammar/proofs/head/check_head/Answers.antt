use Rattle.std.proofs.Common.{Err, refl, ap, ◌∙◌, sym}
use Rattle.std.proofs.lemmas.Result.{err_from_is_err_and}
use Rattle.op_grammar.proofs.HeadLaws.{numbers_break, own_breaks, head_said}
use Rattle.op_grammar.proofs.head.check_head.Goals as goal

pub returns-in_err-check_numbers : goal.returns-in_err-check_numbers
returns-in_err-check_numbers c = λ x whole.
    let p = err_from_is_err_and c.from_residual.result c.from_residual.ensures.1 in
    numbers_break c.args.n x c.args.parts whole c.in_err-check_numbers.field-0.0 c.in_err-check_numbers.ensures.err c.from_residual.result (p.1 ∙ ap Err p.2)

pub returns-then-get-number : goal.returns-then-get-number
returns-then-get-number c = λ x whole. own_breaks c.args.n x c.args.parts whole c.in_ok-check_numbers.ensures.ok c.in-Some.causes c.in-Some.ensures.numbers (λ k. c.if-get-number.true (c.get.ensures ∙ k))

pub returns : goal.returns
returns c = λ x whole. head_said c.args.n x c.args.parts whole c.in_ok-check_numbers.ensures.ok c.in-Some.causes c.in-Some.ensures.numbers (record { member = c.args.parts.member; number = c.args.parts.number; time = c.args.parts.time; causes = c.in-Some.causes; count = c.args.parts.count; width = c.args.parts.width; body = c.args.parts.body }) refl refl refl refl refl refl refl (sym c.get.ensures ∙ c.if-get-number.false)
