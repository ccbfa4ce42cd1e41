use Rattle.std.proofs.Common.{arith, refl}
use Rattle.op_grammar.specs.Parts.{said_parts}
use Rattle.model.specs.Rules.{IsBody}
use Rattle.op_grammar.proofs.BodyLaws.{body_few}
use Rattle.op_grammar.proofs.CheckLaws.{body_breaks, operations_break, is_change}
use Rattle.op_grammar.proofs.check.check_body.Goals as goal

pub returns-then-is_body : goal.returns-then-is_body
returns-then-is_body c = λ x whole.
    let b = (c.is_body.ensures (said_parts c.args.said) refl refl).0 c.if-is_body.true in
    operations_break c.args.n x c.args.said whole b (omega arith)
    (λ k. cc (c.if-not-has_operations.true, c.has_operations.ensures.1 (b.most, k.0, (b.items, b.spelled, b.counted, k.1))))

pub returns-then-not-has_operations : goal.returns-then-not-has_operations
returns-then-not-has_operations c = λ x whole. body_breaks c.args.n x c.args.said whole
    (λ k. cc (c.if-is_body.false, (c.is_body.ensures (said_parts c.args.said) refl refl).1 k))

pub head_of-requires-clause-count : goal.head_of-requires-clause-count
head_of-requires-clause-count c =
    let k = c.has_operations.ensures.0 c.if-not-has_operations.false in
    omega (arith, body_few c.args.said.body.now k.2.0 k.2.1, k.2.2, k.0)

pub head_of-requires-clause-width : goal.head_of-requires-clause-width
head_of-requires-clause-width c = let k = c.has_operations.ensures.0 c.if-not-has_operations.false in omega (arith, k.1)

pub returns : goal.returns
returns c = λ x whole.
    let k = c.has_operations.ensures.0 c.if-not-has_operations.false in
    let b : IsBody (said_parts c.args.said) = record { most = k.0; items = k.2.0; spelled = k.2.1; counted = k.2.2 } in
    is_change c.args.n x c.args.said whole b (omega arith) c.head_of.result c.args.said.body
    (k.1, k.2.3) c.head_of.ensures refl
