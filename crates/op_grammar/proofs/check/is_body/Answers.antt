use Rattle.std.proofs.Common.{arith, eq-eqb}
use Rattle.std.proofs.lemmas.Bool.{eqb-true}
use Rattle.op_grammar.proofs.BodyLaws.{body_counted, body_flawed}
use Rattle.op_grammar.proofs.check.is_body.Goals as goal

pub returns-in-Ok : goal.returns-in-Ok
returns-in-Ok c = λ p e f.
    let k = body_counted c.args.body.now c.args.count c.in-Ok.items p (omega arith) c.in-Ok.ensures.spelled e f in
    (λ yes. k.0 (eqb-true c.in-Ok.items c.args.count yes), λ is. eq-eqb c.in-Ok.items c.args.count (k.1 is))

pub returns-in-Err : goal.returns-in-Err
returns-in-Err c = λ p e f. (λ yes. absurd cc, λ is. absurd (body_flawed c.args.body.now c.in-Err.field-0 p c.in-Err.ensures.flawed e is))
