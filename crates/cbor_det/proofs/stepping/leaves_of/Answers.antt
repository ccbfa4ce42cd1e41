use Rattle.std.proofs.Common.{◌∙◌, arith}
use Rattle.std.proofs.lemmas.Result.{err_from_is_err_and}
use Rattle.cbor_det.specs.Slices.{seen_stop}
use Rattle.cbor_det.proofs.MachineLaws.{leaf_stops}
use Rattle.cbor_det.proofs.StepLaws.{none_passed, one_passed}
use Rattle.cbor_det.proofs.stepping.leaves_of.Goals as goal

pub returns-in_err-start-clause-stops : goal.returns-in_err-start-clause-stops
returns-in_err-start-clause-stops c =
    let p = err_from_is_err_and c.from_residual.result c.from_residual.ensures.1 in
    rw (p.1, p.2) (c.loop-left.invariant.same ∙ leaf_stops c.args.room c.loop-left.left c.loop-left.rest.now (seen_stop c.in_err-start.field-0.0) c.loop-left-test.true c.in_err-start.ensures.exact)

pub loop-left-preserved : goal.loop-left-preserved
loop-left-preserved c = one_passed c.args.room c.args.count c.args.bytes.now c.loop-left.left c.loop-left.rest.now c.in_ok-start.behind.now (λ i. omega (arith, c.type_inv.bytes i)) c.loop-left.invariant c.loop-left-test.true (rw c.in-Leaf.is at c.in_ok-start.ensures.exact)
