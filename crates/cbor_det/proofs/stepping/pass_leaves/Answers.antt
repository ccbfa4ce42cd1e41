use Rattle.std.proofs.lemmas.List.{take_rest}
use Rattle.std.proofs.lemmas.Result.{err_from_is_err_and}
use Rattle.cbor_det.specs.Slices.{seen_stop}
use Rattle.cbor_det.proofs.StepLaws.{leaves_passed, leaves_stop}
use Rattle.cbor_det.proofs.stepping.pass_leaves.Goals as goal

pub returns-in_err-left-clause-stops : goal.returns-in_err-left-clause-stops
returns-in_err-left-clause-stops c =
    let p = err_from_is_err_and c.from_residual.result c.from_residual.ensures.1 in
    let rest = take_rest c.args.bytes.now c.args.machine.now.at in
    rw (p.1, p.2) (leaves_stop c.args.bytes.now c.args.machine.now c.in-Items.left (seen_stop c.in_err-left.field-0.0) c.requires.whole c.requires.open c.in-Items.is (rw rest at c.in_err-left.ensures.stops))

pub returns-clause-left : goal.returns-clause-left
returns-clause-left c =
    let rest = take_rest c.args.bytes.now c.args.machine.now.at in
    leaves_passed c.args.bytes.now c.args.machine.now c.in-Items.left c.in_ok-left.left c.in_ok-left.rest.now c.requires.whole c.requires.open c.requires.within c.in-Items.is (rw rest at c.in_ok-left.ensures.passed)
