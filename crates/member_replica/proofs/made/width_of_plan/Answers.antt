use Rattle.std.proofs.Common.{arith}
use Rattle.member_replica.proofs.WriteLaws.{ids_more, ids_all}
use Rattle.member_replica.proofs.made.width_of_plan.Goals as goal

pub operations-init : goal.operations-init
operations-init c = record { most = omega arith; sum = omega arith }

pub operations-preserved : goal.operations-preserved
operations-preserved c = ids_more c.operations.width c.args.plan.now c.operations.i c.at.result.now c.width_of.result c.saturating_add-width.result c.operations.invariant c.at.ensures c.width_of.ensures c.saturating_add-width.ensures

pub returns : goal.returns
returns c = ids_all c.operations.width c.args.plan.now c.operations.i c.operations.invariant (omega (arith, c.operations-test.false, c.len-i-end.ensures))
