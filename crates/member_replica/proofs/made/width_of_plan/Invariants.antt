use Rattle.member_replica.proofs.WriteLaws.{IdsSoFar}
use Rattle.member_replica.proofs.made.width_of_plan.Given as goal

abbrev pub invariant-operations : goal.invariant-operations
invariant-operations l = IdsSoFar l.width l.plan l.i
