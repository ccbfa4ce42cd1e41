use Rattle.std.proofs.Common.{◌≡◌}
use Rattle.model.specs.Base.{members}
use Rattle.replica.proofs.head.all_members.Given as goal

abbrev pub invariant-loop-member : goal.invariant-loop-member
invariant-loop-member l = l.mine ≡ members l.member
