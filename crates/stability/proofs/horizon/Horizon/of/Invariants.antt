use Rattle.std.proofs.Common.{◌≡◌, min, take, get_or}
use Rattle.std.specs.Prelude.{fold}
use Rattle.stability.proofs.HorizonLaws.{lasts}
use Rattle.stability.proofs.horizon.Horizon.of.Given as goal

abbrev pub invariant-loop-member : goal.invariant-loop-member
invariant-loop-member l = l.time ≡ fold min (get_or (lasts l.fronts) 0 0) (take l.member (lasts l.fronts))
