use Rattle.stability.proofs.StableLaws.{Lowered}
use Rattle.stability.proofs.fronts.Fronts.stable.Given as goal

abbrev pub invariant-loop-row : goal.invariant-loop-row
invariant-loop-row l = Lowered l.row-items l.initial.stable l.stable l.row-index
