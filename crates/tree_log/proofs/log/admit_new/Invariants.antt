use Rattle.std.proofs.Common.{◌≡◌, true, take}
use Rattle.std.specs.List.{AllByRecursion}
use Rattle.std.specs.FinSet as set
use Rattle.tree_move.specs.Parents.{IsTreeOfAdmitted}
use Rattle.tree_log.specs.declared.moves.TreeMove.{TreeMove}
use Rattle.tree_log.proofs.log.admit_new.Given as goal

abbrev pub invariant-loop-step : goal.invariant-loop-step
invariant-loop-step l = record {
  places : l.parents.places ≡ l.fn.parents.places;
  tree : IsTreeOfAdmitted l.parents;
  admitted : AllByRecursion (λ (t : TreeMove). set.contains l.parents.admitted t.child ≡ true) (take l.step-index l.moves);
}
