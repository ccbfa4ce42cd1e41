use Rattle.std.proofs.Common.{◌≡◌, ◌≤◌, ◌-◌, take, vec_len, vec_capacity}
use Rattle.tree_move.specs.Parents.{IsTreeOfAdmitted}
use Rattle.tree_log.specs.Log.{IsLog, undone}
use Rattle.tree_log.specs.Moves.{Worked}
use Rattle.tree_log.proofs.merge.undo_from.Given as goal

abbrev pub invariant-loop-held : goal.invariant-loop-held
invariant-loop-held l = record {
  log : IsLog (undone l.fn.parents.places l.fn.held.items) l.held.items l.parents.places;
  tree : IsTreeOfAdmitted l.parents;
  bound : l.from ≤ vec_len l.held;
  shorter : vec_len l.held ≤ vec_len l.fn.held;
  held : l.held.items ≡ take (vec_len l.held) l.fn.held.items;
  admitted : l.parents.admitted ≡ l.fn.parents.admitted;
  capacity : vec_capacity l.held ≡ vec_capacity l.fn.held;
  tally : Worked l.fn.tally l.tally (vec_len l.fn.held - vec_len l.held);
}

abbrev pub decreases-loop-held : goal.decreases-loop-held
decreases-loop-held l = vec_len l.held
