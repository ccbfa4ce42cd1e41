use Rattle.std.proofs.Common.{◌≤◌, ◌+◌, ◌-◌, ◌++◌, length, drop, vec_len, vec_capacity}
use Rattle.tree_move.specs.Parents.{IsTreeOfAdmitted}
use Rattle.tree_log.specs.Log.{undone, steps}
use Rattle.tree_log.specs.Merge.{Redo, merged}
use Rattle.tree_log.specs.Moves.{Rises, Worked}
use Rattle.tree_log.proofs.merge.redo.Given as goal

abbrev pub invariant-loop-i : goal.invariant-loop-i
invariant-loop-i l = record {
  todo : Redo (undone l.fn.parents.places l.fn.held.items) l.held.items l.parents.places (merged (drop l.i l.later) (drop l.j l.moves)) (steps l.fn.held.items ++ merged l.later l.moves) l.parents.admitted;
  tree : IsTreeOfAdmitted l.parents;
  i_bound : l.i ≤ length l.later;
  j_bound : l.j ≤ length l.moves;
  later_rises : Rises (drop l.i l.later);
  moves_rise : Rises (drop l.j l.moves);
  room : vec_len l.held + ((length l.later - l.i) + (length l.moves - l.j)) ≤ vec_capacity l.held;
  tally : Worked l.fn.tally l.tally (l.i + l.j);
}

abbrev pub decreases-loop-i : goal.decreases-loop-i
decreases-loop-i l = (length l.later - l.i) + (length l.moves - l.j)
