use Rattle.std.proofs.Common.{◌≡◌, ◌++◌, flat_map, reverse}
use Rattle.std.specs.List.{AllByRecursion}
use Rattle.model.specs.Walk.{walk}
use Rattle.fugue_text.specs.Runs.{places, rows_in}
use Rattle.fugue_text.specs.Pieces.{IsPiece, ids_in}
use Rattle.fugue_text.proofs.PieceLaws.{AreSound, given, steps_left}
use Rattle.fugue_text.proofs.pieces.pieces_of.Given as goal

abbrev pub invariant-loop-step : goal.invariant-loop-step
invariant-loop-step l = record {
  reads : flat_map (given (places (rows_in l.runs.entries))) l.stack.items ++ ids_in (reverse l.pieces.items) ≡ walk (places (rows_in l.runs.entries));
  sound : AreSound l.runs.entries l.stack.items;
  pieces : AllByRecursion (IsPiece l.runs.entries) (reverse l.pieces.items);
}

abbrev pub decreases-loop-step : goal.decreases-loop-step
decreases-loop-step l = steps_left (places (rows_in l.runs.entries)) l.stack.items
