use Rattle.std.proofs.Common.{◌≡◌, ◌++◌, filter_map}
use Rattle.tree_move.specs.Parents.{slot_row}
use Rattle.tree_move.proofs.parents.rows_in.Given as goal

abbrev pub invariant-loop-id : goal.invariant-loop-id
invariant-loop-id l = l.rows.items ++ filter_map slot_row l.id-iterator ≡ filter_map slot_row l.slots.entries
