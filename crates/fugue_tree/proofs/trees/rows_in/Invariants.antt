use Rattle.std.proofs.Common.{◌≡◌, ◌++◌, map}
use Rattle.fugue_tree.specs.Trees.{kept_list, place_row}
use Rattle.fugue_tree.proofs.trees.rows_in.Given as goal

abbrev pub invariant-loop-key : goal.invariant-loop-key
invariant-loop-key l = l.list.items ++ map place_row (kept_list l.key-iterator) ≡ map place_row (kept_list l.rows.entries)
