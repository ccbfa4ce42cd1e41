use Rattle.std.proofs.Common.{◌≤◌, map, drop, length}
use Rattle.tree_move.specs.Parents.{entry_of}
use Rattle.doc_store.specs.Views.{Finds}
use Rattle.doc_store.proofs.children.ChildIndex.of.Given as goal

abbrev pub invariant-loop-left : goal.invariant-loop-left
invariant-loop-left l = record { within : l.left ≤ length l.rows; finds : Finds (record { children = l.children }) (map entry_of (drop l.left l.rows)) }

abbrev pub decreases-loop-left : goal.decreases-loop-left
decreases-loop-left l = l.left
