use Rattle.std.proofs.Common.{◌≡◌, ◌+◌, ◌≤◌, ◌++◌, map, drop, length, reverse}
use Rattle.doc_store.specs.Views.{pending_at}
use Rattle.doc_store.proofs.children.open_all.Given as goal

abbrev pub invariant-loop-left : goal.invariant-loop-left
invariant-loop-left l = record { within : l.left ≤ length l.ids; depth : l.depth ≡ l.above + 1; pushed : l.stack.items ≡ l.initial.stack.items ++ reverse (map (pending_at l.depth) (drop l.left l.ids)) }

abbrev pub decreases-loop-left : goal.decreases-loop-left
decreases-loop-left l = l.left
