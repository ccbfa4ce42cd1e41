use Rattle.std.proofs.Common.{◌≡◌, ◌++◌, filter_map}
use Rattle.tree_move.specs.Parents.{slot_child}
use Rattle.tree_move.proofs.parents.children_in.Given as goal

abbrev pub invariant-loop-child : goal.invariant-loop-child
invariant-loop-child l = l.found.items ++ filter_map (slot_child l.parent) l.child-iterator ≡ filter_map (slot_child l.parent) l.slots.entries
