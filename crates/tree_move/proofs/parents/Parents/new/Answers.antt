use Rattle.tree_move.proofs.PlaceLaws.{none_are_tree}
use Rattle.tree_move.proofs.parents.Parents.new.Goals as goal

pub invariant_of-result : goal.invariant_of-result
invariant_of-result c = rw c.new.ensures.empty none_are_tree

pub returns-clause-tree : goal.returns-clause-tree
returns-clause-tree c = rw c.new.ensures.empty none_are_tree
