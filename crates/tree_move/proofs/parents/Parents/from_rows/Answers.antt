use Rattle.tree_move.specs.Parents.{nodes_of}
use Rattle.tree_move.proofs.SlotLaws.{rows_make_tree}
use Rattle.tree_move.proofs.parents.Parents.from_rows.Goals as goal

pub invariant_of-result : goal.invariant_of-result
invariant_of-result c = rows_make_tree (nodes_of c.in_ok-slots.slots.entries) c.args.rows.now c.in_ok-slots.ensures.places c.in_ok-slots.ensures.admitted c.requires.tree

pub returns-clause-tree : goal.returns-clause-tree
returns-clause-tree c = invariant_of-result c
