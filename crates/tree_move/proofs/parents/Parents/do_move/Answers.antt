use Rattle.std.proofs.Common.{◌∙◌, sym}
use Rattle.tree_move.specs.Parents.{place_of}
use Rattle.model_laws.proofs.TreeLaws.{insert_keeps_tree}
use Rattle.tree_move.proofs.parents.Parents.do_move.Goals as goal

pub makes_cycle-requires-clause-below : goal.makes_cycle-requires-clause-below
makes_cycle-requires-clause-below c = c.parent_of-before.ensures.tree.below c.args.child c.requires.admitted

pub makes_cycle-requires-clause-tree : goal.makes_cycle-requires-clause-tree
makes_cycle-requires-clause-tree c = c.parent_of-before.ensures.tree.tree

pub put-requires-clause-tree : goal.put-requires-clause-tree
put-requires-clause-tree c =
    let k = c.parent_of-before.ensures.tree in
    insert_keeps_tree c.args.self.now.places k.tree c.args.child (place_of c.args.to) (k.below c.args.child c.requires.admitted) c.requires.parent
    (sym c.makes_cycle.ensures ∙ c.if-not-makes_cycle.true)
