use Rattle.tree_move.proofs.PlaceLaws.{undo_gives_back}
use Rattle.tree_move.proofs.parents.tests.there_and_back.Goals as goal

pub undo-requires-clause-tree : goal.undo-requires-clause-tree
undo-requires-clause-tree c =
    let e = c.do_move-step.ensures in
    rw (e.places, e.child, e.before, undo_gives_back) c.parent_of.ensures.tree.tree
