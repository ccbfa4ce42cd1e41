use Rattle.tree_move.proofs.SlotLaws.{rows_come_back}
use Rattle.tree_move.proofs.parents.tests.made_again.Goals as goal

pub from_rows-requires-clause-rising : goal.from_rows-requires-clause-rising
from_rows-requires-clause-rising c = rw (c.as_slice.ensures.value, c.in_ok-rows.ensures) (rows_come_back c.args.parents.now.places).rising

pub from_rows-requires-clause-tree : goal.from_rows-requires-clause-tree
from_rows-requires-clause-tree c =
    let same = (rows_come_back c.args.parents.now.places).same in rw (c.as_slice.ensures.value, c.in_ok-rows.ensures, same) c.parent_of.ensures.tree.tree
