use Rattle.std.proofs.Common.{◌∙◌, ap, sym, subst, map}
use Rattle.walk_laws.specs.Insertion.{IsInsertionTree}
use Rattle.fugue_tree.specs.Tree.{entry_of}
use Rattle.fugue_tree.proofs.RowLaws.{entries_rows}
use Rattle.fugue_tree.proofs.tests.copy_of.Goals as goal

pub from_rows-requires : goal.from_rows-requires
from_rows-requires c =
    let tree = c.args.tree.now in
    subst IsInsertionTree (sym (ap (map entry_of) (c.as_slice.ensures.value ∙ c.in_ok-rows.ensures.rows) ∙ entries_rows tree.owner tree.rows)) c.in_ok-rows.ensures.tree
