use Rattle.std.proofs.Common.{subst}
use Rattle.fugue_tree.specs.Tree.{OwnedRows, IsFirstChild, kept_rows}
use Rattle.fugue_tree.proofs.PlaceLaws.{first_is}
use Rattle.fugue_tree.proofs.tree.Tree.first.Goals as goal

pub returns-clause-first : goal.returns-clause-first
returns-clause-first c =
    subst (λ (t : OwnedRows). IsFirstChild t.rows c.args.anchor c.args.side c.first_child.result) c.self.view_is
    (first_is (kept_rows c.self.inside.rows.entries) c.self.inside.children c.self.invariant.same c.args.anchor c.args.side c.first_child.result c.first_child.ensures)
