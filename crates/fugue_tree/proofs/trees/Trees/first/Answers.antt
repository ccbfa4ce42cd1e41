use Rattle.std.proofs.Common.{subst}
use Rattle.fugue_tree.specs.Tree.{IsFirstChild}
use Rattle.fugue_tree.specs.Trees.{Table, children_of, table_of}
use Rattle.fugue_tree.proofs.PlaceLaws.{first_is}
use Rattle.fugue_tree.proofs.TreesLaws.{own_rows}
use Rattle.fugue_tree.proofs.trees.Trees.first.Goals as goal

pub returns-clause-first : goal.returns-clause-first
returns-clause-first c =
    let before = table_of c.self.inside.rows.entries in
    let owner = c.args.owner in
    subst (λ (m : Table). IsFirstChild (own_rows m owner) c.args.anchor c.args.side c.first_owned.result) c.self.view_is
    (first_is (own_rows before owner) (children_of c.self.inside.children owner) (c.self.invariant owner).same c.args.anchor c.args.side c.first_owned.result c.first_owned.ensures)
