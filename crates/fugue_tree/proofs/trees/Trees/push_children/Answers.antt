use Rattle.std.proofs.Common.{◌≡◌, ◌++◌, subst, map, OnOk}
use Rattle.fugue_tree.specs.declared.walking.Task.TheVariants.{Visit}
use Rattle.fugue_tree.specs.Tree.{IsKept}
use Rattle.fugue_tree.specs.Trees.{Table, children_of}
use Rattle.fugue_tree.proofs.WalkLaws.{children_are}
use Rattle.fugue_tree.proofs.OwnedLaws.{own_sorted}
use Rattle.fugue_tree.proofs.TreesLaws.{own_rows}
use Rattle.fugue_tree.proofs.trees.Trees.push_children.Goals as goal

pub returns-clause-ok : goal.returns-clause-ok
returns-clause-ok c =
    let owner = c.args.owner in
    let children = children_of c.self.inside.children owner in
    let kept = subst (λ (m : Table). IsKept (own_rows m owner) children) c.self.view_is (c.self.invariant owner) in
    let same = children_are (own_rows c.args.self.now owner) children kept.tree.rising kept.same (own_sorted owner c.self.inside.children.keys c.push_owned.ensures.ordered) c.args.anchor c.args.side in
    subst (λ cs. OnOk c.push_owned.result (c.push_owned.new.stack.items ≡ c.args.stack.now.items ++ map Visit cs)) same c.push_owned.ensures.ok
