use Rattle.std.proofs.Common.{◌≡◌, ◌++◌, subst, map, OnOk}
use Rattle.fugue_tree.specs.declared.walking.Task.TheVariants.{Visit}
use Rattle.fugue_tree.specs.Tree.{OwnedRows, IsKept}
use Rattle.fugue_tree.proofs.WalkLaws.{children_are}
use Rattle.fugue_tree.proofs.tree.Tree.push_children.Goals as goal

pub returns-clause-ok : goal.returns-clause-ok
returns-clause-ok c =
    let children = c.self.inside.children in
    let kept = subst (λ (t : OwnedRows). IsKept t.rows children) c.self.view_is c.self.invariant in
    let same = children_are c.args.self.now.rows children kept.tree.rising kept.same c.push_visits.ensures.ordered c.args.anchor c.args.side in
    subst (λ cs. OnOk c.push_visits.result (c.push_visits.new.stack.items ≡ c.args.stack.now.items ++ map Visit cs)) same c.push_visits.ensures.ok
