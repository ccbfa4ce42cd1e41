use Rattle.std.proofs.Common.{◌≡◌, ◌∙◌, ap, sym, subst, map, IfOk}
use Rattle.std.specs.FinMap.{entries}
use Rattle.fugue_tree.specs.Trees.{Table, place_row}
use Rattle.fugue_tree.proofs.TreesLaws.{entries_kept}
use Rattle.fugue_tree.proofs.trees.Trees.rows.Goals as goal

pub returns-clause-rows : goal.returns-clause-rows
returns-clause-rows c =
    let same = sym (entries_kept c.self.inside.rows.entries c.rows_in.ensures.ordered) ∙ ap (λ (m : Table). entries m) c.self.view_is in
    subst (λ es. IfOk c.rows_in.result (λ v. v.items ≡ map place_row es)) same c.rows_in.ensures.rows
