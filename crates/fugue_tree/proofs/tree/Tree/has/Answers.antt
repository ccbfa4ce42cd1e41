use Rattle.std.proofs.Common.{◌∙◌, ap, sym, is_some}
use Rattle.walk_laws.specs.Insertion.{is_row}
use Rattle.fugue_tree.specs.Tree.{OwnedRows}
use Rattle.fugue_tree.proofs.RowLaws.{anchor_of-kept, is_some-kept}
use Rattle.fugue_tree.proofs.tree.Tree.has.Goals as goal

pub returns-clause-row : goal.returns-clause-row
returns-clause-row c =
    c.contains_key.ensures ∙ sym (is_some-kept _) ∙ ap is_some (sym (anchor_of-kept c.self.inside.rows.entries c.args.id)) ∙ ap (λ (t : OwnedRows). is_row t.rows c.args.id) c.self.view_is
