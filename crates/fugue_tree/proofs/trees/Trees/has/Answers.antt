use Rattle.std.proofs.Common.{◌∙◌, ap, sym, is_some}
use Rattle.std.specs.FinMap as fin
use Rattle.model.specs.State.{RowKey}
use Rattle.fugue_tree.specs.Trees.{Table}
use Rattle.fugue_tree.proofs.TreesLaws.{has_kept}
use Rattle.fugue_tree.proofs.trees.Trees.has.Goals as goal

pub returns-clause-row : goal.returns-clause-row
returns-clause-row c =
    let key : RowKey = (c.args.owner, c.args.id) in
    c.contains_key.ensures ∙ sym (has_kept c.self.inside.rows.entries key) ∙ ap (λ (m : Table). is_some (fin.get m key)) c.self.view_is
