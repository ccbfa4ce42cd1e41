use Rattle.std.proofs.Common.{◌≡◌, ◌∙◌, ap, sym, subst, List, IfOk}
use Rattle.std.specs.FinMap as fin
use Rattle.model.specs.State.{RowKey, Character}
use Rattle.fugue_text.specs.Texts.{AreTexts, Table, own_rows, text_entries}
use Rattle.fugue_text.proofs.NodeLaws as laws
use Rattle.fugue_text.proofs.NodeLaws.{Nodes}
use Rattle.move_list.proofs.TableLaws.{entries_all}
use Rattle.fugue_text.proofs.texts.Texts.rows.Goals as goal

pub returns-clause-rows : goal.returns-clause-rows
returns-clause-rows c =
    let es = c.self.inside.nodes.entries in
    let rows = sym (entries_all own_rows es c.rows_in.ensures.ordered (laws.trees_rise es c.self.invariant)) ∙ ap (λ (t : Table). fin.entries t) c.self.view_is in
    subst (λ (xs : List (RowKey × Character)). IfOk c.rows_in.result (λ v. text_entries v.items ≡ xs)) rows c.rows_in.ensures.rows

pub returns-clause-texts : goal.returns-clause-texts
returns-clause-texts c =
    subst AreTexts c.self.view_is (laws.texts_are c.self.inside.nodes.entries c.rows_in.ensures.ordered c.self.invariant)
