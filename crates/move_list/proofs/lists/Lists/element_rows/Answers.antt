use Rattle.std.proofs.Common.{◌≡◌, ◌∙◌, ap, sym, subst, refl, true, false, is_some, Some, None, List, [], ◌∷◌}
use Rattle.std.proofs.lemmas.Result.{on_ok_weaker, on_err_weaker, IfOk-weaker}
use Rattle.std.specs.Map.{lookup}
use Rattle.std.specs.BTreeMap.{BTreeMap}
use Rattle.std.specs.FinMap as fin
use Rattle.op_ids.specs.declared.OpId.{OpId}
use Rattle.model.specs.Operation.{Anchor, add_item, shift_item, set_item, drop_item}
use Rattle.model.specs.State.{Element}
use Rattle.model_laws.specs.Arrival.{set_late, shifted_late}
use Rattle.walk_laws.specs.Insertion.{with_row}
use Rattle.op_grammar.specs.Values.{value_of}
use Rattle.move_list.specs.Items.{added, dropped_of, edited}
use Rattle.move_list.specs.Kept.{NodeRows, AreListsOf, tables_of}
use Rattle.move_list.specs.Lists.{ListTables, lists_after}
use Rattle.walk_laws.proofs.Walks.{key_eq}
use Rattle.move_list.proofs.NodeLaws as laws
use Rattle.move_list.proofs.NodeLaws.{Nodes}
use Rattle.std.proofs.Common.{IfOk}
use Rattle.model.specs.State.{RowKey}
use Rattle.move_list.specs.Lists.{AreLists, place_entries, element_entries}
use Rattle.move_list.specs.Kept.{places_in, items_in}
use Rattle.move_list.proofs.TableLaws.{entries_all}
use Rattle.move_list.proofs.lists.Lists.element_rows.Goals as goal

pub returns-clause-rows : goal.returns-clause-rows
returns-clause-rows c =
    let es = c.self.inside.nodes.entries in
    let rows = sym (entries_all items_in es c.elements_in.ensures.ordered (laws.items_rise es)) ∙ ap (λ (t : ListTables). fin.entries t.elements) c.self.view_is in
    subst (λ (xs : List (RowKey × Element)). IfOk c.elements_in.result (λ v. element_entries v.items ≡ xs)) rows c.elements_in.ensures.rows

pub returns-clause-lists : goal.returns-clause-lists
returns-clause-lists c =
    subst AreLists c.self.view_is (laws.lists_are c.self.inside.nodes.entries c.elements_in.ensures.ordered c.self.invariant)
