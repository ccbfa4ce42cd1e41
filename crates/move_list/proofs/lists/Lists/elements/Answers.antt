use Rattle.std.proofs.Common.{◌≡◌, ◌∙◌, ap, sym, subst, refl, true, false, is_some, Some, None, List, [], ◌∷◌}
use Rattle.std.proofs.lemmas.Result.{on_ok_weaker, on_err_weaker, IfOk-weaker}
use Rattle.std.specs.Map.{lookup}
use Rattle.std.specs.BTreeMap.{BTreeMap}
use Rattle.std.specs.FinMap as fin
use Rattle.op_ids.specs.declared.OpId.{OpId}
use Rattle.model.specs.Operation.{Anchor, add_item, shift_item, set_item, drop_item}
use Rattle.model.specs.State.{Element}
use Rattle.model_laws.specs.Arrival.{set_late, shifted_late}
use Rattle.walk_laws.specs.Insertion.{with_row}
use Rattle.op_grammar.specs.Values.{value_of}
use Rattle.move_list.specs.Items.{added, dropped_of, edited}
use Rattle.move_list.specs.Kept.{NodeRows, AreListsOf, tables_of}
use Rattle.move_list.specs.Lists.{ListTables, lists_after}
use Rattle.walk_laws.proofs.Walks.{key_eq}
use Rattle.move_list.proofs.NodeLaws as laws
use Rattle.move_list.proofs.NodeLaws.{Nodes}
use Rattle.model.specs.View.{live_elements, elements_of}
use Rattle.move_list.specs.Lists.{document_of, handed, ids_of, values_of}
use Rattle.move_list.specs.Kept.{item_at, shown}
use Rattle.std.proofs.Common.{filter_map}
use Rattle.move_list.proofs.lists.Lists.elements.Goals as goal

pub returns-in-Some-clause-ids : goal.returns-in-Some-clause-ids
returns-in-Some-clause-ids c =
    let es = c.self.inside.nodes.entries in
    let se = c.len.ensures.ordered in
    let n = c.args.node in
    let l = c.in-Some.list.now in
    let there : lookup (key_eq n) es ≡ Some l = sym c.in-Some.ensures.value in
    let view = ap (λ (t : ListTables). live_elements (document_of t) n) c.self.view_is in
    IfOk-weaker c.elements.result (λ v. handed v.items ≡ filter_map (item_at l.elements) (shown l)) (λ v. ids_of v.items ≡ live_elements (document_of c.args.self.now) n)
    (λ v e. laws.ids_shown es se c.self.invariant n l there v.items e ∙ view) c.elements.ensures

pub returns-in-Some-clause-values : goal.returns-in-Some-clause-values
returns-in-Some-clause-values c =
    let es = c.self.inside.nodes.entries in
    let se = c.len.ensures.ordered in
    let n = c.args.node in
    let l = c.in-Some.list.now in
    let there : lookup (key_eq n) es ≡ Some l = sym c.in-Some.ensures.value in
    let view = ap (λ (t : ListTables). elements_of (document_of t) n) c.self.view_is in
    IfOk-weaker c.elements.result (λ v. handed v.items ≡ filter_map (item_at l.elements) (shown l)) (λ v. values_of v.items ≡ elements_of (document_of c.args.self.now) n)
    (λ v e. laws.values_shown es se c.self.invariant n l there v.items e ∙ view) c.elements.ensures

pub returns-in-None-clause-ids : goal.returns-in-None-clause-ids
returns-in-None-clause-ids c =
    let es = c.self.inside.nodes.entries in
    let se = c.len.ensures.ordered in
    let n = c.args.node in
    let none : lookup (key_eq n) es ≡ None = sym c.in-None.ensures.value in
    ap ids_of c.new.ensures.items ∙ laws.none_shown es se c.self.invariant n none ∙ ap (λ (t : ListTables). live_elements (document_of t) n) c.self.view_is

pub returns-in-None-clause-values : goal.returns-in-None-clause-values
returns-in-None-clause-values c =
    let es = c.self.inside.nodes.entries in
    let se = c.len.ensures.ordered in
    let n = c.args.node in
    let none : lookup (key_eq n) es ≡ None = sym c.in-None.ensures.value in
    ap values_of c.new.ensures.items ∙ laws.no_values es se c.self.invariant n none ∙ ap (λ (t : ListTables). elements_of (document_of t) n) c.self.view_is
