use Rattle.std.proofs.Common.{◌≡◌, ◌∙◌, ap, sym, subst, refl, true, false, is_some, Some, None, List, [], ◌∷◌, take, get_or}
use Rattle.std.proofs.lemmas.Result.{on_ok_weaker, on_err_weaker}
use Rattle.std.specs.Map.{lookup}
use Rattle.std.specs.BTreeMap.{BTreeMap}
use Rattle.std.specs.FinMap as fin
use Rattle.op_ids.specs.declared.OpId.{OpId}
use Rattle.op_ids.specs.Order.{id_cmp, id_lt, root_id}
use Rattle.model.specs.Value.{Value}
use Rattle.model.specs.Operation.{Anchor, add_item}
use Rattle.model.specs.State.{Element, row_cmp}
use Rattle.walk_laws.specs.Insertion.{with_row}
use Rattle.op_grammar.specs.Values.{value_of, own_value_of}
use Rattle.move_list.specs.Items.{added, seen}
use Rattle.move_list.specs.Kept.{NodeRows, AreAt, AreListsOf, tables_of}
use Rattle.move_list.specs.Lists.{ListTables, AreLists, HangsIn, lists_after, place_entry, place_entries, element_entry, element_entries, tables_of_rows}
use Rattle.walk_laws.proofs.Walks.{key_eq}
use Rattle.move_list.proofs.NodeLaws as laws
use Rattle.move_list.proofs.NodeLaws.{Nodes}
use Rattle.move_list.proofs.lists.Lists.put.Goals as goal

pub put-requires-clause-new_element : goal.put-requires-clause-new_element
put-requires-clause-new_element c =
    let es = c.self.inside.nodes.entries in
    let n = c.args.row.now.node in
    let u = c.in-Some.list.now in
    let has = laws.has_found es c.get_mut.ensures.ordered n u (sym c.in-Some.ensures.value) in
    laws.fresh_item es n u has c.args.self.now c.self.view_is c.args.row.now.id c.requires.new_element

pub put-requires-clause-items : goal.put-requires-clause-items
put-requires-clause-items c =
    let es = c.self.inside.nodes.entries in
    let n = c.args.row.now.node in
    let u = c.in-Some.list.now in
    let has = laws.has_found es c.get_mut.ensures.ordered n u (sym c.in-Some.ensures.value) in
    let row = c.args.row.now in
    let make : Value → Element = λ x. record { position = row.position; writer = row.writer; value = x; dropped = row.dropped } in
    let value : own_value_of c.in_ok-of.field-0 ≡ own_value_of row.value = c.in_ok-of.ensures ∙ c.as_value.ensures in
    let item = make (own_value_of c.in_ok-of.field-0) in
    subst (λ (x : Value). AreAt u.positions (fin.insert u.elements row.id (make x))) (sym value) (laws.at_put es n u has c.args.self.now c.self.view_is row.id (make (own_value_of row.value)) c.requires.lists)

pub invariant_of-self : goal.invariant_of-self
invariant_of-self c =
    let row = c.args.row.now in
    let make : Value → Element = λ x. record { position = row.position; writer = row.writer; value = x; dropped = row.dropped } in
    let value : own_value_of c.in_ok-of.field-0 ≡ own_value_of row.value = c.in_ok-of.ensures ∙ c.as_value.ensures in
    let item = make (own_value_of c.in_ok-of.field-0) in
    let es = c.self.inside.nodes.entries in
    let se = c.get_mut.ensures.ordered in
    let n = c.args.row.now.node in
    let u = c.in-Some.list.now in
    let v = c.put.new.self in
    let fs = (c.get_mut.follows.lender v).entries in
    let held = c.get_mut.follows.holds v in
    let there : lookup (key_eq n) es ≡ Some u = sym c.in-Some.ensures.value in
    let has = laws.has_found es se n u there in
    let now : NodeRows = record u { elements = fin.insert u.elements c.args.row.now.id item } in
    let kept : AreListsOf fs =
    subst (λ (xs : Nodes). AreListsOf xs) (sym held.0) (laws.lists_set es n v c.self.invariant (laws.list_kept n u v now c.put.result refl (laws.list_of es c.self.invariant n u there) c.put.ensures.ok c.put.ensures.list c.put.ensures.err)) in
    kept

pub returns-in-Some : goal.returns-in-Some
returns-in-Some c =
    let row = c.args.row.now in
    let make : Value → Element = λ x. record { position = row.position; writer = row.writer; value = x; dropped = row.dropped } in
    let value : own_value_of c.in_ok-of.field-0 ≡ own_value_of row.value = c.in_ok-of.ensures ∙ c.as_value.ensures in
    let item = make (own_value_of c.in_ok-of.field-0) in
    let es = c.self.inside.nodes.entries in
    let se = c.get_mut.ensures.ordered in
    let n = c.args.row.now.node in
    let u = c.in-Some.list.now in
    let v = c.put.new.self in
    let fs = (c.get_mut.follows.lender v).entries in
    let held = c.get_mut.follows.holds v in
    let there : lookup (key_eq n) es ≡ Some u = sym c.in-Some.ensures.value in
    let has = laws.has_found es se n u there in
    let updates = (held.3 (ap is_some there)).0 in
    on_ok_weaker c.put.result (λ e. laws.lists_put es fs se held.4 n u v updates has row.id item e
    ∙ ap (λ (t : ListTables). record t { elements = fin.insert t.elements (n, row.id) item }) c.self.view_is
    ∙ ap (λ (x : Value). record c.args.self.now { elements = fin.insert c.args.self.now.elements (n, row.id) (make x) }) value) c.put.ensures.ok

pub returns : goal.returns
returns c =
    let row = c.args.row.now in
    let es = c.self.inside.nodes.entries in
    let e = (element_entry row).1 in
    let none : lookup (key_eq row.node) es ≡ None = sym c.in_default.ensures.value in
    let there : is_some (fin.get c.args.self.now.positions (row.node, row.position)) ≡ true = c.requires.lists.position row.node row.id e (laws.put_there c.args.self.now.elements row.node row.id e) in
    let no : true ≡ false = sym there ∙ ap (λ (t : ListTables). is_some (fin.get t.positions (row.node, row.position))) (sym c.self.view_is) ∙ ap is_some (laws.no_place es c.get_mut.ensures.ordered row.node row.position none) in
    absurd (let no' : true ≡ false = no in cc)
