use Rattle.std.proofs.Common.{◌≡◌, ◌∙◌, ap, sym, subst, refl, true, false, is_some, Some, None, List, [], ◌∷◌, take, get_or}
use Rattle.std.proofs.lemmas.Result.{on_ok_weaker, on_err_weaker}
use Rattle.std.specs.Map.{lookup}
use Rattle.std.specs.BTreeMap.{BTreeMap}
use Rattle.std.specs.FinMap as fin
use Rattle.op_ids.specs.declared.OpId.{OpId}
use Rattle.op_ids.specs.Order.{id_cmp, id_lt, root_id}
use Rattle.model.specs.Value.{Value}
use Rattle.model.specs.Operation.{Anchor, add_item}
use Rattle.model.specs.State.{Element, row_cmp}
use Rattle.walk_laws.specs.Insertion.{with_row}
use Rattle.op_grammar.specs.Values.{value_of, own_value_of}
use Rattle.move_list.specs.Items.{added, seen}
use Rattle.move_list.specs.Kept.{NodeRows, AreAt, AreListsOf, tables_of}
use Rattle.move_list.specs.Lists.{ListTables, AreLists, HangsIn, lists_after, place_entry, place_entries, element_entry, element_entries, tables_of_rows}
use Rattle.walk_laws.proofs.Walks.{key_eq}
use Rattle.move_list.proofs.NodeLaws as laws
use Rattle.move_list.proofs.NodeLaws.{Nodes}
use Rattle.move_list.proofs.lists.Lists.add.Goals as goal

pub add-requires-clause-new_position : goal.add-requires-clause-new_position
add-requires-clause-new_position c =
    let es = c.self.inside.nodes.entries in
    let n = c.args.node in
    let u = c.in-Some.list.now in
    let has = laws.has_found es c.get_mut.ensures.ordered n u (sym c.in-Some.ensures.value) in
    laws.fresh_place es n u has c.args.self.now c.self.view_is c.args.id c.requires.new_position

pub add-requires-clause-new_element : goal.add-requires-clause-new_element
add-requires-clause-new_element c =
    let es = c.self.inside.nodes.entries in
    let n = c.args.node in
    let u = c.in-Some.list.now in
    let has = laws.has_found es c.get_mut.ensures.ordered n u (sym c.in-Some.ensures.value) in
    laws.fresh_item es n u has c.args.self.now c.self.view_is c.args.id c.requires.new_element

pub add-requires-clause-hangs : goal.add-requires-clause-hangs
add-requires-clause-hangs c =
    let es = c.self.inside.nodes.entries in
    let n = c.args.node in
    let u = c.in-Some.list.now in
    let has = laws.has_found es c.get_mut.ensures.ordered n u (sym c.in-Some.ensures.value) in
    laws.hangs_well es n u has c.args.self.now c.self.view_is c.args.id (record { on = c.args.anchor; side = c.args.side }) c.requires.hangs

pub invariant_of-self : goal.invariant_of-self
invariant_of-self c =
    let es = c.self.inside.nodes.entries in
    let se = c.get_mut.ensures.ordered in
    let n = c.args.node in
    let u = c.in-Some.list.now in
    let v = c.add.new.self in
    let fs = (c.get_mut.follows.lender v).entries in
    let held = c.get_mut.follows.holds v in
    let there : lookup (key_eq n) es ≡ Some u = sym c.in-Some.ensures.value in
    let has = laws.has_found es se n u there in
    let now : NodeRows = record u { positions = with_row u.positions c.args.id (record { on = c.args.anchor; side = c.args.side }); elements = fin.insert u.elements c.args.id (added c.args.id (value_of c.args.value)) } in
    let kept : AreListsOf fs =
    subst (λ (xs : Nodes). AreListsOf xs) (sym held.0) (laws.lists_set es n v c.self.invariant (laws.list_kept n u v now c.add.result refl (laws.list_of es c.self.invariant n u there) c.add.ensures.ok c.add.ensures.list c.add.ensures.err)) in
    kept

pub returns-in-Some-clause-ok : goal.returns-in-Some-clause-ok
returns-in-Some-clause-ok c =
    let es = c.self.inside.nodes.entries in
    let se = c.get_mut.ensures.ordered in
    let n = c.args.node in
    let u = c.in-Some.list.now in
    let v = c.add.new.self in
    let fs = (c.get_mut.follows.lender v).entries in
    let held = c.get_mut.follows.holds v in
    let there : lookup (key_eq n) es ≡ Some u = sym c.in-Some.ensures.value in
    let has = laws.has_found es se n u there in
    let updates = (held.3 (ap is_some there)).0 in
    let a : Anchor = record { on = c.args.anchor; side = c.args.side } in
    let value = value_of c.args.value in
    on_ok_weaker c.add.result (λ e. laws.lists_added es fs se held.4 n u v updates has c.args.id a value e ∙ ap (λ (t : ListTables). lists_after t c.args.id (add_item n a value)) c.self.view_is) c.add.ensures.ok

pub returns-in-Some-clause-err : goal.returns-in-Some-clause-err
returns-in-Some-clause-err c =
    let es = c.self.inside.nodes.entries in
    let se = c.get_mut.ensures.ordered in
    let n = c.args.node in
    let u = c.in-Some.list.now in
    let v = c.add.new.self in
    let fs = (c.get_mut.follows.lender v).entries in
    let held = c.get_mut.follows.holds v in
    let there : lookup (key_eq n) es ≡ Some u = sym c.in-Some.ensures.value in
    let has = laws.has_found es se n u there in
    let updates = (held.3 (ap is_some there)).0 in
    on_err_weaker c.add.result (λ e. laws.lists_same es fs se held.4 n u v updates has e ∙ c.self.view_is) c.add.ensures.err

pub returns-in-Some-clause-lists : goal.returns-in-Some-clause-lists
returns-in-Some-clause-lists c =
    let es = c.self.inside.nodes.entries in
    let se = c.get_mut.ensures.ordered in
    let n = c.args.node in
    let u = c.in-Some.list.now in
    let v = c.add.new.self in
    let fs = (c.get_mut.follows.lender v).entries in
    let held = c.get_mut.follows.holds v in
    let there : lookup (key_eq n) es ≡ Some u = sym c.in-Some.ensures.value in
    let has = laws.has_found es se n u there in
    let now : NodeRows = record u { positions = with_row u.positions c.args.id (record { on = c.args.anchor; side = c.args.side }); elements = fin.insert u.elements c.args.id (added c.args.id (value_of c.args.value)) } in
    let kept : AreListsOf fs =
    subst (λ (xs : Nodes). AreListsOf xs) (sym held.0) (laws.lists_set es n v c.self.invariant (laws.list_kept n u v now c.add.result refl (laws.list_of es c.self.invariant n u there) c.add.ensures.ok c.add.ensures.list c.add.ensures.err)) in
    laws.lists_are fs held.4 kept

pub add-requires-2-clause-new_element : goal.add-requires-2-clause-new_element
add-requires-2-clause-new_element c =
    ap (λ (m : fin.FinMap id_cmp Element). fin.get m c.args.id) c.new-list.ensures.elements ∙ fin.get-empty id_cmp c.args.id

pub add-requires-2-clause-hangs : goal.add-requires-2-clause-hangs
add-requires-2-clause-hangs c =
    let n = c.args.node in
    let u = c.new-list.result in
    let old = c.get_mut.follows.lender-at-none in
    let same : old ≡ c.self.inside.nodes = c.get_mut.follows.holds-at-none in
    let ordered : laws.Rising old.entries = subst (λ (m : BTreeMap OpId NodeRows). laws.Rising m.entries) (sym same) c.get_mut.ensures.ordered in
    let none : lookup (key_eq n) old.entries ≡ None = ap (λ (m : BTreeMap OpId NodeRows). lookup (key_eq n) m.entries) same ∙ sym c.in_default.ensures.value in
    let has = laws.has_none old.entries ordered n u none c.new-list.ensures.positions c.new-list.ensures.elements in
    let view : tables_of old.entries ≡ c.args.self.now = ap (λ (m : BTreeMap OpId NodeRows). tables_of m.entries) same ∙ c.self.view_is in
    laws.hangs_well old.entries n u has c.args.self.now view c.args.id (record { on = c.args.anchor; side = c.args.side }) c.requires.hangs

pub returns-in_err-add-clause-lists : goal.returns-in_err-add-clause-lists
returns-in_err-add-clause-lists c =
    subst (λ (m : BTreeMap OpId NodeRows). AreLists (tables_of m.entries)) (sym c.get_mut.follows.holds-at-none) (laws.lists_are c.self.inside.nodes.entries c.get_mut.ensures.ordered c.self.invariant)

pub returns-in_err-insert-clause-lists : goal.returns-in_err-insert-clause-lists
returns-in_err-insert-clause-lists c =
    let old : AreLists (tables_of c.get_mut.follows.lender-at-none.entries) = subst (λ (m : BTreeMap OpId NodeRows). AreLists (tables_of m.entries)) (sym c.get_mut.follows.holds-at-none) (laws.lists_are c.self.inside.nodes.entries c.get_mut.ensures.ordered c.self.invariant) in
    subst (λ (xs : Nodes). AreLists (tables_of xs)) (sym c.in_err-insert.ensures.err) old

pub invariant_of-self-2 : goal.invariant_of-self-2
invariant_of-self-2 c =
    let n = c.args.node in
    let u = c.new-list.result in
    let old = c.get_mut.follows.lender-at-none in
    let same : old ≡ c.self.inside.nodes = c.get_mut.follows.holds-at-none in
    let ordered : laws.Rising old.entries = subst (λ (m : BTreeMap OpId NodeRows). laws.Rising m.entries) (sym same) c.get_mut.ensures.ordered in
    let none : lookup (key_eq n) old.entries ≡ None = ap (λ (m : BTreeMap OpId NodeRows). lookup (key_eq n) m.entries) same ∙ sym c.in_default.ensures.value in
    let has = laws.has_none old.entries ordered n u none c.new-list.ensures.positions c.new-list.ensures.elements in
    let view : tables_of old.entries ≡ c.args.self.now = ap (λ (m : BTreeMap OpId NodeRows). tables_of m.entries) same ∙ c.self.view_is in
    let kept : AreListsOf old.entries = subst (λ (m : BTreeMap OpId NodeRows). AreListsOf m.entries) (sym same) c.self.invariant in
    let v = c.add-2.new.self in
    let now : AreListsOf c.insert.new.self.entries =
    subst (λ (xs : Nodes). AreListsOf xs) (sym c.in_ok-insert.ensures.entries) (laws.lists_insert old.entries n v kept (record { owner = ap (λ (l : NodeRows). l.owner) c.in_ok-add.ensures.ok ∙ c.new-list.ensures.owner; list = c.in_ok-add.ensures.list })) in
    now

pub returns-clause-ok : goal.returns-clause-ok
returns-clause-ok c =
    let n = c.args.node in
    let u = c.new-list.result in
    let old = c.get_mut.follows.lender-at-none in
    let same : old ≡ c.self.inside.nodes = c.get_mut.follows.holds-at-none in
    let ordered : laws.Rising old.entries = subst (λ (m : BTreeMap OpId NodeRows). laws.Rising m.entries) (sym same) c.get_mut.ensures.ordered in
    let none : lookup (key_eq n) old.entries ≡ None = ap (λ (m : BTreeMap OpId NodeRows). lookup (key_eq n) m.entries) same ∙ sym c.in_default.ensures.value in
    let has = laws.has_none old.entries ordered n u none c.new-list.ensures.positions c.new-list.ensures.elements in
    let view : tables_of old.entries ≡ c.args.self.now = ap (λ (m : BTreeMap OpId NodeRows). tables_of m.entries) same ∙ c.self.view_is in
    let v = c.add-2.new.self in
    let a : Anchor = record { on = c.args.anchor; side = c.args.side } in
    let value = value_of c.args.value in
    laws.lists_added old.entries c.insert.new.self.entries c.in_ok-insert.ensures.was_ordered c.in_ok-insert.ensures.ordered n u v c.in_ok-insert.ensures.updates.0 has c.args.id a value c.in_ok-add.ensures.ok
    ∙ ap (λ (t : ListTables). lists_after t c.args.id (add_item n a value)) view

pub returns-clause-lists : goal.returns-clause-lists
returns-clause-lists c =
    let n = c.args.node in
    let u = c.new-list.result in
    let old = c.get_mut.follows.lender-at-none in
    let same : old ≡ c.self.inside.nodes = c.get_mut.follows.holds-at-none in
    let ordered : laws.Rising old.entries = subst (λ (m : BTreeMap OpId NodeRows). laws.Rising m.entries) (sym same) c.get_mut.ensures.ordered in
    let none : lookup (key_eq n) old.entries ≡ None = ap (λ (m : BTreeMap OpId NodeRows). lookup (key_eq n) m.entries) same ∙ sym c.in_default.ensures.value in
    let has = laws.has_none old.entries ordered n u none c.new-list.ensures.positions c.new-list.ensures.elements in
    let view : tables_of old.entries ≡ c.args.self.now = ap (λ (m : BTreeMap OpId NodeRows). tables_of m.entries) same ∙ c.self.view_is in
    let kept : AreListsOf old.entries = subst (λ (m : BTreeMap OpId NodeRows). AreListsOf m.entries) (sym same) c.self.invariant in
    let v = c.add-2.new.self in
    let now : AreListsOf c.insert.new.self.entries =
    subst (λ (xs : Nodes). AreListsOf xs) (sym c.in_ok-insert.ensures.entries) (laws.lists_insert old.entries n v kept (record { owner = ap (λ (l : NodeRows). l.owner) c.in_ok-add.ensures.ok ∙ c.new-list.ensures.owner; list = c.in_ok-add.ensures.list })) in
    laws.lists_are c.insert.new.self.entries c.in_ok-insert.ensures.ordered now
