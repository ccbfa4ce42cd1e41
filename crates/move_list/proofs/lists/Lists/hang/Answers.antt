use Rattle.std.proofs.Common.{◌≡◌, ◌∙◌, ap, sym, subst, refl, true, false, is_some, Some, None, List, [], ◌∷◌, take, get_or}
use Rattle.std.proofs.lemmas.Result.{on_ok_weaker, on_err_weaker}
use Rattle.std.specs.Map.{lookup}
use Rattle.std.specs.BTreeMap.{BTreeMap}
use Rattle.std.specs.FinMap as fin
use Rattle.op_ids.specs.declared.OpId.{OpId}
use Rattle.op_ids.specs.Order.{id_cmp, id_lt, root_id}
use Rattle.model.specs.Value.{Value}
use Rattle.model.specs.Operation.{Anchor, add_item}
use Rattle.model.specs.State.{Element, row_cmp}
use Rattle.walk_laws.specs.Insertion.{with_row}
use Rattle.op_grammar.specs.Values.{value_of, own_value_of}
use Rattle.move_list.specs.Items.{added, seen}
use Rattle.move_list.specs.Kept.{NodeRows, AreAt, AreListsOf, tables_of}
use Rattle.move_list.specs.Lists.{ListTables, AreLists, HangsIn, lists_after, place_entry, place_entries, element_entry, element_entries, tables_of_rows}
use Rattle.walk_laws.proofs.Walks.{key_eq}
use Rattle.move_list.proofs.NodeLaws as laws
use Rattle.move_list.proofs.NodeLaws.{Nodes}
use Rattle.move_list.proofs.lists.Lists.hang.Goals as goal

pub hang-requires-clause-new_position : goal.hang-requires-clause-new_position
hang-requires-clause-new_position c =
    let es = c.self.inside.nodes.entries in
    let n = c.args.row.now.owner in
    let u = c.in-Some.list.now in
    let has = laws.has_found es c.get_mut.ensures.ordered n u (sym c.in-Some.ensures.value) in
    laws.fresh_place es n u has c.args.self.now c.self.view_is c.args.row.now.id c.requires.new_position

pub hang-requires-clause-hangs : goal.hang-requires-clause-hangs
hang-requires-clause-hangs c =
    let es = c.self.inside.nodes.entries in
    let n = c.args.row.now.owner in
    let u = c.in-Some.list.now in
    let has = laws.has_found es c.get_mut.ensures.ordered n u (sym c.in-Some.ensures.value) in
    laws.hangs_well es n u has c.args.self.now c.self.view_is c.args.row.now.id (record { on = c.args.row.now.anchor; side = c.args.row.now.side }) c.requires.hangs

pub invariant_of-self : goal.invariant_of-self
invariant_of-self c =
    let es = c.self.inside.nodes.entries in
    let se = c.get_mut.ensures.ordered in
    let n = c.args.row.now.owner in
    let u = c.in-Some.list.now in
    let v = c.hang.new.self in
    let fs = (c.get_mut.follows.lender v).entries in
    let held = c.get_mut.follows.holds v in
    let there : lookup (key_eq n) es ≡ Some u = sym c.in-Some.ensures.value in
    let has = laws.has_found es se n u there in
    let now : NodeRows = record u { positions = with_row u.positions c.args.row.now.id (record { on = c.args.row.now.anchor; side = c.args.row.now.side }) } in
    let kept : AreListsOf fs =
    subst (λ (xs : Nodes). AreListsOf xs) (sym held.0) (laws.lists_set es n v c.self.invariant (laws.list_kept n u v now c.hang.result refl (laws.list_of es c.self.invariant n u there) c.hang.ensures.ok c.hang.ensures.list c.hang.ensures.err)) in
    kept

pub returns-in-Some : goal.returns-in-Some
returns-in-Some c =
    let es = c.self.inside.nodes.entries in
    let se = c.get_mut.ensures.ordered in
    let n = c.args.row.now.owner in
    let u = c.in-Some.list.now in
    let v = c.hang.new.self in
    let fs = (c.get_mut.follows.lender v).entries in
    let held = c.get_mut.follows.holds v in
    let there : lookup (key_eq n) es ≡ Some u = sym c.in-Some.ensures.value in
    let has = laws.has_found es se n u there in
    let updates = (held.3 (ap is_some there)).0 in
    let id = c.args.row.now.id in
    let a : Anchor = record { on = c.args.row.now.anchor; side = c.args.row.now.side } in
    on_ok_weaker c.hang.result (λ e. laws.lists_hung es fs se held.4 n u v updates has id a e ∙ ap (λ (t : ListTables). record t { positions = fin.insert t.positions (n, id) a }) c.self.view_is) c.hang.ensures.ok

pub hang-requires-2-clause-hangs : goal.hang-requires-2-clause-hangs
hang-requires-2-clause-hangs c =
    let n = c.args.row.now.owner in
    let u = c.new-list.result in
    let old = c.get_mut.follows.lender-at-none in
    let same : old ≡ c.self.inside.nodes = c.get_mut.follows.holds-at-none in
    let ordered : laws.Rising old.entries = subst (λ (m : BTreeMap OpId NodeRows). laws.Rising m.entries) (sym same) c.get_mut.ensures.ordered in
    let none : lookup (key_eq n) old.entries ≡ None = ap (λ (m : BTreeMap OpId NodeRows). lookup (key_eq n) m.entries) same ∙ sym c.in_default.ensures.value in
    let has = laws.has_none old.entries ordered n u none c.new-list.ensures.positions c.new-list.ensures.elements in
    let view : tables_of old.entries ≡ c.args.self.now = ap (λ (m : BTreeMap OpId NodeRows). tables_of m.entries) same ∙ c.self.view_is in
    laws.hangs_well old.entries n u has c.args.self.now view c.args.row.now.id (record { on = c.args.row.now.anchor; side = c.args.row.now.side }) c.requires.hangs

pub invariant_of-self-2 : goal.invariant_of-self-2
invariant_of-self-2 c =
    let n = c.args.row.now.owner in
    let u = c.new-list.result in
    let old = c.get_mut.follows.lender-at-none in
    let same : old ≡ c.self.inside.nodes = c.get_mut.follows.holds-at-none in
    let ordered : laws.Rising old.entries = subst (λ (m : BTreeMap OpId NodeRows). laws.Rising m.entries) (sym same) c.get_mut.ensures.ordered in
    let none : lookup (key_eq n) old.entries ≡ None = ap (λ (m : BTreeMap OpId NodeRows). lookup (key_eq n) m.entries) same ∙ sym c.in_default.ensures.value in
    let has = laws.has_none old.entries ordered n u none c.new-list.ensures.positions c.new-list.ensures.elements in
    let view : tables_of old.entries ≡ c.args.self.now = ap (λ (m : BTreeMap OpId NodeRows). tables_of m.entries) same ∙ c.self.view_is in
    let kept : AreListsOf old.entries = subst (λ (m : BTreeMap OpId NodeRows). AreListsOf m.entries) (sym same) c.self.invariant in
    let v = c.hang-2.new.self in
    let now : AreListsOf c.insert.new.self.entries =
    subst (λ (xs : Nodes). AreListsOf xs) (sym c.in_ok-insert.ensures.entries) (laws.lists_insert old.entries n v kept (record { owner = ap (λ (l : NodeRows). l.owner) c.in_ok-hang.ensures.ok ∙ c.new-list.ensures.owner; list = c.in_ok-hang.ensures.list })) in
    now

pub returns : goal.returns
returns c =
    let n = c.args.row.now.owner in
    let u = c.new-list.result in
    let old = c.get_mut.follows.lender-at-none in
    let same : old ≡ c.self.inside.nodes = c.get_mut.follows.holds-at-none in
    let ordered : laws.Rising old.entries = subst (λ (m : BTreeMap OpId NodeRows). laws.Rising m.entries) (sym same) c.get_mut.ensures.ordered in
    let none : lookup (key_eq n) old.entries ≡ None = ap (λ (m : BTreeMap OpId NodeRows). lookup (key_eq n) m.entries) same ∙ sym c.in_default.ensures.value in
    let has = laws.has_none old.entries ordered n u none c.new-list.ensures.positions c.new-list.ensures.elements in
    let view : tables_of old.entries ≡ c.args.self.now = ap (λ (m : BTreeMap OpId NodeRows). tables_of m.entries) same ∙ c.self.view_is in
    let v = c.hang-2.new.self in
    let id = c.args.row.now.id in
    let a : Anchor = record { on = c.args.row.now.anchor; side = c.args.row.now.side } in
    laws.lists_hung old.entries c.insert.new.self.entries c.in_ok-insert.ensures.was_ordered c.in_ok-insert.ensures.ordered n u v c.in_ok-insert.ensures.updates.0 has id a c.in_ok-hang.ensures.ok
    ∙ ap (λ (t : ListTables). record t { positions = fin.insert t.positions (n, id) a }) view
