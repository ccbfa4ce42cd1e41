use Rattle.std.proofs.Common.{◌≡◌, ◌∙◌, ap, sym, subst, refl, true, false, is_some, Some, None, List, [], ◌∷◌}
use Rattle.std.proofs.lemmas.Result.{on_ok_weaker, on_err_weaker, IfOk-weaker}
use Rattle.std.specs.Map.{lookup}
use Rattle.std.specs.BTreeMap.{BTreeMap}
use Rattle.std.specs.FinMap as fin
use Rattle.op_ids.specs.declared.OpId.{OpId}
use Rattle.model.specs.Operation.{Anchor, add_item, shift_item, set_item, drop_item}
use Rattle.model.specs.State.{Element}
use Rattle.model_laws.specs.Arrival.{set_late, shifted_late}
use Rattle.walk_laws.specs.Insertion.{with_row}
use Rattle.op_grammar.specs.Values.{value_of}
use Rattle.move_list.specs.Items.{added, dropped_of, edited}
use Rattle.move_list.specs.Kept.{NodeRows, AreListsOf, tables_of}
use Rattle.move_list.specs.Lists.{ListTables, lists_after}
use Rattle.walk_laws.proofs.Walks.{key_eq}
use Rattle.move_list.proofs.NodeLaws as laws
use Rattle.move_list.proofs.NodeLaws.{Nodes}
use Rattle.move_list.proofs.lists.Lists.set.Goals as goal

pub invariant_of-self : goal.invariant_of-self
invariant_of-self c =
    let es = c.self.inside.nodes.entries in
    let se = c.get_mut.ensures.ordered in
    let n = c.args.node in
    let u = c.in-Some.list.now in
    let v = c.set.new.self in
    let fs = (c.get_mut.follows.lender v).entries in
    let held = c.get_mut.follows.holds v in
    let there : lookup (key_eq n) es ≡ Some u = sym c.in-Some.ensures.value in
    let has = laws.has_found es se n u there in
    let now : NodeRows = record u { elements = edited u.elements c.args.element (set_late c.args.id (value_of c.args.value)) } in
    let kept : AreListsOf fs =
    subst (λ (xs : Nodes). AreListsOf xs) (sym held.0) (laws.lists_set es n v c.self.invariant (laws.list_kept n u v now c.set.result refl (laws.list_of es c.self.invariant n u there) c.set.ensures.ok c.set.ensures.list c.set.ensures.err)) in
    kept

pub returns-in-Some-clause-ok : goal.returns-in-Some-clause-ok
returns-in-Some-clause-ok c =
    let es = c.self.inside.nodes.entries in
    let se = c.get_mut.ensures.ordered in
    let n = c.args.node in
    let u = c.in-Some.list.now in
    let v = c.set.new.self in
    let fs = (c.get_mut.follows.lender v).entries in
    let held = c.get_mut.follows.holds v in
    let there : lookup (key_eq n) es ≡ Some u = sym c.in-Some.ensures.value in
    let has = laws.has_found es se n u there in
    let updates = (held.3 (ap is_some there)).0 in
    let value = value_of c.args.value in
    on_ok_weaker c.set.result (λ e. laws.lists_written es fs se held.4 n u v updates has c.args.element c.args.id value e ∙ ap (λ (t : ListTables). lists_after t c.args.id (set_item n c.args.element value)) c.self.view_is) c.set.ensures.ok

pub returns-in-Some-clause-err : goal.returns-in-Some-clause-err
returns-in-Some-clause-err c =
    let es = c.self.inside.nodes.entries in
    let se = c.get_mut.ensures.ordered in
    let n = c.args.node in
    let u = c.in-Some.list.now in
    let v = c.set.new.self in
    let fs = (c.get_mut.follows.lender v).entries in
    let held = c.get_mut.follows.holds v in
    let there : lookup (key_eq n) es ≡ Some u = sym c.in-Some.ensures.value in
    let has = laws.has_found es se n u there in
    let updates = (held.3 (ap is_some there)).0 in
    on_err_weaker c.set.result (λ e. laws.lists_same es fs se held.4 n u v updates has e ∙ c.self.view_is) c.set.ensures.err

pub returns-in-Some-clause-lists : goal.returns-in-Some-clause-lists
returns-in-Some-clause-lists c =
    let es = c.self.inside.nodes.entries in
    let se = c.get_mut.ensures.ordered in
    let n = c.args.node in
    let u = c.in-Some.list.now in
    let v = c.set.new.self in
    let fs = (c.get_mut.follows.lender v).entries in
    let held = c.get_mut.follows.holds v in
    let there : lookup (key_eq n) es ≡ Some u = sym c.in-Some.ensures.value in
    let has = laws.has_found es se n u there in
    let now : NodeRows = record u { elements = edited u.elements c.args.element (set_late c.args.id (value_of c.args.value)) } in
    let kept : AreListsOf fs =
    subst (λ (xs : Nodes). AreListsOf xs) (sym held.0) (laws.lists_set es n v c.self.invariant (laws.list_kept n u v now c.set.result refl (laws.list_of es c.self.invariant n u there) c.set.ensures.ok c.set.ensures.list c.set.ensures.err)) in
    laws.lists_are fs held.4 kept

pub returns-clause-ok : goal.returns-clause-ok
returns-clause-ok c =
    let es = c.self.inside.nodes.entries in
    let n = c.args.node in
    let none : lookup (key_eq n) es ≡ None = sym c.in_default.ensures.value in
    let no : true ≡ false = sym c.requires ∙ ap (λ (t : ListTables). is_some (fin.get t.elements (n, c.args.element))) (sym c.self.view_is) ∙ ap is_some (laws.no_item es c.get_mut.ensures.ordered n c.args.element none) in
    absurd (let no' : true ≡ false = no in cc)

pub returns-clause-lists : goal.returns-clause-lists
returns-clause-lists c =
    let es = c.self.inside.nodes.entries in
    let n = c.args.node in
    let none : lookup (key_eq n) es ≡ None = sym c.in_default.ensures.value in
    let no : true ≡ false = sym c.requires ∙ ap (λ (t : ListTables). is_some (fin.get t.elements (n, c.args.element))) (sym c.self.view_is) ∙ ap is_some (laws.no_item es c.get_mut.ensures.ordered n c.args.element none) in
    absurd (let no' : true ≡ false = no in cc)
