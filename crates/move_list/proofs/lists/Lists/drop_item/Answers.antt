use Rattle.std.proofs.Common.{◌≡◌, ◌∙◌, ap, sym, subst, refl, true, false, is_some, Some, None, List, [], ◌∷◌}
use Rattle.std.proofs.lemmas.Result.{on_ok_weaker, on_err_weaker, IfOk-weaker}
use Rattle.std.specs.Map.{lookup}
use Rattle.std.specs.BTreeMap.{BTreeMap}
use Rattle.std.specs.FinMap as fin
use Rattle.op_ids.specs.declared.OpId.{OpId}
use Rattle.model.specs.Operation.{Anchor, add_item, shift_item, set_item, drop_item}
use Rattle.model.specs.State.{Element}
use Rattle.model_laws.specs.Arrival.{set_late, shifted_late}
use Rattle.walk_laws.specs.Insertion.{with_row}
use Rattle.op_grammar.specs.Values.{value_of}
use Rattle.move_list.specs.Items.{added, dropped_of, edited}
use Rattle.move_list.specs.Kept.{NodeRows, AreListsOf, tables_of}
use Rattle.move_list.specs.Lists.{ListTables, AreLists, lists_after}
use Rattle.walk_laws.proofs.Walks.{key_eq}
use Rattle.move_list.proofs.NodeLaws as laws
use Rattle.move_list.proofs.NodeLaws.{Nodes}
use Rattle.move_list.specs.declared.lists.Lists.TheInside.{Inside}
use Rattle.move_list.proofs.lists.Lists.drop_item.Goals as goal
use Rattle.move_list.proofs.lists.Lists.drop_item.Goals.{in-Some, in_default}

pub invariant_of-self : goal.invariant_of-self
invariant_of-self c =
    let es = c.self.inside.nodes.entries in
    let se = c.get_mut.ensures.ordered in
    let n = c.args.node in
    elim c.match-get_mut.branch [
      | in-Some w ↦
          let u = w.in-Some.list.now in
          let v = w.drop_item.new.self in
          let held = c.get_mut.follows.holds v in
          let there : lookup (key_eq n) es ≡ Some u = sym w.in-Some.ensures.value in
          let kept : AreListsOf (c.get_mut.follows.lender v).entries =
          subst (λ (xs : Nodes). AreListsOf xs) (sym held.0) (laws.lists_set es n v c.self.invariant (record { owner = ap (λ (l : NodeRows). l.owner) w.drop_item.ensures.now ∙ (laws.list_of es c.self.invariant n u there).owner; list = w.drop_item.ensures.list })) in
          subst (λ (i : Inside). AreListsOf i.nodes.entries) (sym w.self-inside-is) kept
      | in_default w ↦
          let none : lookup (key_eq n) es ≡ None = sym w.in_default.ensures.value in
          let no : true ≡ false = sym c.requires ∙ ap (λ (t : ListTables). is_some (fin.get t.elements (n, c.args.element))) (sym c.self.view_is) ∙ ap is_some (laws.no_item es se n c.args.element none) in
          absurd (let no' : true ≡ false = no in cc)
    ]

pub returns-clause-now : goal.returns-clause-now
returns-clause-now c =
    let es = c.self.inside.nodes.entries in
    let se = c.get_mut.ensures.ordered in
    let n = c.args.node in
    elim c.match-get_mut.branch [
      | in-Some w ↦ λ id.
          let u = w.in-Some.list.now in
          let v = w.drop_item.new.self in
          let held = c.get_mut.follows.holds v in
          let there : lookup (key_eq n) es ≡ Some u = sym w.in-Some.ensures.value in
          let has = laws.has_found es se n u there in
          let updates = (held.3 (ap is_some there)).0 in
          ap (λ (i : Inside). tables_of i.nodes.entries) w.self-inside-is
          ∙ laws.lists_dropped es (c.get_mut.follows.lender v).entries se held.4 n u v updates has c.args.element id w.drop_item.ensures.now
          ∙ ap (λ (t : ListTables). lists_after t id (drop_item n c.args.element)) c.self.view_is
      | in_default w ↦
          let none : lookup (key_eq n) es ≡ None = sym w.in_default.ensures.value in
          let no : true ≡ false = sym c.requires ∙ ap (λ (t : ListTables). is_some (fin.get t.elements (n, c.args.element))) (sym c.self.view_is) ∙ ap is_some (laws.no_item es se n c.args.element none) in
          absurd (let no' : true ≡ false = no in cc)
    ]

pub returns-clause-lists : goal.returns-clause-lists
returns-clause-lists c =
    let es = c.self.inside.nodes.entries in
    let se = c.get_mut.ensures.ordered in
    let n = c.args.node in
    elim c.match-get_mut.branch [
      | in-Some w ↦
          let u = w.in-Some.list.now in
          let v = w.drop_item.new.self in
          let held = c.get_mut.follows.holds v in
          let there : lookup (key_eq n) es ≡ Some u = sym w.in-Some.ensures.value in
          let kept : AreListsOf (c.get_mut.follows.lender v).entries =
          subst (λ (xs : Nodes). AreListsOf xs) (sym held.0) (laws.lists_set es n v c.self.invariant (record { owner = ap (λ (l : NodeRows). l.owner) w.drop_item.ensures.now ∙ (laws.list_of es c.self.invariant n u there).owner; list = w.drop_item.ensures.list })) in
          subst (λ (i : Inside). AreLists (tables_of i.nodes.entries)) (sym w.self-inside-is) (laws.lists_are (c.get_mut.follows.lender v).entries held.4 kept)
      | in_default w ↦
          let none : lookup (key_eq n) es ≡ None = sym w.in_default.ensures.value in
          let no : true ≡ false = sym c.requires ∙ ap (λ (t : ListTables). is_some (fin.get t.elements (n, c.args.element))) (sym c.self.view_is) ∙ ap is_some (laws.no_item es se n c.args.element none) in
          absurd (let no' : true ≡ false = no in cc)
    ]
