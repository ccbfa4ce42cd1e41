use Rattle.std.proofs.Common.{◌≡◌, ◌∙◌, ap, sym, subst, refl, true, false, is_some, Some, None, List, [], ◌∷◌}
use Rattle.std.proofs.lemmas.Result.{on_ok_weaker, on_err_weaker, IfOk-weaker}
use Rattle.std.specs.Map.{lookup}
use Rattle.std.specs.BTreeMap.{BTreeMap}
use Rattle.std.specs.FinMap as fin
use Rattle.op_ids.specs.declared.OpId.{OpId}
use Rattle.model.specs.Operation.{Anchor, add_item, shift_item, set_item, drop_item}
use Rattle.model.specs.State.{Element}
use Rattle.model_laws.specs.Arrival.{set_late, shifted_late}
use Rattle.walk_laws.specs.Insertion.{with_row}
use Rattle.op_grammar.specs.Values.{value_of}
use Rattle.move_list.specs.Items.{added, dropped_of, edited}
use Rattle.move_list.specs.Kept.{NodeRows, AreListsOf, tables_of}
use Rattle.move_list.specs.Lists.{ListTables, AreLists, lists_after}
use Rattle.walk_laws.proofs.Walks.{key_eq}
use Rattle.move_list.proofs.NodeLaws as laws
use Rattle.move_list.proofs.NodeLaws.{Nodes}
use Rattle.op_ids.specs.Order.{id_lt}
use Rattle.model.specs.State.{has_anchor}
use Rattle.model.specs.Walk.{Rows, rows_of, place_after}
use Rattle.walk_laws.specs.Insertion.{HeadOrRow, PlacedAfter, anchor_of, is_row}
use Rattle.move_list.proofs.lists.Lists.place_after.Goals as goal

pub place_after-requires : goal.place_after-requires
place_after-requires c =
    let es = c.self.inside.nodes.entries in
    let se = c.len.ensures.ordered in
    let n = c.args.node in
    let l = c.in-Some.list.now in
    let there : lookup (key_eq n) es ≡ Some l = sym c.in-Some.ensures.value in
    laws.head_or_found es se c.self.invariant n c.args.left l there (ap (λ (t : ListTables). has_anchor t.positions n c.args.left) c.self.view_is ∙ c.requires)

pub returns-in-Some-clause-place : goal.returns-in-Some-clause-place
returns-in-Some-clause-place c =
    let es = c.self.inside.nodes.entries in
    let se = c.len.ensures.ordered in
    let n = c.args.node in
    let l = c.in-Some.list.now in
    let there : lookup (key_eq n) es ≡ Some l = sym c.in-Some.ensures.value in
    let rows : rows_of (λ at. at) c.args.self.now.positions n ≡ l.positions = ap (λ (t : ListTables). rows_of (λ at. at) t.positions n) (sym c.self.view_is) ∙ laws.rows_are es se c.self.invariant n (Some l) there in
    c.place_after.ensures.place ∙ ap (λ (p : Rows). ((place_after p c.args.left).on, (place_after p c.args.left).side)) (sym rows)

pub returns-in-Some-clause-after : goal.returns-in-Some-clause-after
returns-in-Some-clause-after c =
    let es = c.self.inside.nodes.entries in
    let se = c.len.ensures.ordered in
    let n = c.args.node in
    let l = c.in-Some.list.now in
    let there : lookup (key_eq n) es ≡ Some l = sym c.in-Some.ensures.value in
    let rows : rows_of (λ at. at) c.args.self.now.positions n ≡ l.positions = ap (λ (t : ListTables). rows_of (λ at. at) t.positions n) (sym c.self.view_is) ∙ laws.rows_are es se c.self.invariant n (Some l) there in
    let has = laws.has_found es se n l there in
    λ row fresh above. subst (λ (p : Rows). PlacedAfter p c.args.left row) (sym rows) (c.place_after.ensures.after row (laws.fresh_place es n l has c.args.self.now c.self.view_is row fresh) above)

pub returns-in-Some-clause-lists : goal.returns-in-Some-clause-lists
returns-in-Some-clause-lists c =
    let es = c.self.inside.nodes.entries in
    let se = c.len.ensures.ordered in
    let n = c.args.node in
    subst AreLists c.self.view_is (laws.lists_are es se c.self.invariant)

pub returns-in-None-clause-place : goal.returns-in-None-clause-place
returns-in-None-clause-place c =
    let es = c.self.inside.nodes.entries in
    let se = c.len.ensures.ordered in
    let n = c.args.node in
    let none : lookup (key_eq n) es ≡ None = sym c.in-None.ensures.value in
    let rows : rows_of (λ at. at) c.args.self.now.positions n ≡ [] = ap (λ (t : ListTables). rows_of (λ at. at) t.positions n) (sym c.self.view_is) ∙ laws.rows_are es se c.self.invariant n None none in
    ap (λ (p : Rows). ((place_after p c.args.left).on, (place_after p c.args.left).side)) (sym rows)

pub returns-in-None-clause-after : goal.returns-in-None-clause-after
returns-in-None-clause-after c =
    let es = c.self.inside.nodes.entries in
    let se = c.len.ensures.ordered in
    let n = c.args.node in
    let none : lookup (key_eq n) es ≡ None = sym c.in-None.ensures.value in
    let rows : rows_of (λ at. at) c.args.self.now.positions n ≡ [] = ap (λ (t : ListTables). rows_of (λ at. at) t.positions n) (sym c.self.view_is) ∙ laws.rows_are es se c.self.invariant n None none in
    λ row fresh above. subst (λ (p : Rows). PlacedAfter p c.args.left row) (sym rows) (laws.placed_none c.args.left row (laws.head_or_none es se c.self.invariant n c.args.left none (ap (λ (t : ListTables). has_anchor t.positions n c.args.left) c.self.view_is ∙ c.requires)) above)

pub returns-in-None-clause-lists : goal.returns-in-None-clause-lists
returns-in-None-clause-lists c =
    let es = c.self.inside.nodes.entries in
    let se = c.len.ensures.ordered in
    let n = c.args.node in
    subst AreLists c.self.view_is (laws.lists_are es se c.self.invariant)
