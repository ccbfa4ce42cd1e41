use Rattle.std.proofs.Common.{◌≡◌, ◌∙◌, ap, sym, subst, refl, true, false, is_some, Some, None, List, [], ◌∷◌, take, get_or, ◌+◌}
use Rattle.std.proofs.lemmas.Result.{on_ok_weaker, on_err_weaker}
use Rattle.std.specs.Map.{lookup}
use Rattle.std.specs.BTreeMap.{BTreeMap}
use Rattle.std.specs.FinMap as fin
use Rattle.op_ids.specs.declared.OpId.{OpId}
use Rattle.op_ids.specs.Order.{id_cmp, id_lt, root_id}
use Rattle.model.specs.Value.{Value}
use Rattle.model.specs.Operation.{Anchor, add_item}
use Rattle.model.specs.State.{Element, row_cmp}
use Rattle.walk_laws.specs.Insertion.{with_row}
use Rattle.op_grammar.specs.Values.{value_of, own_value_of}
use Rattle.move_list.specs.Items.{added, seen}
use Rattle.move_list.specs.Kept.{NodeRows, AreAt, AreListsOf, tables_of}
use Rattle.move_list.specs.Lists.{ListTables, AreLists, HangsIn, lists_after, place_entry, place_entries, element_entry, element_entries, tables_of_rows}
use Rattle.walk_laws.proofs.Walks.{key_eq}
use Rattle.move_list.proofs.NodeLaws as laws
use Rattle.move_list.proofs.NodeLaws.{Nodes}
use Rattle.std.proofs.lemmas.List.{get_or_default}
use Rattle.move_list.specs.declared.lists.ElementRow.{ElementRow}
use Rattle.move_list.proofs.RowLaws.{no_place, no_element, row_before, next_fresh, next_now, next_is, before_next, up_to_next}
use Rattle.move_list.proofs.lists.Lists.from_rows.Goals as goal

pub hang-requires-clause-new_position : goal.hang-requires-clause-new_position
hang-requires-clause-new_position c =
    let rows = c.args.positions.now in
    let i = c.loop-row.row-index in
    let l = c.loop-row-test.true in
    let r = get_or rows i no_place in
    let full = tables_of_rows rows c.args.elements.now in
    let a : Anchor = record { on = r.anchor; side = r.side } in
    ap (λ (t : ListTables). fin.get t.positions (r.owner, r.id)) c.loop-row.invariant ∙ next_fresh place_entry rows i no_place l c.requires.positions_rise

pub hang-requires-clause-no_head : goal.hang-requires-clause-no_head
hang-requires-clause-no_head c =
    let rows = c.args.positions.now in
    let i = c.loop-row.row-index in
    let l = c.loop-row-test.true in
    let r = get_or rows i no_place in
    let full = tables_of_rows rows c.args.elements.now in
    let a : Anchor = record { on = r.anchor; side = r.side } in
    λ same.
    let head : fin.get full.positions (r.owner, root_id) ≡ None = c.requires.lists.head r.owner in
    let is : fin.get full.positions (r.owner, r.id) ≡ Some a = next_is place_entry rows i no_place l c.requires.positions_rise in
    let no : None ≡ Some a = sym head ∙ ap (λ id. fin.get full.positions (r.owner, id)) (sym same) ∙ is in
    absurd (let no' : None ≡ Some a = no in cc)

pub hang-requires-clause-hangs : goal.hang-requires-clause-hangs
hang-requires-clause-hangs c =
    let rows = c.args.positions.now in
    let i = c.loop-row.row-index in
    let l = c.loop-row-test.true in
    let r = get_or rows i no_place in
    let full = tables_of_rows rows c.args.elements.now in
    let a : Anchor = record { on = r.anchor; side = r.side } in
    let is : fin.get full.positions (r.owner, r.id) ≡ Some a = next_is place_entry rows i no_place l c.requires.positions_rise in
    let some = fin.from_entries {R = row_cmp} (place_entries (take i rows)) in
    subst (λ (t : ListTables). HangsIn t.positions r.owner r.id a) (sym c.loop-row.invariant)
    (laws.hangs_before full.positions some r.owner r.id a (c.requires.lists.anchors r.owner r.id a is) (λ on less. before_next place_entry rows i no_place l c.requires.positions_rise (r.owner, on) (row_before r.owner on r.id less)))

pub loop-row-preserved : goal.loop-row-preserved
loop-row-preserved c =
    let rows = c.args.positions.now in
    let i = c.loop-row.row-index in
    let l = c.loop-row-test.true in
    let r = get_or rows i no_place in
    let full = tables_of_rows rows c.args.elements.now in
    let a : Anchor = record { on = r.anchor; side = r.side } in
    let more : ListTables → ListTables = λ t. record t { positions = fin.insert t.positions (r.owner, r.id) a } in
    let last = next_now place_entry rows i no_place l c.requires.positions_rise in
    c.in_ok-hang.ensures ∙ ap more c.loop-row.invariant ∙ (λ j. record { positions = sym last j; elements = fin.from_entries [] })

pub put-requires-clause-new_element : goal.put-requires-clause-new_element
put-requires-clause-new_element c =
    let rows = c.args.elements.now in
    let i = c.loop-row-2.row-index in
    let l = c.loop-row-2-test.true in
    let r = get_or rows i no_element in
    let row : c.row-item.result ≡ r = c.row-item.is ∙ get_or_default rows i c.row-item.result no_element l in
    let some = tables_of_rows c.args.positions.now (take i rows) in
    ap (λ (t : ListTables). fin.get t.elements (c.row-item.result.node, c.row-item.result.id)) c.loop-row-2.invariant
    ∙ ap (λ (x : ElementRow). fin.get some.elements (x.node, x.id)) row ∙ next_fresh element_entry rows i no_element l c.requires.elements_rise

pub put-requires-clause-lists : goal.put-requires-clause-lists
put-requires-clause-lists c =
    let rows = c.args.elements.now in
    let i = c.loop-row-2.row-index in
    let l = c.loop-row-2-test.true in
    let r = get_or rows i no_element in
    let row : c.row-item.result ≡ r = c.row-item.is ∙ get_or_default rows i c.row-item.result no_element l in
    let some = tables_of_rows c.args.positions.now (take i rows) in
    let put : ElementRow → ListTables → ListTables = λ x t. record t { elements = fin.insert t.elements (x.node, x.id) (element_entry x).1 } in
    let last = next_now element_entry rows i no_element l c.requires.elements_rise in
    let now : put c.row-item.result c.loop-row-2.lists ≡ tables_of_rows c.args.positions.now (take (i + 1) rows) =
    ap (put c.row-item.result) c.loop-row-2.invariant ∙ ap (λ (x : ElementRow). put x some) row ∙ (λ j. record { positions = some.positions; elements = sym last j }) in
    let full = tables_of_rows c.args.positions.now rows in
    let more = tables_of_rows c.args.positions.now (take (i + 1) rows) in
    subst AreLists (sym now) (laws.fewer_lists full more.elements c.requires.lists (up_to_next element_entry rows i no_element l c.requires.elements_rise))

pub loop-row-2-preserved : goal.loop-row-2-preserved
loop-row-2-preserved c =
    let rows = c.args.elements.now in
    let i = c.loop-row-2.row-index in
    let l = c.loop-row-2-test.true in
    let r = get_or rows i no_element in
    let row : c.row-item.result ≡ r = c.row-item.is ∙ get_or_default rows i c.row-item.result no_element l in
    let some = tables_of_rows c.args.positions.now (take i rows) in
    let put : ElementRow → ListTables → ListTables = λ x t. record t { elements = fin.insert t.elements (x.node, x.id) (element_entry x).1 } in
    let last = next_now element_entry rows i no_element l c.requires.elements_rise in
    let now : put c.row-item.result c.loop-row-2.lists ≡ tables_of_rows c.args.positions.now (take (i + 1) rows) =
    ap (put c.row-item.result) c.loop-row-2.invariant ∙ ap (λ (x : ElementRow). put x some) row ∙ (λ j. record { positions = some.positions; elements = sym last j }) in
    c.in_ok-put.ensures ∙ now
