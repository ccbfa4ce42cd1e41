use Rattle.std.proofs.Common.{◌≡◌, ◌∙◌, ap, sym, subst, Some, None, take, get_or}
use Rattle.std.specs.FinMap as fin
use Rattle.op_ids.specs.Order.{root_id}
use Rattle.model.specs.Operation.{Anchor}
use Rattle.model.specs.State.{Character}
use Rattle.move_list.proofs.RowLaws.{row_before, next_fresh, next_now, next_is, before_next}
use Rattle.fugue_text.specs.Texts.{HangsIn, Table, text_entry, text_entries}
use Rattle.fugue_text.proofs.NodeLaws as laws
use Rattle.fugue_text.proofs.texts.Texts.from_rows.Goals as goal

pub add-requires-clause-new : goal.add-requires-clause-new
add-requires-clause-new c =
    let rows = c.args.rows.now in
    let i = c.loop-row.row-index in
    let l = c.loop-row-test.true in
    let r = get_or rows i laws.no_text_row in
    ap (λ (t : Table). fin.get t (r.node, r.id)) c.loop-row.invariant ∙ next_fresh text_entry rows i laws.no_text_row l c.requires.rise

pub add-requires-clause-no_head : goal.add-requires-clause-no_head
add-requires-clause-no_head c =
    let rows = c.args.rows.now in
    let i = c.loop-row.row-index in
    let l = c.loop-row-test.true in
    let r = get_or rows i laws.no_text_row in
    let full : Table = fin.from_entries (text_entries rows) in
    let a : Anchor = record { on = r.anchor; side = r.side } in
    let x : Character = record { at = a; character = r.character; dead = r.dead } in
    λ same.
    let head : fin.get full (r.node, root_id) ≡ None = c.requires.texts.head r.node in
    let is : fin.get full (r.node, r.id) ≡ Some x = next_is text_entry rows i laws.no_text_row l c.requires.rise in
    let no : None ≡ Some x = sym head ∙ ap (λ id. fin.get full (r.node, id)) (sym same) ∙ is in
    absurd (let no' : None ≡ Some x = no in cc)

pub add-requires-clause-hangs : goal.add-requires-clause-hangs
add-requires-clause-hangs c =
    let rows = c.args.rows.now in
    let i = c.loop-row.row-index in
    let l = c.loop-row-test.true in
    let r = get_or rows i laws.no_text_row in
    let full : Table = fin.from_entries (text_entries rows) in
    let a : Anchor = record { on = r.anchor; side = r.side } in
    let x : Character = record { at = a; character = r.character; dead = r.dead } in
    let is : fin.get full (r.node, r.id) ≡ Some x = next_is text_entry rows i laws.no_text_row l c.requires.rise in
    let some : Table = fin.from_entries (text_entries (take i rows)) in
    subst (λ (t : Table). HangsIn t r.node r.id a) (sym c.loop-row.invariant)
    (laws.hangs_before full some r.node r.id a (c.requires.texts.anchors r.node r.id x is) (λ on less. before_next text_entry rows i laws.no_text_row l c.requires.rise (r.node, on) (row_before r.node on r.id less)))

pub loop-row-preserved : goal.loop-row-preserved
loop-row-preserved c =
    let rows = c.args.rows.now in
    let i = c.loop-row.row-index in
    let l = c.loop-row-test.true in
    let r = get_or rows i laws.no_text_row in
    let a : Anchor = record { on = r.anchor; side = r.side } in
    let x : Character = record { at = a; character = r.character; dead = r.dead } in
    c.in_ok-add.ensures.ok ∙ ap (λ (t : Table). fin.insert t (r.node, r.id) x) c.loop-row.invariant ∙ sym (next_now text_entry rows i laws.no_text_row l c.requires.rise)
