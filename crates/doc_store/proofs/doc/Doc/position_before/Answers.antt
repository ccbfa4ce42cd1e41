use Rattle.std.proofs.Common.{◌≡◌, ◌∙◌, ap, sym, slice_get, ◌-◌, Option, Some, None}
use Rattle.std.specs.Option.{option_map_or}
use Rattle.std.specs.FinMap.{FinMap, get}
use Rattle.op_ids.specs.declared.OpId.{OpId}
use Rattle.op_ids.specs.Order.{root_id}
use Rattle.model.specs.Edit.{element_position}
use Rattle.model.specs.State.{Element, row_cmp}
use Rattle.move_list.proofs.ShownLaws.{item_at_place}
use Rattle.doc_store.specs.declared.doc.Doc.TheInside.{Inside}
use Rattle.doc_store.specs.Kept.{Kept, state_of}
use Rattle.doc_store.proofs.PlanLaws.{origin_found}
use Rattle.doc_store.proofs.doc.Doc.position_before.Goals as goal

pub returns-in-Some-clause-position : goal.returns-in-Some-clause-position
returns-in-Some-clause-position c =
    let s = state_of c.args.self.now in
    let pos = element_position s c.args.node in
    let found : Some c.in-Some.element.now ≡ slice_get c.args.among.now (c.args.at - 1) = item_at_place c.args.among.now (c.args.at - 1) (Some c.in-Some.element) c.in-Some.ensures.lookup in
    let elements = ap (λ (d : Inside). d.rows.elements) c.self-inside.view_is ∙ ap (λ (d : Kept). d.contents.elements) c.self.view_is in
    c.position_of.ensures.position ∙ ap (λ (m : FinMap row_cmp Element). option_map_or (λ e. e.position) (get m (c.args.node, c.in-Some.element.now)) root_id) elements ∙ origin_found pos c.args.among.now c.args.at (Some c.in-Some.element.now) c.if-at-eq0.false (sym found)

pub returns-in-None-clause-position : goal.returns-in-None-clause-position
returns-in-None-clause-position c =
    let none : ◌≡◌ {A = Option OpId} None (slice_get c.args.among.now (c.args.at - 1)) = item_at_place c.args.among.now (c.args.at - 1) None c.in-None.ensures.lookup in
    origin_found (element_position (state_of c.args.self.now) c.args.node) c.args.among.now c.args.at None c.if-at-eq0.false (sym none)
