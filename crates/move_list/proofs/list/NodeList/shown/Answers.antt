use Rattle.std.proofs.Common.{◌≡◌, ◌∙◌, ap, sym, subst, List, map, filter_map}
use Rattle.std.proofs.lemmas.Result.{IfOk-weaker}
use Rattle.std.specs.BTreeMap as tables
use Rattle.std.specs.FinMap as fin
use Rattle.op_ids.specs.declared.OpId.{OpId}
use Rattle.op_ids.specs.Order.{id_cmp}
use Rattle.model.specs.State.{Element}
use Rattle.model.specs.Walk.{walk}
use Rattle.move_list.specs.Items.{items_of, kept_entry}
use Rattle.move_list.specs.Kept.{NodeRows, OwnPositions, shown, shown_at}
use Rattle.move_list.proofs.ItemLaws.{entries_items}
use Rattle.move_list.proofs.ShownLaws.{own_positions, filtered_same}
use Rattle.move_list.proofs.list.NodeList.shown.Goals as goal

pub shown_by_position-requires : goal.shown_by_position-requires
shown_by_position-requires c =
    subst (λ (es : List (OpId × Element)). OwnPositions es) (entries_items c.self.inside.items.entries c.len.ensures.ordered)
    (own_positions c.self.inside.positions.rows (items_of c.self.inside.items.entries) c.self.invariant.items)

pub returns : goal.returns
returns c =
    let es = c.self.inside.items.entries in
    let rows = c.self.inside.positions.rows in
    let found = tables.get id_cmp c.in_ok-by_position.by_position in
    let now : filter_map found c.as_slice.result.now ≡ shown c.args.self.now =
    ap (filter_map found) (c.as_slice.ensures.value ∙ c.in_ok-walk.ensures)
    ∙ filtered_same found (shown_at (map kept_entry es)) (walk rows) c.in_ok-by_position.ensures
    ∙ ap (λ ds. filter_map (shown_at ds) (walk rows)) (sym (entries_items es c.len.ensures.ordered))
    ∙ ap (λ (l : NodeRows). shown l) c.self.view_is in
    IfOk-weaker c.ids_at.result (λ v. v.items ≡ filter_map found c.as_slice.result.now) (λ v. v.items ≡ shown c.args.self.now) (λ v e. e ∙ now) c.ids_at.ensures
