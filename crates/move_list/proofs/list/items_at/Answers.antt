use Rattle.std.proofs.Common.{◌≡◌, ◌∙◌, ap, sym, ◌++◌, ◌∷◌, [], List, Some, None, get_or}
use Rattle.std.proofs.lemmas.List.{map-append}
use Rattle.std.specs.Option.{option_map}
use Rattle.op_ids.specs.declared.OpId.{OpId}
use Rattle.op_ids.specs.Order.{root_id}
use Rattle.model.specs.Value.{Value}
use Rattle.model.specs.State.{Element}
use Rattle.op_grammar.specs.declared.value.OwnValue.{OwnValue}
use Rattle.op_grammar.specs.Values.{own_value_of}
use Rattle.move_list.specs.Items.{items_of, seen}
use Rattle.move_list.specs.Kept.{item_at}
use Rattle.move_list.specs.Lists.{handed}
use Rattle.move_list.specs.declared.item.Item.{Item}
use Rattle.move_list.proofs.ItemLaws.{get_items}
use Rattle.move_list.proofs.ShownLaws.{filtered_some, filtered_none}
use Rattle.move_list.proofs.list.items_at.Goals as goal
use Rattle.move_list.proofs.list.items_at.Goals.{in-Some+in_ok-of+in_ok-push, in_default}

pub loop-id-preserved : goal.loop-id-preserved
loop-id-preserved c =
    let es = c.args.items.now.entries in
    let f = item_at (items_of es) in
    let xs = c.args.ids.now in
    let i = c.loop-id.id-index in
    let id = get_or xs i root_id in
    let g : Element → OpId × Value = λ e. (id, e.value) in
    let give : OpId × OwnValue → OpId × Value = λ item. (item.0, own_value_of item.1) in
    elim c.match-get.branch [
      | in-Some+in_ok-of+in_ok-push w ↦
          let found : f id ≡ Some (id, own_value_of w.in-Some.item.now.value) = ap (option_map g) (get_items es id ∙ ap (option_map seen) (sym w.in-Some.ensures.value)) in
          let value : own_value_of w.in_ok-of.field-0 ≡ own_value_of w.in-Some.item.now.value = w.in_ok-of.ensures ∙ w.as_value.ensures in
          ap (λ v. handed v.items) w.list-is ∙ ap handed w.in_ok-push.ensures.items
          ∙ map-append give c.loop-id.list.items ((id, w.in_ok-of.field-0) ∷ [])
          ∙ (λ j. c.loop-id.invariant j ++ (id, value j) ∷ [])
          ∙ sym (filtered_some f xs i root_id c.loop-id-test.true (id, own_value_of w.in-Some.item.now.value) found)
      | in_default w ↦
          let none : f id ≡ None = ap (option_map g) (get_items es id ∙ ap (option_map seen) (sym w.in_default.ensures.value)) in
          ap (λ v. handed v.items) w.list-is ∙ c.loop-id.invariant
          ∙ sym (filtered_none f xs i root_id c.loop-id-test.true none)
    ]
