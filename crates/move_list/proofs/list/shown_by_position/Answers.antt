use Rattle.std.proofs.Common.{◌≡◌, ◌∙◌, ap, sym, subst, ◌∷◌, List, map, true, false, not}
use Rattle.std.specs.BTreeMap as tables
use Rattle.op_ids.specs.declared.OpId.{OpId}
use Rattle.op_ids.specs.Order.{id_cmp}
use Rattle.model.specs.State.{Element}
use Rattle.move_list.specs.Items.{kept_entry, seen}
use Rattle.move_list.specs.declared.item.Item.{Item}
use Rattle.move_list.proofs.ShownLaws.{Sought, sought_more}
use Rattle.move_list.proofs.list.shown_by_position.Goals as goal

pub loop-id-preserved-in_ok-insert : goal.loop-id-preserved-in_ok-insert
loop-id-preserved-in_ok-insert c =
    let found = tables.get id_cmp c.loop-id.by_position in
    let all = map kept_entry c.args.items.now.entries in
    let rest = map kept_entry c.next.new.self in
    let split : c.loop-id.id-iterator ≡ (c.in-Some.id.now, c.in-Some.item.now) ∷ c.next.new.self = c.in-Some.ensures.steps in
    let s = subst (λ (es : List (OpId × Item)). Sought found (map kept_entry es) all) split c.loop-id.invariant in
    sought_more found (tables.get id_cmp c.insert.new.self) (c.in-Some.id.now, seen c.in-Some.item.now) rest all c.if-not-item.true c.in_ok-insert.ensures.updates.0 s
