use Rattle.std.proofs.Common.{◌∙◌, ap, sym, is_some}
use Rattle.std.specs.BTreeMap.{BTreeMap}
use Rattle.std.specs.Map.{lookup}
use Rattle.model_laws.specs.Arrival.{shifted_late}
use Rattle.move_list.specs.Items.{items_of, edited}
use Rattle.walk_laws.proofs.Walks.{key_eq}
use Rattle.move_list.specs.declared.item.Item.{Item}
use Rattle.move_list.proofs.ItemLaws.{items_edited, items_missing}
use Rattle.move_list.proofs.item.shift.Goals as goal

pub returns-in-Some : goal.returns-in-Some
returns-in-Some c =
    let t = c.shift.new.self in
    let held = c.get_mut.follows.holds t in
    items_edited c.args.items.now.entries (c.get_mut.follows.lender t).entries c.args.element c.in-Some.item.now t (sym c.in-Some.ensures.value) (held.3 (ap is_some (sym c.in-Some.ensures.value))).0 (shifted_late c.args.id) c.shift.ensures

pub returns-in_default : goal.returns-in_default
returns-in_default c =
    let same = c.get_mut.follows.holds-at-none in
    ap (λ (m : BTreeMap _ Item). items_of m.entries) same
    ∙ items_missing c.args.items.now.entries c.args.element (shifted_late c.args.id) (sym c.in_default.ensures.value)
