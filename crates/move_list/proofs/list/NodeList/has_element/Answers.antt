use Rattle.std.proofs.Common.{◌≡◌, ◌∙◌, ap, sym, is_some, Option, Some, None, refl}
use Rattle.std.specs.Option.{option_map}
use Rattle.std.specs.FinMap as fin
use Rattle.move_list.specs.declared.item.Item.{Item}
use Rattle.move_list.specs.Items.{seen}
use Rattle.move_list.specs.Kept.{NodeRows}
use Rattle.move_list.proofs.ItemLaws.{get_items}
use Rattle.move_list.proofs.list.NodeList.has_element.Goals as goal

some_seen : (o : Option Item) → is_some o ≡ is_some (option_map seen o)
some_seen None = refl
some_seen (Some i) = refl

pub returns : goal.returns
returns c =
    c.contains_key.ensures ∙ some_seen _ ∙ ap is_some (sym (get_items c.self.inside.items.entries c.args.element)) ∙ ap (λ (l : NodeRows). is_some (fin.get l.elements c.args.element)) c.self.view_is
