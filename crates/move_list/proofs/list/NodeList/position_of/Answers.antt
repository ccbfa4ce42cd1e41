use Rattle.std.proofs.Common.{◌≡◌, ◌∙◌, ap, sym, Option}
use Rattle.std.specs.Option.{option_map, option_map_or}
use Rattle.std.specs.FinMap.{get}
use Rattle.op_ids.specs.declared.OpId.{OpId}
use Rattle.op_ids.specs.Order.{root_id}
use Rattle.model.specs.State.{Element}
use Rattle.move_list.specs.Items.{seen}
use Rattle.move_list.specs.Kept.{NodeRows}
use Rattle.move_list.proofs.ItemLaws.{get_items}
use Rattle.move_list.proofs.list.NodeList.position_of.Goals as goal

abbrev position : Option Element → OpId
position o = option_map_or (λ e. e.position) o root_id

pub returns-in-Some : goal.returns-in-Some
returns-in-Some c =
    ap position (ap (option_map seen) c.in-Some.ensures.value ∙ sym (get_items c.self.inside.items.entries c.args.element))
    ∙ ap (λ (l : NodeRows). position (get l.elements c.args.element)) c.self.view_is

pub returns-in-None : goal.returns-in-None
returns-in-None c =
    ap position (ap (option_map seen) c.in-None.ensures.value ∙ sym (get_items c.self.inside.items.entries c.args.element))
    ∙ ap (λ (l : NodeRows). position (get l.elements c.args.element)) c.self.view_is
