use Rattle.std.proofs.Common.{◌≡◌, ◌∙◌, ap, List, slice_get}
use Rattle.std.specs.Option.{option_copied}
use Rattle.op_ids.specs.declared.OpId.{OpId}
use Rattle.move_list.proofs.ShownLaws.{item_at_place}
use Rattle.move_list.proofs.lists.Lists.element_at.Goals as goal

pub returns : goal.returns
returns c =
    let got : option_copied c.get.result ≡ slice_get c.deref.result.now c.args.i = item_at_place c.deref.result.now c.args.i c.get.result c.get.ensures.lookup in
    c.copied.ensures ∙ got ∙ ap (λ (ids : List OpId). slice_get ids c.args.i) (c.deref.ensures.value ∙ c.in_ok-ids.ensures)
