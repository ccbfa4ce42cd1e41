use Rattle.std.proofs.Common.{◌≡◌, take, filter_map}
use Rattle.move_list.specs.Items.{items_of}
use Rattle.move_list.specs.Kept.{item_at}
use Rattle.move_list.specs.Lists.{handed}
use Rattle.move_list.proofs.list.items_at.Given as goal

abbrev pub invariant-loop-id : goal.invariant-loop-id
invariant-loop-id l = handed l.list.items ≡ filter_map (item_at (items_of l.items.entries)) (take l.id-index l.ids)
