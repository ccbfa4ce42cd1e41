use Rattle.std.proofs.Common.{◌≡◌, take, filter_map}
use Rattle.std.specs.BTreeMap as tables
use Rattle.op_ids.specs.Order.{id_cmp}
use Rattle.move_list.proofs.list.ids_at.Given as goal

abbrev pub invariant-loop-position : goal.invariant-loop-position
invariant-loop-position l = l.ids.items ≡ filter_map (tables.get id_cmp l.by_position) (take l.position-index l.positions)
