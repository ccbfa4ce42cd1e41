use Rattle.std.proofs.Common.{map}
use Rattle.std.specs.BTreeMap as tables
use Rattle.op_ids.specs.Order.{id_cmp}
use Rattle.move_list.specs.Items.{kept_entry}
use Rattle.move_list.proofs.ShownLaws.{Sought}
use Rattle.move_list.proofs.list.shown_by_position.Given as goal

abbrev pub invariant-loop-id : goal.invariant-loop-id
invariant-loop-id l = Sought (tables.get id_cmp l.by_position) (map kept_entry l.id-iterator) (map kept_entry l.items.entries)
