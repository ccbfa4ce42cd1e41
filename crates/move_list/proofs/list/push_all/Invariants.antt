use Rattle.std.proofs.Common.{◌≡◌, ◌++◌, map}
use Rattle.move_list.specs.Items.{kept_entry}
use Rattle.move_list.specs.Kept.{tagged}
use Rattle.move_list.specs.Lists.{element_entries}
use Rattle.move_list.proofs.list.push_all.Given as goal

abbrev pub invariant-loop-id : goal.invariant-loop-id
invariant-loop-id l = element_entries l.rows.items ++ tagged l.node (map kept_entry l.id-iterator) ≡ element_entries l.fn.rows.items ++ tagged l.node (map kept_entry l.items.entries)
