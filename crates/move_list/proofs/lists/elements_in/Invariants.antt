use Rattle.std.proofs.Common.{◌≡◌, ◌++◌}
use Rattle.move_list.specs.Kept.{all_rows, items_in}
use Rattle.move_list.specs.Lists.{element_entries}
use Rattle.move_list.proofs.lists.elements_in.Given as goal

abbrev pub invariant-loop-node : goal.invariant-loop-node
invariant-loop-node l = element_entries l.rows.items ++ all_rows items_in l.node-iterator ≡ all_rows items_in l.nodes.entries
