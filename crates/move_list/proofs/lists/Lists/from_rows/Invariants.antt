use Rattle.std.proofs.Common.{◌≡◌, take, []}
use Rattle.move_list.specs.Lists.{tables_of_rows}
use Rattle.move_list.proofs.lists.Lists.from_rows.Given as goal

abbrev pub invariant-loop-row : goal.invariant-loop-row
invariant-loop-row l = l.lists ≡ tables_of_rows (take l.row-index l.positions) []

abbrev pub invariant-loop-row-2 : goal.invariant-loop-row-2
invariant-loop-row-2 l = l.lists ≡ tables_of_rows l.fn.positions (take l.row-index l.elements)
