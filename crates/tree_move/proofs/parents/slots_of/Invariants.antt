use Rattle.std.proofs.Common.{◌≡◌, map, take}
use Rattle.std.specs.FinMap as fin
use Rattle.std.specs.FinSet as set
use Rattle.tree_move.specs.Parents.{nodes_of, entry_of}
use Rattle.tree_move.proofs.parents.slots_of.Given as goal

abbrev pub invariant-loop-row : goal.invariant-loop-row
invariant-loop-row l = record {
  places : (nodes_of l.slots.entries).places ≡ fin.from_entries (map entry_of (take l.row-index l.rows));
  admitted : (nodes_of l.slots.entries).admitted ≡ set.from_list (map (λ r. r.id) (take l.row-index l.rows));
}
