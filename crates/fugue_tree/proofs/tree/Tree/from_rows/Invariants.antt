use Rattle.std.proofs.Common.{◌≡◌, map, take}
use Rattle.fugue_tree.specs.Tree.{entry_of}
use Rattle.fugue_tree.proofs.tree.Tree.from_rows.Given as goal

abbrev pub invariant-loop-row : goal.invariant-loop-row
invariant-loop-row l = (l.tree.owner ≡ l.fn.owner) × (l.tree.rows ≡ map entry_of (take l.row-index l.rows))
