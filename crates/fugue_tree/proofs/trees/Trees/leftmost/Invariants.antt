use Rattle.op_ids.specs.declared.OpId.{OpId}
use Rattle.walk_laws.specs.Insertion.{Leftmost}
use Rattle.fugue_tree.proofs.PlaceLaws.{above}
use Rattle.fugue_tree.proofs.TreesLaws.{own_rows}
use Rattle.fugue_tree.proofs.trees.Trees.leftmost.Given as goal

abbrev pub invariant-loop-child : goal.invariant-loop-child
invariant-loop-child l = (n : OpId) → Leftmost (own_rows l.self l.owner) l.at n → Leftmost (own_rows l.self l.owner) l.fn.row n

abbrev pub decreases-loop-child : goal.decreases-loop-child
decreases-loop-child l = above l.at (own_rows l.self l.owner)
