use Rattle.op_ids.specs.declared.OpId.{OpId}
use Rattle.walk_laws.specs.Insertion.{Leftmost}
use Rattle.fugue_tree.proofs.PlaceLaws.{above}
use Rattle.fugue_tree.proofs.tree.Tree.leftmost.Given as goal

abbrev pub invariant-loop-child : goal.invariant-loop-child
invariant-loop-child l = (n : OpId) → Leftmost l.self.rows l.at n → Leftmost l.self.rows l.fn.row n

abbrev pub decreases-loop-child : goal.decreases-loop-child
decreases-loop-child l = above l.at l.self.rows
