use Rattle.op_ids.specs.declared.OpId.{OpId}
use Rattle.fugue_text.specs.Runs.{places}
use Rattle.walk_laws.specs.Insertion.{Leftmost}
use Rattle.fugue_tree.proofs.PlaceLaws.{above}
use Rattle.fugue_text.proofs.node_text.NodeText.leftmost.Given as goal

abbrev pub invariant-loop-child : goal.invariant-loop-child
invariant-loop-child l = (n : OpId) → Leftmost (places l.self) l.at n → Leftmost (places l.self) l.fn.row n

abbrev pub decreases-loop-child : goal.decreases-loop-child
decreases-loop-child l = above l.at (places l.self)
