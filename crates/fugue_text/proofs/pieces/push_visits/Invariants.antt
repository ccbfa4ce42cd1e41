use Rattle.std.proofs.Common.{◌≡◌, ◌++◌, map}
use Rattle.fugue_tree.specs.Tree.{children_at}
use Rattle.fugue_text.specs.declared.pieces.Step.TheVariants.{Visit}
use Rattle.fugue_tree.proofs.ChildLaws.{ids, leading}
use Rattle.fugue_text.proofs.pieces.push_visits.Given as goal

abbrev pub invariant-loop-child : goal.invariant-loop-child
invariant-loop-child l =
    l.stack.items ++ map Visit (ids (leading l.anchor l.fn.side l.child-iterator)) ≡ l.fn.stack.items ++ map Visit (children_at l.children l.anchor l.fn.side)
