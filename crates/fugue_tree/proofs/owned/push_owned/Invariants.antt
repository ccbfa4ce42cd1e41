use Rattle.std.proofs.Common.{◌≡◌, ◌++◌, map}
use Rattle.fugue_tree.specs.Tree.{children_at}
use Rattle.fugue_tree.specs.Trees.{children_of}
use Rattle.fugue_tree.specs.declared.walking.Task.TheVariants.{Visit}
use Rattle.fugue_tree.proofs.RangeLaws.{leading}
use Rattle.fugue_tree.proofs.OwnedLaws.{hangs_own, own_ids}
use Rattle.fugue_tree.proofs.owned.push_owned.Given as goal

abbrev pub invariant-loop-child : goal.invariant-loop-child
invariant-loop-child l =
    l.stack.items ++ map Visit (own_ids l.owner l.anchor l.fn.side (leading (hangs_own l.owner l.anchor l.fn.side) l.child-iterator))
    ≡ l.fn.stack.items ++ map Visit (children_at (children_of l.children l.owner) l.anchor l.fn.side)
