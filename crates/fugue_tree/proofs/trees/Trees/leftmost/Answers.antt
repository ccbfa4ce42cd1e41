use Rattle.walk_laws.specs.Insertion.{stop, down}
use Rattle.op_ids.specs.declared.Side.TheVariants.{Left}
use Rattle.fugue_tree.proofs.PlaceLaws.{falls, left_below}
use Rattle.fugue_tree.proofs.TreesLaws.{own_rows}
use Rattle.fugue_tree.proofs.trees.Trees.leftmost.Goals as goal

pub loop-child-smaller : goal.loop-child-smaller
loop-child-smaller c =
    let rows = own_rows c.args.self.now c.args.owner in
    falls rows c.loop-child.at c.in-Some.child (record { on = c.loop-child.at; side = Left }) (left_below rows (c.in-Some.ensures.trees c.args.owner) c.loop-child.at c.in-Some.child c.in-Some.ensures.first.is) c.in-Some.ensures.first.is

pub loop-child-preserved : goal.loop-child-preserved
loop-child-preserved c = λ n h. c.loop-child.invariant n (down c.in-Some.ensures.first h)

pub returns : goal.returns
returns c = c.loop-child.invariant c.loop-child.at (stop c.in_default.ensures.first)
