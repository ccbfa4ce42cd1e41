use Rattle.std.proofs.Common.{◌≡◌, ◌++◌, flat_map, reverse}
use Rattle.model.specs.Walk.{walk}
use Rattle.walk_laws.specs.Insertion.{IsInsertionTree}
use Rattle.fugue_tree.proofs.WalkLaws.{given, steps_left}
use Rattle.fugue_tree.proofs.tree.Tree.walk.Given as goal

abbrev pub invariant-loop-task : goal.invariant-loop-task
invariant-loop-task l = IsInsertionTree l.self.rows × (flat_map (given l.self.rows) l.stack.items ++ reverse l.ids.items ≡ walk l.self.rows)

abbrev pub decreases-loop-task : goal.decreases-loop-task
decreases-loop-task l = steps_left l.self.rows l.stack.items
