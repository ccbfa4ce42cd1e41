use Rattle.std.proofs.Common.{◌≡◌, ◌++◌, flat_map, reverse}
use Rattle.model.specs.Walk.{walk}
use Rattle.walk_laws.specs.Insertion.{IsInsertionTree}
use Rattle.fugue_tree.proofs.WalkLaws.{given, steps_left}
use Rattle.fugue_tree.proofs.TreesLaws.{own_rows}
use Rattle.fugue_tree.proofs.trees.Trees.walk.Given as goal

abbrev pub invariant-loop-task : goal.invariant-loop-task
invariant-loop-task l = IsInsertionTree (own_rows l.self l.owner) × (flat_map (given (own_rows l.self l.owner)) l.stack.items ++ reverse l.ids.items ≡ walk (own_rows l.self l.owner))

abbrev pub decreases-loop-task : goal.decreases-loop-task
decreases-loop-task l = steps_left (own_rows l.self l.owner) l.stack.items
