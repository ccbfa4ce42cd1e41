use Rattle.tree_move.proofs.PlaceLaws.{tree_has_no_cycle}
use Rattle.tree_move.proofs.laws.tree_has_no_cycle.Goals as goal

pub returns : goal.returns
returns c = tree_has_no_cycle
