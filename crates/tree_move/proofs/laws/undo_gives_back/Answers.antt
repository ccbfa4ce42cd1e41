use Rattle.tree_move.proofs.PlaceLaws.{undo_gives_back}
use Rattle.tree_move.proofs.laws.undo_gives_back.Goals as goal

pub returns : goal.returns
returns c = undo_gives_back
