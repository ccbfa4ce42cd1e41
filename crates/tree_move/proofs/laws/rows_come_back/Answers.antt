use Rattle.tree_move.proofs.SlotLaws.{rows_come_back}
use Rattle.tree_move.proofs.laws.rows_come_back.Goals as goal

pub returns : goal.returns
returns c = rows_come_back
