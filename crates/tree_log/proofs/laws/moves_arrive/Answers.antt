use Rattle.tree_log.proofs.StepLaws.{moves_arrive}
use Rattle.tree_log.proofs.laws.moves_arrive.Goals as goal

pub returns : goal.returns
returns c = moves_arrive
