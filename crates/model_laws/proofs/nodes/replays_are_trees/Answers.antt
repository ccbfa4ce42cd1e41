use Rattle.model_laws.proofs.NodeLaws as laws
use Rattle.model_laws.proofs.nodes.replays_are_trees.Goals as goal

pub returns : goal.returns
returns c = laws.replays_are_trees
