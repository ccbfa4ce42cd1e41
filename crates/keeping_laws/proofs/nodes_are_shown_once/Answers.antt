use Rattle.keeping_laws.proofs.OnceLaws as laws
use Rattle.keeping_laws.proofs.nodes_are_shown_once.Goals as goal

pub returns : goal.returns
returns c = laws.nodes_shown_once
