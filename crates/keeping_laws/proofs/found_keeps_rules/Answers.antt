use Rattle.keeping_laws.proofs.NewFiles as laws
use Rattle.keeping_laws.proofs.found_keeps_rules.Goals as goal

pub returns : goal.returns
returns c = laws.found_keeps_rules
