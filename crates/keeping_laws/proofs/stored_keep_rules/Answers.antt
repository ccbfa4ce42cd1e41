use Rattle.keeping_laws.proofs.KeptFiles as laws
use Rattle.keeping_laws.proofs.stored_keep_rules.Goals as goal

pub returns : goal.returns
returns c = laws.stored_keep_rules
