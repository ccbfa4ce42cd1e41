use Rattle.ledger_laws.proofs.TellLaws as laws
use Rattle.ledger_laws.proofs.reading.files_tell_all.Goals as goal

pub returns : goal.returns
returns c = laws.files_tell_all
