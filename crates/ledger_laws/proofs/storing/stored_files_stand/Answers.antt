use Rattle.ledger_laws.proofs.StoreLaws as laws
use Rattle.ledger_laws.proofs.storing.stored_files_stand.Goals as goal

pub returns : goal.returns
returns c = laws.stored_files_stand
