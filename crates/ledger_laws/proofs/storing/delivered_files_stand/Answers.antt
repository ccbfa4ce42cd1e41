use Rattle.ledger_laws.proofs.DeliverLaws as laws
use Rattle.ledger_laws.proofs.storing.delivered_files_stand.Goals as goal

pub returns : goal.returns
returns c = laws.delivered_files_stand
