use Rattle.ledger_laws.proofs.SettleLaws as laws
use Rattle.ledger_laws.proofs.settling.nothing_ready_waits.Goals as goal

pub returns : goal.returns
returns c = laws.nothing_ready_waits
