use Rattle.arrival_laws.proofs.ComeLaws as laws
use Rattle.arrival_laws.proofs.document.ledger_is_document.Goals as goal

pub returns : goal.returns
returns c = laws.ledger_is_document
