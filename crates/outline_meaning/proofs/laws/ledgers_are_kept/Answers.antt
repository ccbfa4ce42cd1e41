use Rattle.outline_meaning.proofs.LedgerMeaning.{keeps_ledgers}
use Rattle.outline_meaning.proofs.laws.ledgers_are_kept.Goals as goal

pub returns : goal.returns
returns c = keeps_ledgers
