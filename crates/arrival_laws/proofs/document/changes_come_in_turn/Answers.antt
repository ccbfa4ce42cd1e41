use Rattle.arrival_laws.proofs.ComeLaws as laws
use Rattle.arrival_laws.proofs.document.changes_come_in_turn.Goals as goal

pub returns : goal.returns
returns c = laws.changes_come_in_turn
