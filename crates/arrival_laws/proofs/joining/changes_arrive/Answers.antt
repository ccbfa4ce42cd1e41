use Rattle.arrival_laws.proofs.ChangeArrival as laws
use Rattle.arrival_laws.proofs.joining.changes_arrive.Goals as goal

pub returns : goal.returns
returns c = laws.changes_arrive
