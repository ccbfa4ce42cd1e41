use Rattle.model_laws.proofs.AllArrivals as laws
use Rattle.model_laws.proofs.arrival.greatest_id_wins.Goals as goal

pub returns : goal.returns
returns c = laws.greatest_id_wins
