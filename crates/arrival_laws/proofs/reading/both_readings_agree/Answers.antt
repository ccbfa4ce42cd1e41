use Rattle.arrival_laws.proofs.ReadLaws as laws
use Rattle.arrival_laws.proofs.reading.both_readings_agree.Goals as goal

pub returns : goal.returns
returns c = laws.both_readings_agree
