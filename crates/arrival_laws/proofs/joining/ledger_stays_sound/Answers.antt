use Rattle.arrival_laws.proofs.SoundLaws as laws
use Rattle.arrival_laws.proofs.joining.ledger_stays_sound.Goals as goal

pub returns : goal.returns
returns c = laws.stays_sound
