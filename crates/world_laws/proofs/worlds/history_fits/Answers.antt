use Rattle.world_laws.proofs.AdmitLaws as laws
use Rattle.world_laws.proofs.worlds.history_fits.Goals as goal

pub returns : goal.returns
returns c = laws.history_fits
