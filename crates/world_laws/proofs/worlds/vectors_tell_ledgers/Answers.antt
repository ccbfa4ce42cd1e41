use Rattle.world_laws.proofs.VectorLaws as laws
use Rattle.world_laws.proofs.worlds.vectors_tell_ledgers.Goals as goal

pub returns : goal.returns
returns c = laws.vectors_tell_ledgers
