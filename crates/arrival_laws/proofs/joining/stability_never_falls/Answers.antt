use Rattle.arrival_laws.proofs.StableLaws as laws
use Rattle.arrival_laws.proofs.joining.stability_never_falls.Goals as goal

pub returns : goal.returns
returns c = laws.stability_never_falls
