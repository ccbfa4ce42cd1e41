use Rattle.keeping_laws.proofs.ShowLaws as laws
use Rattle.keeping_laws.proofs.stored_files_are_whole.Goals as goal

pub returns : goal.returns
returns c = laws.stored_are_whole
