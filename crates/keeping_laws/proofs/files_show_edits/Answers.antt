use Rattle.keeping_laws.proofs.ShowLaws as laws
use Rattle.keeping_laws.proofs.files_show_edits.Goals as goal

pub returns : goal.returns
returns c = laws.files_show_edits
