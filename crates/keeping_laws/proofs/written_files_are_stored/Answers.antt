use Rattle.keeping_laws.proofs.WrittenLaws as laws
use Rattle.keeping_laws.proofs.written_files_are_stored.Goals as goal

pub returns : goal.returns
returns c = laws.written_are_stored
