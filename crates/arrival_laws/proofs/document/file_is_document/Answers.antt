use Rattle.arrival_laws.proofs.DocumentLaws as laws
use Rattle.arrival_laws.proofs.document.file_is_document.Goals as goal

pub returns : goal.returns
returns c = laws.file_is_document
