use Rattle.file_laws.proofs.FlawFirst as laws
use Rattle.file_laws.proofs.files.flaw_comes_first.Goals as goal

pub returns : goal.returns
returns c = laws.flaw_first
