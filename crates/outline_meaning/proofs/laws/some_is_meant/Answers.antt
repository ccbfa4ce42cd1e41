use Rattle.outline_meaning.proofs.MeantLaws.{some_outcome}
use Rattle.outline_meaning.proofs.laws.some_is_meant.Goals as goal

pub returns : goal.returns
returns c = some_outcome
