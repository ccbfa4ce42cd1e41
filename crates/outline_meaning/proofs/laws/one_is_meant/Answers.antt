use Rattle.outline_meaning.proofs.MeantLaws.{one_meant, one_outcome}
use Rattle.outline_meaning.proofs.laws.one_is_meant.Goals as goal

pub returns-clause-order : goal.returns-clause-order
returns-clause-order c = one_meant

pub returns-clause-words : goal.returns-clause-words
returns-clause-words c = one_outcome
