use Rattle.replica.proofs.AnswerLaws.{one_answer}
use Rattle.replica.proofs.laws.one_scan.Goals as goal

pub returns : goal.returns
returns c = one_answer
