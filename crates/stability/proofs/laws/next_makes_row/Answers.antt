use Rattle.stability.proofs.HeldLaws.{next_makes_row}
use Rattle.stability.proofs.laws.next_makes_row.Goals as goal

pub returns : goal.returns
returns c = next_makes_row
