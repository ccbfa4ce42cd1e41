use Rattle.stability.proofs.HeldLaws.{added_makes_row}
use Rattle.stability.proofs.laws.added_makes_row.Goals as goal

pub returns : goal.returns
returns c = added_makes_row
