use Rattle.stability.proofs.HeldLaws.{heads_make_rows}
use Rattle.stability.proofs.laws.heads_make_rows.Goals as goal

pub returns : goal.returns
returns c = heads_make_rows
