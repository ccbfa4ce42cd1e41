use Rattle.std.proofs.Common.{◌∙◌}
use Rattle.holding.proofs.HoldLaws.{counts_read}
use Rattle.holding.proofs.holding.Holding.counts.Goals as goal

pub returns : goal.returns
returns c = λ n b kept holds. c.vector.ensures ∙ counts_read c.args.self.now n b kept holds
