use Rattle.holding.proofs.GrowLaws.{fit_changes_join}
use Rattle.holding.proofs.laws.fit_changes_join.Goals as goal

pub returns : goal.returns
returns c = fit_changes_join
