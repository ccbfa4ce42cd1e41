use Rattle.holding.proofs.GrowLaws.{ledgers_may_grow}
use Rattle.holding.proofs.laws.ledgers_may_grow.Goals as goal

pub returns : goal.returns
returns c = ledgers_may_grow
