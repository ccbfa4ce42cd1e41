use Rattle.causal_inbox.proofs.OrderLaws.{any_order}
use Rattle.causal_inbox.proofs.laws.any_order.Goals as goal

pub returns : goal.returns
returns c = any_order
