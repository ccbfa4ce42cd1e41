use Rattle.tree_log.proofs.SortLaws.{one_order}
use Rattle.tree_log.proofs.laws.one_order.Goals as goal

pub returns : goal.returns
returns c = one_order
