use Rattle.tree_log.proofs.SortLaws.{insertion_sorts}
use Rattle.tree_log.proofs.laws.insertion_sorts.Goals as goal

pub returns : goal.returns
returns c = insertion_sorts
