use Rattle.std.proofs.Common.{◌∙◌, ap}
use Rattle.std.specs.FinSet as set
use Rattle.op_ids.specs.Order.{id_cmp}
use Rattle.tree_move.proofs.PlaceLaws.{insert_has}
use Rattle.tree_move.proofs.parents.tests.moved_below.Goals as goal

pub do_move-requires-2-clause-admitted : goal.do_move-requires-2-clause-admitted
do_move-requires-2-clause-admitted c = ap (λ (s : set.FinSet id_cmp). set.contains s c.args.child) c.in_ok-admit.ensures.ok ∙ insert_has c.args.parents.now.admitted c.args.child
