use Rattle.std.proofs.Common.{sym}
use Rattle.tree_log.specs.Moves.{has_place, places_now}
use Rattle.tree_log.specs.Open.{whole}
use Rattle.tree_log.proofs.open.tests.try_take.Goals as goal

pub take-requires-clause-refer : goal.take-requires-clause-refer
take-requires-clause-refer c =
    (c.if-not-refers_back.ensures (has_place (places_now (whole c.args.open.now))) (sym c.has_place-has_parent.ensures) (sym c.has_place-has_child.ensures), tt)
