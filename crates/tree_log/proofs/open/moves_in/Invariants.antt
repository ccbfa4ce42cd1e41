use Rattle.std.proofs.Common.{◌≡◌, ◌++◌}
use Rattle.tree_log.specs.Open.{late_in}
use Rattle.tree_log.proofs.open.moves_in.Given as goal

abbrev pub invariant-loop-step : goal.invariant-loop-step
invariant-loop-step l = l.moves.items ++ late_in l.step-iterator ≡ late_in l.late.entries
