use Rattle.std.proofs.Common.{◌≡◌, drop}
use Rattle.tree_log.specs.Moves.{inserted}
use Rattle.tree_log.proofs.OpenLaws.{Taking}
use Rattle.tree_log.proofs.open.OpenLog.take.Given as goal

abbrev pub invariant-loop-step : goal.invariant-loop-step
invariant-loop-step l = record {
  log : l.self-inside.log ≡ l.fn.self.log;
  taking : Taking l.fn.self.log l.self-inside.late.entries (drop l.step-index l.moves) (inserted l.fn.self.late l.moves);
}
