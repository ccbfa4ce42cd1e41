use Rattle.std.proofs.Common.{◌≡◌, replicate}
use Rattle.holding.proofs.HoldLaws.{silent}
use Rattle.holding.proofs.holding.silent_rows.Given as goal

abbrev pub invariant-loop : goal.invariant-loop
invariant-loop l = l.rows.items ≡ replicate l.counter (silent l.members)
