use Rattle.std.proofs.Common.{◌≡◌, [], map, replicate}
use Rattle.holding.proofs.times.Times.none.Given as goal

abbrev pub invariant-loop : goal.invariant-loop
invariant-loop l = map (λ times. times.items) l.lists.items ≡ replicate l.counter []
