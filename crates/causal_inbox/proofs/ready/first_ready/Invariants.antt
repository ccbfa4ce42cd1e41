use Rattle.std.proofs.Common.{◌≡◌}
use Rattle.std.specs.Option.{option_map}
use Rattle.causal_inbox.specs.Counted.{first_ready, candidate_of}
use Rattle.causal_inbox.proofs.ReadyLaws.{below}
use Rattle.causal_inbox.proofs.ready.first_ready.Given as goal

abbrev pub invariant-loop-member : goal.invariant-loop-member
invariant-loop-member l = l.best ≡ option_map candidate_of (first_ready l.held (below l.member l.pool))
