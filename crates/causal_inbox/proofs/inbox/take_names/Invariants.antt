use Rattle.std.proofs.Common.{◌≡◌, ◌++◌, length, map}
use Rattle.causal_inbox.specs.Names.{key_of}
use Rattle.causal_inbox.proofs.inbox.take_names.Given as goal

abbrev pub invariant-loop-block : goal.invariant-loop-block
invariant-loop-block l = l.names ++ map key_of l.pool ≡ map key_of l.initial.pool

abbrev pub decreases-loop-block : goal.decreases-loop-block
decreases-loop-block l = length l.pool
