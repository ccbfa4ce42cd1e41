use Rattle.std.proofs.Common.{◌≡◌, ◌++◌, length}
use Rattle.causal_inbox.proofs.inbox.take_waiting.Given as goal

abbrev pub invariant-loop-taken : goal.invariant-loop-taken
invariant-loop-taken l = (l.waiting ++ l.pool ≡ l.initial.pool) × (length l.waiting ≡ l.taken)
