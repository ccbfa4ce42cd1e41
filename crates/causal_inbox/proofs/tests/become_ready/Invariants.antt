use Rattle.std.proofs.Common.{◌≡◌, length}
use Rattle.causal_inbox.proofs.tests.become_ready.Given as goal

abbrev pub invariant-loop-name : goal.invariant-loop-name
invariant-loop-name l = length l.held ≡ l.inbox.members
