use Rattle.std.proofs.Common.{◌≡◌}
use Rattle.causal_inbox.specs.Offers.{Compares}
use Rattle.causal_inbox.proofs.tests.are_told.Given as goal

abbrev pub invariant-loop-bytes : goal.invariant-loop-bytes
invariant-loop-bytes l = record {
  members : l.inbox.members ≡ l.initial.inbox.members;
  kept : Compares l.inbox l.kept;
}
