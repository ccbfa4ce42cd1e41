use Rattle.std.proofs.Common.{◌≡◌, length, take}
use Rattle.std.specs.Prelude.{filter}
use Rattle.model.specs.Held.{waits}
use Rattle.causal_inbox.specs.Counted.{counted}
use Rattle.member_replica.proofs.waiting.still_waiting.Given as goal

abbrev pub invariant-waiting : goal.invariant-waiting
invariant-waiting l = l.still ≡ filter (waits (length l.held) (counted l.held)) (take l.i l.waiting)
