use Rattle.std.proofs.Common.{◌≡◌, take}
use Rattle.member_replica.proofs.ledger.Ledger.of.Given as goal

abbrev pub invariant-loop-i : goal.invariant-loop-i
invariant-loop-i l = l.ledger ≡ take l.i l.kept
