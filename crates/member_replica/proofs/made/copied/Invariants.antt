use Rattle.std.proofs.Common.{◌≡◌, take}
use Rattle.member_replica.proofs.made.copied.Given as goal

abbrev pub invariant-blocks-2 : goal.invariant-blocks-2
invariant-blocks-2 l = l.copy ≡ take l.i l.shelf
