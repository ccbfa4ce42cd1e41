use Rattle.std.proofs.Common.{◌≡◌, ◌++◌, length}
use Rattle.member_replica.proofs.LedgerLaws.{vals}
use Rattle.member_replica.proofs.ledger.Ledger.into_shelf.Given as goal

abbrev pub invariant-loop-block : goal.invariant-loop-block
invariant-loop-block l = l.shelf ++ vals l.blocks.entries ≡ vals l.initial.blocks.entries

abbrev pub decreases-loop-block : goal.decreases-loop-block
decreases-loop-block l = length l.blocks.entries
