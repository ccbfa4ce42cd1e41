use Rattle.std.proofs.Common.{take}
use Rattle.replica.specs.Counts.{IsCounted}
use Rattle.replica.proofs.parts.FileParts.counts.Given as goal

abbrev pub invariant-kept : goal.invariant-kept
invariant-kept l = IsCounted l.self-inside.head (take l.i l.self-inside.kept) l.counts
