use Rattle.std.proofs.Common.{take}
use Rattle.causal_inbox.specs.Kept.{AreMarks}
use Rattle.causal_inbox.proofs.KeptLaws.{seen}
use Rattle.causal_inbox.proofs.index.Index.of.Given as goal

abbrev pub invariant-loop-i : goal.invariant-loop-i
invariant-loop-i l = AreMarks (seen l.marks.entries) (take l.i l.kept)
