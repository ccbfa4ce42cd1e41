use Rattle.std.proofs.Common.{length, string_bytes}
use Rattle.cbor_det.proofs.PrintingLaws.{HasPrinted}
use Rattle.cbor_det.proofs.diagnostics.lines_of.Given as goal

abbrev pub invariant-loop-rest : goal.invariant-loop-rest
invariant-loop-rest l = HasPrinted l.bytes l.rest (string_bytes l.out)

abbrev pub decreases-loop-rest : goal.decreases-loop-rest
decreases-loop-rest l = length l.rest
