use Rattle.cbor_det.specs.Machine.{Passed}
use Rattle.cbor_det.proofs.stepping.leaves_of.Given as goal

abbrev pub invariant-loop-left : goal.invariant-loop-left
invariant-loop-left l = Passed l.room l.count l.bytes l.left l.rest

abbrev pub decreases-loop-left : goal.decreases-loop-left
decreases-loop-left l = l.left
