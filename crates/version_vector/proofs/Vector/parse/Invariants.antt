use Rattle.std.proofs.Common.{◌≡◌}
use Rattle.version_vector.proofs.Parts.{Reads}
use Rattle.version_vector.proofs.Vector.parse.Given as goal

abbrev pub invariant-loop-number : goal.invariant-loop-number
invariant-loop-number l =
    (goal.iterator-loop-number).can_next l.number-iterator ×
    (goal.iterator-loop-number).is_finite l.number-iterator ×
    (l.counts.capacity ≡ 32) × Reads l.fn.word l.counts.items l.number-iterator
