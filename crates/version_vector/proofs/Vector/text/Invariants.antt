use Rattle.std.proofs.Common.{◌≡◌, take}
use Rattle.std.specs.String.{string_bytes}
use Rattle.version_vector.specs.Counts.{counts_word}
use Rattle.version_vector.proofs.Vector.text.Given as goal

abbrev pub invariant-loop-member : goal.invariant-loop-member
invariant-loop-member l = string_bytes l.text ≡ counts_word (take l.member l.count-items)
