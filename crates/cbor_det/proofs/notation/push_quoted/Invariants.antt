use Rattle.std.proofs.Common.{◌≡◌, ◌++◌, flat_map, string_bytes}
use Rattle.std.specs.Str.Iter.{chars_rest}
use Rattle.cbor_det.specs.Notation.{escaped}
use Rattle.cbor_det.proofs.notation.push_quoted.Given as goal

abbrev pub invariant-loop-character : goal.invariant-loop-character
invariant-loop-character l = string_bytes l.out ++ flat_map escaped (chars_rest l.character-iterator) ≡ string_bytes l.initial.out ++ flat_map escaped l.text
