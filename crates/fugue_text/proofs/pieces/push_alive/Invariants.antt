use Rattle.std.proofs.Common.{◌≡◌, ◌++◌, drop, string_bytes}
use Rattle.std.specs.Str.{chars}
use Rattle.fugue_text.specs.Pieces.{alive_characters}
use Rattle.fugue_text.proofs.pieces.push_alive.Given as goal

abbrev pub invariant-loop-letter : goal.invariant-loop-letter
invariant-loop-letter l = chars (string_bytes l.text) ++ alive_characters (drop l.letter-index l.letters) ≡ chars (string_bytes l.fn.text) ++ alive_characters l.letters
