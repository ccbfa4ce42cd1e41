use Rattle.std.proofs.Common.{◌≡◌, ◌++◌, map}
use Rattle.std.specs.Prelude.{IsUtf8}
use Rattle.std.specs.Str.{chars}
use Rattle.std.specs.Str.Iter.{chars_rest}
use Rattle.fugue_text.specs.Runs.{alive_letter}
use Rattle.fugue_text.proofs.texts.alive_letters.Given as goal

abbrev pub invariant-loop-character : goal.invariant-loop-character
invariant-loop-character l = record {
  utf8 : IsUtf8 (chars_rest l.character-iterator);
  read : l.letters.items ++ map alive_letter (chars (chars_rest l.character-iterator)) ≡ map alive_letter (chars l.text);
}
