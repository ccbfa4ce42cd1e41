use Rattle.std.proofs.Common.{◌≡◌, ◌∙◌, ap, sym, ℕ, List, [], ◌∷◌, ◌++◌, length, map, append_assoc, arith, refl}
use Rattle.std.specs.Prelude.{encode_utf8}
use Rattle.std.specs.Str.{chars}
use Rattle.std.specs.Str.Iter.{chars_rest}
use Rattle.std.proofs.lemmas.List.{append-nil}
use Rattle.std.proofs.lemmas.Str.{chars-nil, chars_past_char, IsUtf8-past_char}
use Rattle.fugue_text.specs.Runs.{alive_letter}
use Rattle.fugue_text.proofs.texts.alive_letters.Goals as goal

pub loop-character-preserved : goal.loop-character-preserved
loop-character-preserved c =
    let inv = c.loop-character.invariant in
    let x = c.in-Some.character in
    let old = c.loop-character.letters.items in
    let more = chars (chars_rest c.next.new.self) in
    let step : chars_rest c.loop-character.character-iterator ≡ encode_utf8 x ++ chars_rest c.next.new.self = c.in-Some.ensures.steps.0 in
    let head : chars (chars_rest c.loop-character.character-iterator) ≡ x ∷ more = chars_past_char (chars_rest c.loop-character.character-iterator) (chars_rest c.next.new.self) x inv.utf8 step in
    record {
      utf8 = IsUtf8-past_char (chars_rest c.loop-character.character-iterator) (chars_rest c.next.new.self) x inv.utf8 step;
      read = ap (λ ls. ls ++ map alive_letter more) c.in_ok-push.ensures.items ∙ append_assoc old (alive_letter x ∷ []) (map alive_letter more) ∙ ap (λ cs. old ++ map alive_letter cs) (sym head) ∙ inv.read;
    }

no_length : (xs : List ℕ) → length xs ≡ 0 → xs ≡ []
no_length [] e = refl
no_length (x ∷ xs) e = absurd (omega arith)

pub returns : goal.returns
returns c =
    let inv = c.loop-character.invariant in
    let none : chars_rest c.loop-character.character-iterator ≡ [] = no_length (chars_rest c.loop-character.character-iterator) c.in-None.ensures.steps.0.0 in
    sym (append-nil c.loop-character.letters.items) ∙ ap (λ cs. c.loop-character.letters.items ++ map alive_letter cs) (sym (ap chars none ∙ chars-nil)) ∙ inv.read
