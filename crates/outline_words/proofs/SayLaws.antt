-- Lemmas on what words of values and of texts say.
use Rattle.std.proofs.Common.{◌≡◌, ℕ, Bool, true, false, List, ◌∷◌, Bor, IsUtf8, chars, refl, sym, ap, subst, ◌∙◌}
use Rattle.std.specs.Bool.{then_some}
use Rattle.std.specs.Prelude.{IsTrue, IfSome, IfNone, ◌↔◌}
use Rattle.std.specs.List.{AllByRecursion}
use Rattle.std.specs.Char.{IsScalar}
use Rattle.model.specs.Value.{Value, bytes}
use Rattle.model.specs.Operation.{utf8}
use Rattle.outline_words.specs.declared.command.WordValue.TheVariants as v
use Rattle.outline_words.specs.Commands.{SaysValue}
use Rattle.outline_words.specs.Forms.{IsWordValue, value_word}
use Rattle.outline_words.proofs.ReadBack.{Spells}
use Rattle.outline_words.proofs.HexLaws.{IsHex}
use Rattle.outline_words.proofs.TextLaws.{chars-utf8, text_characters}
use Rattle.outline_words.proofs.ValueLaws.{bytes_behind}

-- the characters of a text spell it
pub text_said : (bs : List ℕ) → IsUtf8 bs → AllByRecursion IsScalar (chars bs) × (bs ≡ utf8 (chars bs))
text_said bs is =
    let (cs, each, spelled) = text_characters bs is in
    let same : chars bs ≡ cs = ap chars spelled ∙ chars-utf8 cs each in
    (subst (λ k. AllByRecursion IsScalar k) (sym same) each, spelled ∙ ap utf8 (sym same))

-- what is said of a word with the mark of bytes, where its digits are those of bytes and where not
pub digits_found : (w : List ℕ) (digits : Bor (List ℕ)) (b : Bool) → IsTrue b ↔ IsHex digits.now → w ≡ 35 ∷ digits.now
    → IfSome (then_some b (v.Digits digits)) (λ said. (x : Value) × SaysValue said x × IsWordValue x × (w ≡ value_word x))
digits_found w digits true tells marked =
    let (b, each, is) = tells.0 refl in
    (bytes b, (b, refl, is), each, marked ∙ ap (λ more. 35 ∷ more) is)
digits_found w digits false tells marked = tt

pub digits_only : (w : List ℕ) (digits : Bor (List ℕ)) (b : Bool) → IsTrue b ↔ IsHex digits.now → w ≡ 35 ∷ digits.now
    → IfNone (then_some b (v.Digits digits)) (Spells IsWordValue value_word w → ⊥)
digits_only w digits true tells marked = tt
digits_only w digits false tells marked = λ spelled. let both = tells.1 (bytes_behind w digits.now marked spelled) in cc
