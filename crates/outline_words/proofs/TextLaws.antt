-- Lemmas on texts and their characters: each text reads back.
use Rattle.std.proofs.Common.{◌≡◌, ℕ, true, List, [], ◌∷◌, ◌++◌, chars, IsUtf8, encode_utf8, encode_utf8_all, refl, sym, ap, ◌∙◌}
use Rattle.std.proofs.Math.Utf8.{scalar, scalars}
use Rattle.std.specs.List.{AllByRecursion}
use Rattle.std.specs.Char.{IsScalar}
use Rattle.std.specs.Str.{is_utf8}
use Rattle.std.proofs.lemmas.Bool.{and_parts, and_from}
use Rattle.std.proofs.lemmas.Str.{chars-encodes, is_utf8-from_IsUtf8, IsUtf8-from_is_utf8}
use Rattle.model.specs.Operation.{utf8}
use Rattle.outline_words.proofs.ReadBack.{Settled, settled_test, Spells, spelled_once, settled_spells}

pub settled_utf8 : (bs : List ℕ) → Settled (IsUtf8 bs)
settled_utf8 bs = settled_test (is_utf8 bs) (IsUtf8-from_is_utf8 bs) (is_utf8-from_IsUtf8 bs)

scalars_from : (cs : List ℕ) → AllByRecursion IsScalar cs → scalars cs ≡ true
scalars_from [] each = refl
scalars_from (c ∷ cs) each = and_from (scalar c) (scalars cs) each.0 (scalars_from cs each.1)

from_scalars : (cs : List ℕ) → scalars cs ≡ true → AllByRecursion IsScalar cs
from_scalars [] all = tt
from_scalars (c ∷ cs) all = let parts = and_parts (scalar c) (scalars cs) all in (parts.0, from_scalars cs parts.1)

utf8_encodes : (cs : List ℕ) → utf8 cs ≡ encode_utf8_all cs
utf8_encodes [] = refl
utf8_encodes (c ∷ cs) = ap (λ more. encode_utf8 c ++ more) (utf8_encodes cs)

pub chars-utf8 : (cs : List ℕ) → AllByRecursion IsScalar cs → chars (utf8 cs) ≡ cs
chars-utf8 cs each = ap chars (utf8_encodes cs) ∙ chars-encodes cs (scalars_from cs each)

-- a text has characters
pub text_characters : (bs : List ℕ) → IsUtf8 bs → (cs : List ℕ) × AllByRecursion IsScalar cs × (bs ≡ utf8 cs)
text_characters bs (cs, (all, is)) = (cs, from_scalars cs all, sym is ∙ sym (utf8_encodes cs))

settled_scalars : (cs : List ℕ) → Settled (AllByRecursion IsScalar cs)
settled_scalars cs = settled_test (scalars cs) (from_scalars cs) (scalars_from cs)

pub one_text : (a b : List ℕ) → AllByRecursion IsScalar a → AllByRecursion IsScalar b → utf8 a ≡ utf8 b → a ≡ b
one_text = spelled_once (AllByRecursion IsScalar) utf8 chars chars-utf8

pub settled_text : (w : List ℕ) → Settled (Spells (AllByRecursion IsScalar) utf8 w)
settled_text = settled_spells (AllByRecursion IsScalar) utf8 chars chars-utf8 settled_scalars
