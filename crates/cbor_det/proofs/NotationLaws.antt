-- What is printed of a character and of bytes.
use Rattle.std.proofs.Common.{◌≡◌, ℕ, suc, ◌<◌, ◌≤◌, ◌/◌, ◌%◌, List, [], ◌∷◌, ◌++◌, length, get_or, flat_map, refl, sym, ap, ◌∙◌, inl, inr, arith}
use Rattle.std.specs.Prelude.{encode_utf8}
use Rattle.std.proofs.lemmas.Bool.{cases_lt}
use Rattle.std.proofs.lemmas.Bool.Decides.{nat_tests}
use Rattle.std.proofs.lemmas.List.{append-nil}
use Rattle.std.proofs.lemmas.Str.{inside_one}
use Rattle.hex.specs.Hex.{encode_with, encode_lower}
use Rattle.cbor_det.specs.Notation.{hex, hex_digit, escaped}

pub encode_lower_is_hex : (bs : List ℕ) → encode_lower bs ≡ hex bs
unfolding encode_with
encode_lower_is_hex [] = refl
encode_lower_is_hex (b ∷ bs) = ap (λ more. hex_digit (b / 16) ∷ hex_digit (b % 16) ∷ more) (encode_lower_is_hex bs)

-- ---- a character outside of ASCII stands as it is

plain_byte : (b : ℕ) → 128 ≤ b → escaped b ≡ b ∷ []
plain_byte b h = grind (arith, nat_tests)

plain_bytes : (bs : List ℕ) → ((k : ℕ) → k < length bs → 128 ≤ get_or bs k 0) → flat_map escaped bs ≡ bs
plain_bytes [] h = refl
plain_bytes (b ∷ bs) h =
    ap (λ front. front ++ flat_map escaped bs) (plain_byte b (h 0 (omega arith)))
    ∙ ap (λ more. b ∷ more) (plain_bytes bs (λ k lt. h (suc k) (omega arith)))

pub plain_character : (c : ℕ) → 128 ≤ c → flat_map escaped (encode_utf8 c) ≡ encode_utf8 c
plain_character c h =
    plain_bytes (encode_utf8 c) (λ k lt. elim (cases_lt (get_or (encode_utf8 c) k 0) 128) [
      | inl low ↦
          let same : c ≡ get_or (encode_utf8 c) k 0 = inside_one c [] (encode_utf8 c) k (sym (append-nil (encode_utf8 c))) lt low in
          absurd (omega arith)
      | inr high ↦ high
    ])
