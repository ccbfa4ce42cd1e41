-- Lemmas on the words of vectors: each reads back.
use Rattle.std.proofs.Common.{◌≡◌, ℕ, suc, ◌<◌, ◌≤◌, ◌^◌, ◌==◌, false, List, [], ◌∷◌, length, map, All, lit<, refl, sym, ap, ◌∙◌, inl, arith}
use Rattle.std.specs.Fmt.{decimal}
use Rattle.std.specs.List.{slice_split}
use Rattle.std.proofs.lemmas.Bool.{ne_eqb}
use Rattle.std.proofs.lemmas.List.{get_or_default}
use Rattle.std.proofs.lemmas.List.Elements.{All-cons}
use Rattle.std.proofs.lemmas.List.Splits.{slice_split_none, slice_split_at}
use Rattle.version_vector.specs.Counts.{IsCounts, counts_word}
use Rattle.outline_words.proofs.ReadBack.{Settled, settled_both, settled_like, settled_lt, settled_le, Spells, spelled_once, settled_spells}
use Rattle.outline_words.proofs.NumberLaws.{number_of, number_of-decimal, no_byte}

abbrev AreSmall : List ℕ → Type 0
AreSmall counts = All (λ n. n < 2 ^ 32) counts

no_comma : (n : ℕ) → n < 2 ^ 64 → All (λ b. (b == 44) ≡ false) (decimal n)
no_comma n small k d within = ne_eqb _ 44 (λ same. no_byte 44 (lit< tt) n small k within (sym (get_or_default (decimal n) k d 0 within) ∙ same))

-- the parts of a vector's word are its counts in decimal
parts : (n : ℕ) (ns : List ℕ) → AreSmall (n ∷ ns) → slice_split (λ b. b == 44) (counts_word (n ∷ ns)) ≡ map decimal (n ∷ ns)
parts n [] small = slice_split_none (λ b. b == 44) (decimal n) (no_comma n (let s = small 0 0 (omega arith) in omega arith))
parts n (m ∷ ns) small =
    slice_split_at (λ b. b == 44) (decimal n) 44 (counts_word (m ∷ ns)) (no_comma n (let s = small 0 0 (omega arith) in omega arith)) refl
    ∙ ap (λ more. decimal n ∷ more) (parts m ns (λ k d within. small (suc k) d (omega arith)))

numbers_read : (ns : List ℕ) → AreSmall ns → map number_of (map decimal ns) ≡ ns
numbers_read [] small = refl
numbers_read (n ∷ ns) small =
    ap (λ first. first ∷ map number_of (map decimal ns)) (number_of-decimal n (let s = small 0 0 (omega arith) in omega arith))
    ∙ ap (λ more. n ∷ more) (numbers_read ns (λ k d within. small (suc k) d (omega arith)))

read_counts : List ℕ → List ℕ
read_counts w = map number_of (slice_split (λ b. b == 44) w)

read_counts-counts_word : (ns : List ℕ) → IsCounts ns → read_counts (counts_word ns) ≡ ns
unfolding read_counts
read_counts-counts_word [] is = absurd (omega (arith, is.some))
read_counts-counts_word (n ∷ ns) is = ap (map number_of) (parts n ns is.in_range) ∙ numbers_read (n ∷ ns) is.in_range

settled_small : (ns : List ℕ) → Settled (AreSmall ns)
settled_small [] = inl (λ k d within. absurd (omega arith))
settled_small (n ∷ ns) =
    settled_like {P = (n < 2 ^ 32) × AreSmall ns} (λ (first, more). All-cons (λ m. m < 2 ^ 32) n ns first more)
    (λ all. (all 0 0 (omega arith), λ k d within. all (suc k) d (omega arith)))
    (settled_both (settled_lt n (2 ^ 32)) (settled_small ns))

settled_counts : (ns : List ℕ) → Settled (IsCounts ns)
settled_counts ns =
    settled_like {P = (0 < length ns) × ((length ns ≤ 32) × AreSmall ns)} (λ (some, (few, small)). record { some = some; few = few; in_range = small })
    (λ is. (is.some, (is.few, is.in_range)))
    (settled_both (settled_lt 0 (length ns)) (settled_both (settled_le (length ns) 32) (settled_small ns)))

pub one_vector : (a b : List ℕ) → IsCounts a → IsCounts b → counts_word a ≡ counts_word b → a ≡ b
one_vector = spelled_once IsCounts counts_word read_counts read_counts-counts_word

pub settled_vector : (w : List ℕ) → Settled (Spells IsCounts counts_word w)
settled_vector = settled_spells IsCounts counts_word read_counts read_counts-counts_word settled_counts
