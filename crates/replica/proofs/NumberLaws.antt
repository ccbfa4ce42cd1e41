-- Lists of rising numbers, and their spellings.
use Rattle.std.proofs.Common.{◌≡◌, ℕ, ◌+◌, ◌^◌, ◌<◌, ◌≤◌, List, [], ◌∷◌, ◌++◌, length, refl, sym, ◌∙◌, append_assoc, arith}
use Rattle.std.specs.Prelude.{flat_map}
use Rattle.std.specs.List.{AllByRecursion}
use Rattle.std.specs.List.Sorted.{IsStrictlySortedBy}
use Rattle.std.specs.Ordering.{nat_cmp}
use Rattle.std.specs.declared.cmp.Ordering.TheVariants.{Less}
use Rattle.std.proofs.lemmas.Bool.Decides.{nat_tests}
use Rattle.cbor_det.specs.Head.{head}
use Rattle.cbor_det.specs.Item.{unsigned, IsItem, nesting, IsSpelled}
use Rattle.cbor_det.proofs.SequenceLaws.{spell_unique}

number_spelled : (n : ℕ) → n < 2 ^ 64 → IsSpelled (unsigned n)
unfolding IsItem nesting
number_spelled n lt = (lt, omega arith)

-- where numbers are spelled, others that are no more are the first of them
pub numbers_prefix : (ms ys : List ℕ) (a b : List ℕ) → AllByRecursion (λ k. k < 2 ^ 64) ms → AllByRecursion (λ k. k < 2 ^ 64) ys → length ms ≤ length ys → flat_map (head 0) ms ++ a ≡ flat_map (head 0) ys ++ b
    → (left : List ℕ) × (ys ≡ ms ++ left) × (a ≡ flat_map (head 0) left ++ b)
numbers_prefix [] ys a b hm hy le e = (ys, refl, e)
numbers_prefix (m ∷ ms) [] a b hm hy le e = absurd (omega arith)
numbers_prefix (m ∷ ms) (y ∷ ys) a b hm hy le e =
    let here = spell_unique (unsigned m) (unsigned y) (flat_map (head 0) ms ++ a) (flat_map (head 0) ys ++ b) (number_spelled m hm.0) (number_spelled y hy.0)
    (sym (append_assoc (head 0 m) (flat_map (head 0) ms) a) ∙ e ∙ append_assoc (head 0 y) (flat_map (head 0) ys) b) in
    let same : m ≡ y = cc (here.0) in
    let rest = numbers_prefix ms ys a b hm.1 hy.1 (omega arith) here.1 in
    let back : y ≡ m = sym same in
    (rest.0, (λ i. back i ∷ rest.1 i), rest.2)

pub all_less : (m n : ℕ) (xs : List ℕ) → m ≤ n → AllByRecursion (λ k. k < m) xs → AllByRecursion (λ k. k < n) xs
all_less m n [] le h = tt
all_less m n (x ∷ xs) le h = (omega (arith, h.0), all_less m n xs le h.1)

pub all_push : (n : ℕ) (xs : List ℕ) (y : ℕ) → AllByRecursion (λ k. k < n) xs → y < n → AllByRecursion (λ k. k < n) (xs ++ y ∷ [])
all_push n [] y h lt = (lt, tt)
all_push n (x ∷ xs) y h lt = (h.0, all_push n xs y h.1 lt)

pub all_split : (n : ℕ) (xs ys : List ℕ) → AllByRecursion (λ k. k < n) (xs ++ ys) → AllByRecursion (λ k. k < n) ys
all_split n [] ys h = h
all_split n (x ∷ xs) ys h = all_split n xs ys h.1

less : (x y : ℕ) → x < y → nat_cmp x y ≡ Less
less x y lt = grind (arith, nat_tests)

less_back : (x y : ℕ) → nat_cmp x y ≡ Less → x < y
less_back x y e = grind (arith, nat_tests)

all_below : (y : ℕ) (xs : List ℕ) (x : ℕ) → AllByRecursion (λ k. nat_cmp x k ≡ Less) xs → x < y → AllByRecursion (λ k. nat_cmp x k ≡ Less) (xs ++ y ∷ [])
all_below y [] x h lt = (less x y lt, tt)
all_below y (z ∷ zs) x h lt = (h.0, all_below y zs x h.1 lt)

pub sorted_push : (xs : List ℕ) (y : ℕ) → IsStrictlySortedBy nat_cmp xs → AllByRecursion (λ k. k < y) xs → IsStrictlySortedBy nat_cmp (xs ++ y ∷ [])
unfolding IsStrictlySortedBy
sorted_push [] y s h = (tt, tt)
sorted_push (x ∷ xs) y s h = (all_below y xs x s.0 h.0, sorted_push xs y s.1 h.1)

-- of two neighbours the second is greater
pub sorted_next : (xs : List ℕ) (m y : ℕ) (ys : List ℕ) → IsStrictlySortedBy nat_cmp (xs ++ m ∷ y ∷ ys) → m < y
unfolding IsStrictlySortedBy
sorted_next [] m y ys s = less_back m y s.0.0
sorted_next (x ∷ xs) m y ys s = sorted_next xs m y ys s.1

above : (x : ℕ) (xs : List ℕ) → AllByRecursion (λ k. nat_cmp x k ≡ Less) xs → AllByRecursion (λ k. x + 1 ≤ k) xs
above x [] h = tt
above x (y ∷ ys) h = (let lt = less_back x y h.0 in omega (arith, lt), above x ys h.1)

rising_from : (n low : ℕ) (xs : List ℕ) → low ≤ n → IsStrictlySortedBy nat_cmp xs → AllByRecursion (λ k. k < n) xs → AllByRecursion (λ k. low ≤ k) xs → length xs + low ≤ n
unfolding IsStrictlySortedBy
rising_from n low [] le s h l = omega arith
rising_from n low (x ∷ xs) le s h l =
    let rest = rising_from n (x + 1) xs (omega (arith, h.0)) s.1 h.1 (above x xs s.0) in
    omega (arith, l.0, rest)

from_zero : (xs : List ℕ) → AllByRecursion (λ k. 0 ≤ k) xs
from_zero [] = tt
from_zero (x ∷ xs) = (omega arith, from_zero xs)

-- rising numbers below n are no more than n
pub rising_short : (n : ℕ) (xs : List ℕ) → IsStrictlySortedBy nat_cmp xs → AllByRecursion (λ k. k < n) xs → length xs ≤ n
rising_short n xs s h = omega (arith, rising_from n 0 xs (omega arith) s h (from_zero xs))
