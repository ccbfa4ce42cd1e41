-- The derived order of keys with their first bytes is the order of the keys.
use Rattle.std.proofs.Common.{◌≡◌, ℕ, zero, suc, ◌+◌, ◌*◌, ◌^◌, ◌<◌, ◌≤◌, List, [], ◌∷◌, length, refl, sym, ap, ◌∙◌, arith}
use Rattle.std.proofs.Math.Nat.{mul-le-mul_right, pow-suc}
use Rattle.std.specs.Prelude.{get_or}
use Rattle.std.specs.List.{AllByRecursion}
use Rattle.std.specs.declared.cmp.Ordering.{Ordering}
use Rattle.std.specs.declared.cmp.Ordering.TheVariants.{Less, Equal, Greater}
use Rattle.std.specs.Cmp.{nat_cmp_is, ranked, tied_itself}
use Rattle.std.specs.Ordering.{MatchOrdering, ordering_then, nat_cmp}
use Rattle.std.specs.Cmp.Lexicographic.{slice_cmp, nat_list_cmp_total}
use Rattle.lww_map.specs.Prefixes.{first_bytes, prefix_of}
use Rattle.lww_map.specs.Keys.{prefix_cmp, text_cmp}
use Rattle.lww_map.specs.declared.prefix_key.PrefixKey.{PrefixKey}

-- ---- numbers of as many bytes are in the order of their bytes

abbrev number : List ℕ → ℕ
number [] = 0
number (x ∷ xs) = x * 256 ^ length xs + number xs

below_by : (x f p : ℕ) → x < 256 → f < p → x * p + f < p * 256
below_by x f p d l = let worth : suc x * p ≤ 256 * p = mul-le-mul_right p d in omega (arith, worth)

number_below : (xs : List ℕ) → AllByRecursion (λ b. b < 256) xs → number xs < 256 ^ length xs
number_below [] h = omega arith
number_below (x ∷ xs) h = rw (pow-suc 256 (length xs)) (below_by x (number xs) (256 ^ length xs) h.0 (number_below xs h.1))

less_by : (x y f g p : ℕ) → x < y → f < p → x * p + f < y * p + g
less_by x y f g p d l = let worth : suc x * p ≤ y * p = mul-le-mul_right p d in omega (arith, worth)

digits_by : (x y f g p : ℕ) (r q : Ordering) → r ≡ nat_cmp x y → q ≡ nat_cmp f g → f < p → g < p → MatchOrdering (ordering_then r q) (x * p + f < y * p + g) (x * p + f ≡ y * p + g) (y * p + g < x * p + f)
digits_by x y f g p Less q d e l m = less_by x y f g p (ranked x y Less d) l
digits_by x y f g p Greater q d e l m = less_by y x g f p (ranked x y Greater d) m
digits_by x y f g p Equal Less d e l m = let same : x ≡ y = ranked x y Equal d in let less : f < g = ranked f g Less e in rw same (omega (arith, less))
digits_by x y f g p Equal Equal d e l m = let same : x ≡ y = ranked x y Equal d in let equal : f ≡ g = ranked f g Equal e in rw (same, equal) refl
digits_by x y f g p Equal Greater d e l m = let same : x ≡ y = ranked x y Equal d in let more : g < f = ranked f g Greater e in rw same (omega (arith, more))

digits_are : (x y f g p : ℕ) → f < p → g < p → nat_cmp (x * p + f) (y * p + g) ≡ ordering_then (nat_cmp x y) (nat_cmp f g)
digits_are x y f g p l m = sym (nat_cmp_is (x * p + f) (y * p + g) _ (digits_by x y f g p (nat_cmp x y) (nat_cmp f g) refl refl l m))

numbers_are : (xs ys : List ℕ) → length xs ≡ length ys → AllByRecursion (λ b. b < 256) xs → AllByRecursion (λ b. b < 256) ys → nat_cmp (number xs) (number ys) ≡ slice_cmp nat_cmp xs ys
numbers_are [] [] e h k = refl
numbers_are [] (y ∷ ys) e h k = absurd (omega arith)
numbers_are (x ∷ xs) [] e h k = absurd (omega arith)
numbers_are (x ∷ xs) (y ∷ ys) e h k =
    let long : length ys ≡ length xs = omega arith in
    let below : number ys < 256 ^ length xs = rw (sym long) (number_below ys k.1) in
    ap (λ n. nat_cmp (number (x ∷ xs)) (y * 256 ^ n + number ys)) long
    ∙ digits_are x y (number xs) (number ys) (256 ^ length xs) (number_below xs h.1) below
    ∙ ap (ordering_then (nat_cmp x y)) (numbers_are xs ys (sym long) h.1 k.1)

eight : (a b c d e f g h : ℕ) → a + b + c + d + e + f + g + h ≡ a + (b + (c + (d + (e + (f + (g + (h * 1 + 0)))))))
eight a b c d e f g h = omega arith

prefix_number : (text : List ℕ) → prefix_of text ≡ number (first_bytes text)
prefix_number text =
    eight (get_or text 0 0 * 256 ^ 7) (get_or text 1 0 * 256 ^ 6) (get_or text 2 0 * 256 ^ 5) (get_or text 3 0 * 256 ^ 4) (get_or text 4 0 * 256 ^ 3) (get_or text 5 0 * 256 ^ 2) (get_or text 6 0 * 256 ^ 1) (get_or text 7 0)

-- ---- where the first bytes of two texts differ, the texts do likewise

-- the n bytes of a text from a place on, with zeros past its end
abbrev bytes_from : ℕ → ℕ → List ℕ → List ℕ
bytes_from zero place text = []
bytes_from (suc n) place text = get_or text place 0 ∷ bytes_from n (suc place) text

abbrev order : List ℕ → List ℕ → Ordering
order = slice_cmp nat_cmp

one_on : (n place x : ℕ) (text : List ℕ) → bytes_from n (suc place) (x ∷ text) ≡ bytes_from n place text
one_on zero place x text = refl
one_on (suc n) place x text = ap (λ more. get_or text place 0 ∷ more) (one_on n (suc place) x text)

past_end : (n place : ℕ) → bytes_from n (suc place) [] ≡ bytes_from n place []
past_end zero place = refl
past_end (suc n) place = ap (λ more. 0 ∷ more) (past_end n (suc place))

shorter_by : (y : ℕ) (r p : Ordering) → nat_cmp 0 y ≡ r → ordering_then p Less ≡ Less → ordering_then (ordering_then r p) Less ≡ Less
shorter_by y Less p e rest = refl
shorter_by y Equal p e rest = rest
shorter_by y Greater p e rest = let none : y < 0 = ranked 0 y Greater (sym e) in absurd (omega arith)

shorter : (n : ℕ) (b : List ℕ) → ordering_then (order (bytes_from n 0 []) (bytes_from n 0 b)) Less ≡ Less
shorter zero b = refl
shorter (suc n) [] = shorter_by 0 (nat_cmp 0 0) _ refl (ap (λ (f : List ℕ). ordering_then (order f f) Less) (past_end n 0) ∙ shorter n [])
shorter (suc n) (y ∷ b) =
    shorter_by y (nat_cmp 0 y) _ refl (ap (λ f. ordering_then (order f (bytes_from n 1 (y ∷ b))) Less) (past_end n 0) ∙ ap (λ f. ordering_then (order (bytes_from n 0 []) f) Less) (one_on n 0 y b) ∙ shorter n b)

longer_by : (x : ℕ) (r p : Ordering) → nat_cmp x 0 ≡ r → ordering_then p Greater ≡ Greater → ordering_then (ordering_then r p) Greater ≡ Greater
longer_by x Greater p e rest = refl
longer_by x Equal p e rest = rest
longer_by x Less p e rest = let none : x < 0 = ranked x 0 Less (sym e) in absurd (omega arith)

longer : (n : ℕ) (a : List ℕ) → ordering_then (order (bytes_from n 0 a) (bytes_from n 0 [])) Greater ≡ Greater
longer zero a = refl
longer (suc n) [] = longer_by 0 (nat_cmp 0 0) _ refl (ap (λ (f : List ℕ). ordering_then (order f f) Greater) (past_end n 0) ∙ longer n [])
longer (suc n) (x ∷ a) =
    longer_by x (nat_cmp x 0) _ refl (ap (λ f. ordering_then (order (bytes_from n 1 (x ∷ a)) f) Greater) (past_end n 0) ∙ ap (λ f. ordering_then (order f (bytes_from n 0 [])) Greater) (one_on n 0 x a) ∙ longer n a)

then_by : (r p q : Ordering) → ordering_then p q ≡ q → ordering_then (ordering_then r p) (ordering_then r q) ≡ ordering_then r q
then_by Less p q rest = refl
then_by Equal p q rest = rest
then_by Greater p q rest = refl

first_bytes_decide : (n : ℕ) (a b : List ℕ) → ordering_then (order (bytes_from n 0 a) (bytes_from n 0 b)) (order a b) ≡ order a b
first_bytes_decide zero a b = refl
first_bytes_decide (suc n) [] [] = ap (λ r. ordering_then r Equal) (tied_itself nat_list_cmp_total (bytes_from (suc n) 0 []))
first_bytes_decide (suc n) [] (y ∷ b) = shorter (suc n) (y ∷ b)
first_bytes_decide (suc n) (x ∷ a) [] = longer (suc n) (x ∷ a)
first_bytes_decide (suc n) (x ∷ a) (y ∷ b) =
    then_by (nat_cmp x y) _ (order a b)
    (ap (λ f. ordering_then (order f (bytes_from n 1 (y ∷ b))) (order a b)) (one_on n 0 x a)
    ∙ ap (λ f. ordering_then (order (bytes_from n 0 a) f) (order a b)) (one_on n 0 y b)
    ∙ first_bytes_decide n a b)

-- ---- keys

prefix_decides : (a b : PrefixKey) → prefix_cmp a b ≡ text_cmp a b
prefix_decides a b =
    let s = a.text.now in
    let t = b.text.now in
    (λ i. ordering_then (nat_cmp (a.is_prefix i) (b.is_prefix i)) (order s t))
    ∙ (λ i. ordering_then (nat_cmp (prefix_number s i) (prefix_number t i)) (order s t))
    ∙ ap (λ r. ordering_then r (order s t)) (numbers_are (first_bytes s) (first_bytes t) refl a.are_bytes b.are_bytes)
    ∙ first_bytes_decide 8 s t

pub prefixes_decide : prefix_cmp ≡ text_cmp
prefixes_decide = λ i a b. prefix_decides a b i
