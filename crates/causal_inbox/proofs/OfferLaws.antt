-- What is offered, and what is left.
use Rattle.std.specs.Prelude.{◌≡◌, ℕ, zero, suc, ◌+◌, ◌≤◌, Bool, true, false, not, cond, ◌||◌, ◌&&◌, List, [], ◌∷◌, ◌++◌, length, map, filter, take, drop, count_by, Option, Some, None, MatchOption, IsTrue, refl}
use Rattle.std.proofs.Common.{sym, ◌∙◌, ap, subst, arith, append_assoc, append-nil, add-zero}
use Rattle.std.proofs.lemmas.List.Sums.{sum_by-append, sum_by-cons}
use Rattle.std.specs.List.{AllByRecursion, find, list_any, slice_get, last_or}
use Rattle.model.specs.Change.{Change, EachAfter, has_name, name_of, placed, in_order, same_bytes}
use Rattle.model.specs.File.{IsNextName}
use Rattle.model.specs.Settle.{Settling, differs, is_pooled, name_before, most_waiting}
use Rattle.model_laws.proofs.ListLaws.{all_more, all_append}
use Rattle.causal_inbox.specs.Names.{key_of, names_of, NamesRise}
use Rattle.causal_inbox.specs.Offers.{after_offer, pool_after, IsRest}
use Rattle.causal_inbox.specs.declared.inbox.Offered.TheVariants.{Known, Same, Forked, Joined}
use Rattle.causal_inbox.proofs.NameLaws.{lacks_before, found_none, put_last, placed_put, in_order_already, in_order_one_more, front_before, rise_last, other_name, before_trans}
use Rattle.causal_inbox.proofs.ReadyLaws.{OneAtMost, both}
use Rattle.causal_inbox.proofs.KeptLaws.{take_at}

-- ---- one change with a name, or none

or_false : (b : Bool) → (b || false) ≡ b
or_false true = refl
or_false false = refl

none_passes : (p : Change → Bool) (cs : List Change) → AllByRecursion (λ d. p d ≡ false) cs → list_any p cs ≡ false
none_passes p [] h = refl
none_passes p (c ∷ cs) h = (λ i. h.0 i || list_any p cs) ∙ none_passes p cs h.1

one_passes : (p q : Change → Bool) → OneAtMost p → (cs : List Change) (d : Change) → NamesRise cs → find p cs ≡ Some d → list_any (both p q) cs ≡ q d
one_passes p q one [] d r e = absurd cc
one_passes p q one (c ∷ cs) d r e =
    elim (p c) as (λ b. p c ≡ b → cond b (Some c) (find p cs) ≡ Some d → ((b && q c) || list_any (both p q) cs) ≡ q d) [
      | true ↦ λ t f.
          let same : c ≡ d = cc in
          let others = all_more (λ x. name_before c x ≡ true) (λ x. both p q x ≡ false) (λ x g. ap (λ b. b && q x) (one c x t g)) cs r.0 in
          ap (λ b. q c || b) (none_passes (both p q) cs others) ∙ or_false (q c) ∙ ap q same
      | false ↦ λ t f. one_passes p q one cs d r.1 f
    ] refl e

found_passes : (p : Change → Bool) (cs : List Change) (d : Change) → find p cs ≡ Some d → list_any p cs ≡ true
found_passes p [] d e = absurd cc
found_passes p (c ∷ cs) d e =
    elim (p c) as (λ b. cond b (Some c) (find p cs) ≡ Some d → (b || list_any p cs) ≡ true) [ true ↦ λ _. refl | false ↦ λ f. found_passes p cs d f ] e

not_found : (p q : Change → Bool) (cs : List Change) → find p cs ≡ None → (list_any (both p q) cs ≡ false) × (list_any p cs ≡ false)
not_found p q [] e = (refl, refl)
not_found p q (c ∷ cs) e =
    elim (p c) as (λ b. cond b (Some c) (find p cs) ≡ None → (((b && q c) || list_any (both p q) cs) ≡ false) × ((b || list_any p cs) ≡ false)) [ true ↦ λ f. absurd cc | false ↦ λ f. not_found p q cs f ] e

named : Change → Change → Bool
named c d = has_name (name_of c) d

pub pool_has : (pool : List Change) (c d : Change) → NamesRise pool → find (has_name (name_of c)) pool ≡ Some d → (differs pool c ≡ not (same_bytes c d)) × (is_pooled pool c ≡ true)
pool_has pool c d r e =
    (one_passes (has_name (name_of c)) (λ x. not (same_bytes c x)) (λ x y t f. other_name (key_of c) x y t f) pool d r e, found_passes (has_name (name_of c)) pool d e)

pub pool_lacks : (pool : List Change) (c : Change) → find (has_name (name_of c)) pool ≡ None → (differs pool c ≡ false) × (is_pooled pool c ≡ false)
pool_lacks pool c e = not_found (has_name (name_of c)) (λ x. not (same_bytes c x)) pool e

-- ---- the second step, by its tests

abbrev pub by_tests : Settling → Change → Bool → Bool → Bool → Bool → Settling
by_tests s c known differing forked pooled =
    cond (known && differing) (after_offer s c Forked) (cond known (after_offer s c Known) (cond forked (after_offer s c Forked) (cond pooled (after_offer s c Same) (after_offer s c Joined))))

pub joins : (pool : List Change) (c : Change) → NamesRise pool → placed name_before c pool ≡ pool_after pool c Joined
joins pool c r = sym (in_order_one_more pool c r)

-- ---- what waited

last_name : (o : Option Change) (front : List Change) (x : Change) → MatchOption (last_or o front) (Unit {0}) (λ d. IsTrue (name_before d x)) → NamesRise front → AllByRecursion (λ d. name_before d x ≡ true) front
last_name o [] x h r = tt
last_name o (a ∷ []) x h r = (h, tt)
last_name o (a ∷ b ∷ front) x h r =
    let rest = last_name (Some a) (b ∷ front) x h r.1 in
    (before_trans a b x r.0.0 rest.0, rest)

pub names_rise : (before xs : List Change) → NamesRise before → EachAfter IsNextName before xs → NamesRise (before ++ xs)
names_rise before [] r h = subst NamesRise (sym (append-nil before)) r
names_rise before (x ∷ xs) r h =
    subst NamesRise (append_assoc before (x ∷ []) xs) (names_rise (before ++ x ∷ []) xs (rise_last before x r (last_name None before x h.0 r)) h.1)

take_front : (xs : List Change) (i : ℕ) → NamesRise xs → NamesRise (take i xs)
take_front xs zero r = tt
take_front [] (suc i) r = tt
take_front (x ∷ xs) (suc i) r = (front xs i r.0, take_front xs i r.1)
  where
    front : (zs : List Change) (k : ℕ) → AllByRecursion (λ d. name_before x d ≡ true) zs → AllByRecursion (λ d. name_before x d ≡ true) (take k zs)
    front zs zero h = tt
    front [] (suc k) h = tt
    front (z ∷ zs) (suc k) h = (h.0, front zs k h.1)

pub kept_all : (P : Change → Type 0) (p : Change → Bool) (cs : List Change) → AllByRecursion P cs → AllByRecursion P (filter p cs)
kept_all P p [] h = tt
kept_all P p (c ∷ cs) h = elim (p c) as (λ b. AllByRecursion P (cond b (c ∷ filter p cs) (filter p cs))) [ true ↦ (h.0, kept_all P p cs h.1) | false ↦ kept_all P p cs h.1 ]

pub rise_kept : (p : Change → Bool) (cs : List Change) → NamesRise cs → NamesRise (filter p cs)
rise_kept p [] r = tt
rise_kept p (c ∷ cs) r = elim (p c) as (λ b. NamesRise (cond b (c ∷ filter p cs) (filter p cs))) [ true ↦ (kept_all (λ d. name_before c d ≡ true) p cs r.0, rise_kept p cs r.1) | false ↦ rise_kept p cs r.1 ]

pub filter_last : (p : Change → Bool) (xs : List Change) (c : Change) → filter p (xs ++ c ∷ []) ≡ filter p xs ++ cond (p c) (c ∷ []) []
filter_last p [] c = refl
filter_last p (x ∷ xs) c = elim (p x) as (λ b. cond b (x ∷ filter p (xs ++ c ∷ [])) (filter p (xs ++ c ∷ [])) ≡ cond b (x ∷ filter p xs) (filter p xs) ++ cond (p c) (c ∷ []) []) [ true ↦ ap (λ (zs : List Change). x ∷ zs) (filter_last p xs c) | false ↦ filter_last p xs c ]

module _ (p : Change → Bool) (xs : List Change) (i : ℕ) (c : Change) (at : slice_get xs i ≡ Some c) (r : EachAfter IsNextName [] xs) where
  all_rise : NamesRise (take (i + 1) xs)
  all_rise = take_front xs (i + 1) (names_rise [] xs tt r)

  before : AllByRecursion (λ d. name_before d c ≡ true) (filter p (take i xs))
  before = kept_all (λ d. name_before d c ≡ true) p (take i xs) (front_before (take i xs) c [] (subst NamesRise (take_at xs i c at) all_rise))

  pub new_name : find (has_name (name_of c)) (filter p (take i xs)) ≡ None
  new_name = found_none (key_of c) (filter p (take i xs)) (lacks_before c (filter p (take i xs)) before)

  pub one_more : p c ≡ true → placed name_before c (filter p (take i xs)) ≡ filter p (take (i + 1) xs)
  one_more t =
      let front = filter p (take i xs) in
      let rising = rise_kept p (take i xs) (take_front xs i (names_rise [] xs tt r)) in
      placed_put c front rising (lacks_before c front before) ∙ put_last c front before
      ∙ sym (ap (filter p) (take_at xs i c at) ∙ filter_last p (take i xs) c ∙ ap (λ b. front ++ cond b (c ∷ []) []) t)

  pub no_more : p c ≡ false → filter p (take i xs) ≡ filter p (take (i + 1) xs)
  no_more t = sym (ap (filter p) (take_at xs i c at) ∙ filter_last p (take i xs) c ∙ ap (λ b. filter p (take i xs) ++ cond b (c ∷ []) []) t ∙ append-nil (filter p (take i xs)))

pub each_placed : (P : Change → Type 0) (c : Change) (cs : List Change) → P c → AllByRecursion P cs → AllByRecursion P (placed name_before c cs)
each_placed P c cs p h = all_append P (filter (λ y. name_before y c) cs) (c ∷ filter (λ y. name_before c y) cs) (kept_all P (λ y. name_before y c) cs h) (p, kept_all P (λ y. name_before c y) cs h)

-- ---- what is left

pub first_taken : (xs ys : List Change) (k : ℕ) → length xs ≡ k → (take k (xs ++ ys) ≡ xs) × (drop k (xs ++ ys) ≡ ys)
first_taken [] ys zero e = (refl, refl)
first_taken [] ys (suc k) e = absurd (omega arith)
first_taken (x ∷ xs) ys zero e = absurd (omega arith)
first_taken (x ∷ xs) ys (suc k) e = let t = first_taken xs ys k (omega arith) in (ap (λ (zs : List Change). x ∷ zs) t.0, t.1)

pub all_taken : (xs : List Change) (k : ℕ) → length xs ≤ k → (take k xs ≡ xs) × (drop k xs ≡ [])
all_taken [] zero le = (refl, refl)
all_taken [] (suc k) le = (refl, refl)
all_taken (x ∷ xs) zero le = absurd (omega arith)
all_taken (x ∷ xs) (suc k) le = let t = all_taken xs k (omega arith) in (ap (λ (zs : List Change). x ∷ zs) t.0, t.1)

names_by : (cs : List Change) → names_of (map key_of cs) ≡ map name_of cs
names_by [] = refl
names_by (c ∷ cs) = λ i. name_of c ∷ names_by cs i

pub is_rest : (pool waiting : List Change) (full : List (ℕ × ℕ)) → NamesRise pool → waiting ≡ take most_waiting pool → full ≡ map key_of (drop most_waiting pool) → IsRest pool waiting full
is_rest pool waiting full r w f s same =
    let sorted = ap (in_order name_before) same ∙ in_order_already pool r in
    (ap (take most_waiting) sorted ∙ sym w, ap (λ (cs : List Change). map name_of (drop most_waiting cs)) sorted ∙ sym (ap names_of f ∙ names_by (drop most_waiting pool)))

-- ---- how many are known

count_last : (q : Change → Bool) (xs : List Change) (i : ℕ) (c : Change) → slice_get xs i ≡ Some c → count_by q (take (i + 1) xs) ≡ count_by q (take i xs) + cond (q c) 1 0
count_last q xs i c at =
    let f = λ (d : Change). cond (q d) 1 0 in
    ap (count_by q) (take_at xs i c at) ∙ sum_by-append f (take i xs) (c ∷ []) ∙ ap (λ k. count_by q (take i xs) + k) (sum_by-cons f c [] ∙ add-zero (cond (q c) 1 0))

pub count_known : (q : Change → Bool) (xs : List Change) (i : ℕ) (c : Change) → slice_get xs i ≡ Some c → q c ≡ true → count_by q (take i xs) + 1 ≡ count_by q (take (i + 1) xs)
count_known q xs i c at t = sym (count_last q xs i c at ∙ ap (λ b. count_by q (take i xs) + cond b 1 0) t)

pub count_new : (q : Change → Bool) (xs : List Change) (i : ℕ) (c : Change) → slice_get xs i ≡ Some c → q c ≡ false → count_by q (take i xs) ≡ count_by q (take (i + 1) xs)
count_new q xs i c at t = sym (count_last q xs i c at ∙ ap (λ b. count_by q (take i xs) + cond b 1 0) t ∙ add-zero (count_by q (take i xs)))
