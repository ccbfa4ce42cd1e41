-- The rows of one place as a range of a set that holds rows of many places: the first, and all.
use Rattle.std.specs.Prelude.{◌≡◌, ℕ, zero, suc, Bool, true, false, not, ◌&&◌, Option, Some, None, List, [], ◌∷◌, filter, refl, ◌⊎◌, IfSome, nat_lt, ◌==◌, cond}
use Rattle.std.proofs.Common.{arith, sym, ◌∙◌, ap, subst, inl, inr}
use Rattle.std.proofs.lemmas.Bool.Decides.{nat_tests}
use Rattle.std.specs.List.{slice_get, AllByRecursion}
use Rattle.std.specs.List.Sorted.{IsStrictlySortedBy}
use Rattle.std.specs.Ordering.{nat_cmp, ordering_then, ordering_reverse, is_lt, is_gt, is_le}
use Rattle.std.specs.declared.cmp.Ordering.{Ordering}
use Rattle.std.specs.declared.cmp.Ordering.TheVariants.{Less, Equal, Greater}
use Rattle.std.specs.declared.ops.Bound.TheVariants.{Included, Unbounded}
use Rattle.std.specs.BTreeSet.{BTreeSet, contains, IsKeyInRange, IsKeyRangeOf}
use Rattle.std.specs.BTreeMap.Range.{IsLeBy, IsInRange, range_contains}
use Rattle.op_ids.specs.declared.OpId.{OpId}
use Rattle.op_ids.specs.Order.{id_cmp, id_lt, root_id}
use Rattle.op_ids.proofs.OrderLaws.{id_cmp_total, id_cmp_exact}

pub bool_cases : (b : Bool) → (b ≡ true) ⊎ (b ≡ false)
bool_cases true = inl refl
bool_cases false = inr refl

zero_least : (n : ℕ) → (nat_cmp 0 n ≡ Less) ⊎ (nat_cmp 0 n ≡ Equal)
zero_least zero = inr refl
zero_least (suc n) = inl (let e : nat_lt 0 (suc n) ≡ true = grind (arith, nat_tests) in ap (λ b. cond b Less (cond (0 == suc n) Equal Greater)) e)

then_least : (r s : Ordering) → (r ≡ Less) ⊎ (r ≡ Equal) → is_gt s ≡ false → is_gt (ordering_then r s) ≡ false
then_least r s (inl e) h = ap (λ x. is_gt (ordering_then x s)) e
then_least r s (inr e) h = ap (λ x. is_gt (ordering_then x s)) e ∙ h

least_gt : (r : Ordering) → (r ≡ Less) ⊎ (r ≡ Equal) → is_gt r ≡ false
least_gt r (inl e) = ap is_gt e
least_gt r (inr e) = ap is_gt e

root_least : (q : OpId) → is_gt (id_cmp root_id q) ≡ false
root_least q = then_least (nat_cmp 0 q.time) (ordering_then (nat_cmp 0 q.member) (nat_cmp 0 q.index)) (zero_least q.time) (then_least (nat_cmp 0 q.member) (nat_cmp 0 q.index) (zero_least q.member) (least_gt (nat_cmp 0 q.index) (zero_least q.index)))

turned : (r : Ordering) → is_gt r ≡ false → is_lt (ordering_reverse r) ≡ false
turned Less h = refl
turned Equal h = refl
turned Greater h = h

level : (r : Ordering) → is_gt r ≡ false → is_gt (ordering_reverse r) ≡ false → r ≡ Equal
level Less h k = cc
level Equal h k = refl
level Greater h k = cc

not_above : (i j : OpId) → is_gt (id_cmp i j) ≡ false → id_lt j i ≡ false
not_above i j h = ap is_lt (id_cmp_total.antisymm j i) ∙ turned (id_cmp i j) h

pub first_le : (r s : Ordering) → is_gt (ordering_then r s) ≡ false → is_gt r ≡ false
first_le Less s h = refl
first_le Equal s h = refl
first_le Greater s h = h

pub both_le : (a b : OpId) → is_gt (id_cmp a b) ≡ false → is_gt (id_cmp b a) ≡ false → a ≡ b
both_le a b h k = id_cmp_exact a b (level (id_cmp a b) h (ap is_gt (sym (id_cmp_total.antisymm b a)) ∙ k))

le_less : (r : Ordering) → r ≡ Less → is_gt r ≡ false
le_less r e = ap is_gt e

gt_le : (r : Ordering) → is_gt r ≡ false → is_le r ≡ true
gt_le Less h = refl
gt_le Equal h = refl
gt_le Greater h = cc

le_gt : (r : Ordering) → is_le r ≡ true → is_gt r ≡ false
le_gt Less h = refl
le_gt Equal h = refl
le_gt Greater h = cc

true_and : (b : Bool) → (b && not false) ≡ b
true_and true = refl
true_and false = refl

-- those from the front on that pass
abbrev pub leading : {K : Type 0} → (K → Bool) → List K → List K
leading test [] = []
leading test (c ∷ cs) = cond (test c) (c ∷ leading test cs) []

none_passes : {K : Type 0} (p : K → Bool) (cs : List K) → AllByRecursion (λ c. p c ≡ false) cs → filter p cs ≡ []
none_passes p [] h = refl
none_passes p (c ∷ cs) h = rw h.0 (none_passes p cs h.1)

all_keys : {K : Type 0} (P Q : K → Type 0) (cs : List K) → ((c : K) → P c → Q c) → AllByRecursion P cs → AllByRecursion Q cs
all_keys P Q [] f h = tt
all_keys P Q (c ∷ cs) f h = (f c h.0, all_keys P Q cs f h.1)

-- the row of a place with the least id, if there is any
abbrev pub IsFirstRow : {K : Type 0} → (K → K → Ordering) → (OpId → K) → BTreeSet K → Option OpId → Type 0
IsFirstRow cmp row s None = (q : OpId) → contains cmp s (row q) ≡ false
IsFirstRow cmp row s (Some c) = (contains cmp s (row c) ≡ true) × ((q : OpId) → contains cmp s (row q) ≡ true → id_lt q c ≡ false)

-- The rows of a place: among these the ids decide, and what stands between two of them is one of them.
module _ {K : Type 0} (cmp : K → K → Ordering) (row : OpId → K) (id_of : K → OpId) (by_ids : (i j : OpId) → cmp (row i) (row j) ≡ id_cmp i j)
    (between : (i j : OpId) (c : K) → is_gt (cmp (row i) c) ≡ false → is_gt (cmp c (row j)) ≡ false → c ≡ row (id_of c)) where
  from_root : (q : OpId) → is_gt (cmp (row root_id) (row q)) ≡ false
  from_root q = ap is_gt (by_ids root_id q) ∙ root_least q

  -- ---- the first

  module _ (s : BTreeSet K) (r : List K) (h : IsKeyRangeOf cmp (Included (row root_id)) Unbounded s r) where
    in_range : (q : OpId) → IsInRange cmp (Included (row root_id)) Unbounded (row q)
    in_range q = (from_root q, tt)

    module _ (c : K) (rest : List K) (steps : r ≡ c ∷ rest) where
      inside : IsKeyInRange cmp (Included (row root_id)) Unbounded s c
      inside = subst (λ ks. IfSome (slice_get ks 0) (IsKeyInRange cmp (Included (row root_id)) Unbounded s)) steps h.1

      least : (q : OpId) → contains cmp s (row q) ≡ true → IsLeBy cmp c (row q)
      least q e = subst (λ ks. IfSome (slice_get ks 0) (λ k. IsLeBy cmp k (row q))) steps (h.2 (row q) (in_range q) e)

      pub first_row : c ≡ row (id_of c) → IsFirstRow cmp row s (Some (id_of c))
      first_row same = (
        sym (ap (contains cmp s) same) ∙ inside.1,
        λ q t. not_above (id_of c) q (sym (ap is_gt (by_ids (id_of c) q)) ∙ sym (ap (λ x. is_gt (cmp x (row q))) same) ∙ least q t),
      )

      pub other_row : (c ≡ row (id_of c) → ⊥) → IsFirstRow cmp row s None
      other_row not_one q =
          elim (bool_cases (contains cmp s (row q))) as (λ _. contains cmp s (row q) ≡ false) [
            | inl t ↦ absurd (not_one (between root_id q c inside.0.0 (least q t)))
            | inr f ↦ f
          ]

    pub no_row : r ≡ [] → IsFirstRow cmp row s None
    no_row e q = h.5 e (row q) (in_range q)

  -- ---- all

  module _ (test : K → Bool) (told : (c : K) → test c ≡ true → c ≡ row (id_of c)) (passes : (c : K) → c ≡ row (id_of c) → test c ≡ true) where
    abbrev from_least : K → Bool
    from_least c = range_contains cmp (Included (row root_id)) Unbounded c

    from_is : (c : K) → from_least c ≡ is_le (cmp (row root_id) c)
    from_is c = true_and (is_le (cmp (row root_id) c))

    row_from : (c : K) → test c ≡ true → from_least c ≡ true
    row_from c t = from_is c ∙ gt_le (cmp (row root_id) c) (ap (λ x. is_gt (cmp (row root_id) x)) (told c t) ∙ from_root (id_of c))

    -- behind one that is past them there are none
    past : (c d : K) → from_least c ≡ true → test c ≡ false → cmp c d ≡ Less → test d ≡ false
    past c d f n l =
        elim (bool_cases (test d)) as (λ _. test d ≡ false) [
          | inl t ↦
              let below : is_gt (cmp (row root_id) c) ≡ false = le_gt (cmp (row root_id) c) (sym (from_is c) ∙ f) in
              let above : is_gt (cmp c (row (id_of d))) ≡ false = ap (λ x. is_gt (cmp c x)) (sym (told d t)) ∙ le_less (cmp c d) l in
              let no : true ≡ false = sym (passes c (between root_id (id_of d) c below above)) ∙ n in
              cc
          | inr k ↦ k
        ]

    pub leading_are : (cs : List K) → IsStrictlySortedBy cmp cs → leading test (filter from_least cs) ≡ filter test cs
    unfolding IsStrictlySortedBy
    leading_are [] h = refl
    leading_are (c ∷ cs) h =
        let rest = leading_are cs h.1 in
        elim (bool_cases (test c)) as (λ _. leading test (filter from_least (c ∷ cs)) ≡ filter test (c ∷ cs)) [
          | inl t ↦ (let f = row_from c t in rw (f, t) (ap (λ xs. c ∷ xs) rest))
          | inr n ↦
              elim (bool_cases (from_least c)) as (λ _. leading test (filter from_least (c ∷ cs)) ≡ filter test (c ∷ cs)) [
                | inl f ↦ (let none = none_passes test cs (all_keys (λ d. cmp c d ≡ Less) (λ d. test d ≡ false) cs (λ d l. past c d f n l) h.0) in rw (f, n, none) refl)
                | inr g ↦ rw (g, n) rest
              ]
        ]
