-- Moves in the order of their ids.
use Rattle.std.specs.Prelude.{◌≡◌, Bool, true, false, cond, ◌||◌, ◌&&◌, List, [], ◌∷◌, ◌++◌, refl}
use Rattle.std.proofs.Common.{sym, ◌∙◌, ap, subst, ⊎_elim, append-nil}
use Rattle.std.proofs.lemmas.List.Sorted.{IsPermutation-refl, IsPermutation-cons, IsPermutation-trans, IsPermutation-sym, IsPermutation-middle, IsPermutation-append_left, list_any-IsPermutation}
use Rattle.std.specs.List.{AllByRecursion, list_any}
use Rattle.std.specs.List.Sorted.{IsPermutation}
use Rattle.op_ids.specs.Order.{id_eq, id_lt}
use Rattle.op_ids.proofs.OrderLaws.{id_eq-exact, id_eq-itself, lt_not_back, lt_apart, lt_trans}
use Rattle.model.specs.Change.{placed}
use Rattle.model_laws.proofs.ListLaws.{filter_all, filter_none}
use Rattle.model_laws.proofs.TreeLaws.{or_cases}
use Rattle.tree_log.specs.declared.moves.TreeMove.{TreeMove}
use Rattle.tree_log.specs.Moves.{move_before, Rises, inserted, IsFresh, InsertionSorts, OneOrder}
use Rattle.tree_log.specs.Merge.{put_in, merged}
use Rattle.tree_log.proofs.LogLaws.{lt_other, rises_put, fresh_put, rises_merged, true_false}

-- ---- moves placed are moves merged

none_before : (x : TreeMove) (ts : List TreeMove) → AllByRecursion (λ u. move_before x u ≡ true) ts → AllByRecursion (λ u. move_before u x ≡ false) ts
none_before x [] h = tt
none_before x (t ∷ ts) h = (lt_not_back x.id t.id h.0, none_before x ts h.1)

all_later : (x t : TreeMove) (ts : List TreeMove) → move_before x t ≡ true → AllByRecursion (λ u. move_before t u ≡ true) ts → AllByRecursion (λ u. move_before x u ≡ true) ts
all_later x t [] l h = tt
all_later x t (u ∷ ts) l h = (lt_trans x.id t.id u.id l h.0, all_later x t ts l h.1)

pub placed_put : (x : TreeMove) (ts : List TreeMove) → Rises ts → IsFresh ts x.id → placed move_before x ts ≡ put_in x ts
placed_put x [] r f = refl
placed_put x (t ∷ ts) r f =
    elim (id_lt t.id x.id) as (λ b. id_lt t.id x.id ≡ b → placed move_before x (t ∷ ts) ≡ cond b (t ∷ put_in x ts) (x ∷ t ∷ ts)) [
      | true ↦ λ e. let n = lt_not_back t.id x.id e in rw (e, n) (ap (λ us. t ∷ us) (placed_put x ts r.1 f.1))
      | false ↦ λ e.
          let l = lt_other t.id x.id e f.0 in
          let later = all_later x t ts l r.0 in
          rw (e, l, filter_none (λ u. move_before u x) ts (none_before x ts later), filter_all (λ u. move_before x u) ts later) refl
    ] refl

pub inserted_merged : (ts xs : List TreeMove) → Rises ts → Rises xs → AllByRecursion (λ x. IsFresh ts x.id) xs → inserted ts xs ≡ merged ts xs
inserted_merged ts [] r s f = refl
inserted_merged ts (x ∷ xs) r s f =
    ap (λ us. inserted us xs) (placed_put x ts r f.0) ∙ inserted_merged (put_in x ts) xs (rises_put ts x r f.0) s.1 (fresh_put ts xs x s.0 f.1)

put_permutes : (x : TreeMove) (ts : List TreeMove) → IsPermutation (x ∷ ts) (put_in x ts)
put_permutes x [] = IsPermutation-refl (x ∷ [])
put_permutes x (t ∷ ts) =
    elim (id_lt t.id x.id) as (λ b. IsPermutation (x ∷ t ∷ ts) (cond b (t ∷ put_in x ts) (x ∷ t ∷ ts))) [
      | true ↦
          IsPermutation-trans (x ∷ t ∷ ts) (t ∷ x ∷ ts) (t ∷ put_in x ts) (IsPermutation-sym (t ∷ x ∷ ts) (x ∷ t ∷ ts) (IsPermutation-middle (t ∷ []) x ts)) (IsPermutation-cons t (x ∷ ts) (put_in x ts) (put_permutes x ts))
      | false ↦ IsPermutation-refl (x ∷ t ∷ ts)
    ]

merged_permutes : (ts xs : List TreeMove) → IsPermutation (ts ++ xs) (merged ts xs)
merged_permutes ts [] = subst (λ us. IsPermutation us ts) (sym (append-nil ts)) (IsPermutation-refl ts)
merged_permutes ts (x ∷ xs) =
    IsPermutation-trans (ts ++ x ∷ xs) ((x ∷ ts) ++ xs) (merged (put_in x ts) xs) (IsPermutation-middle ts x xs)
    (IsPermutation-trans ((x ∷ ts) ++ xs) (put_in x ts ++ xs) (merged (put_in x ts) xs) (IsPermutation-append_left xs (x ∷ ts) (put_in x ts) (put_permutes x ts)) (merged_permutes (put_in x ts) xs))

pub insertion_sorts : InsertionSorts
insertion_sorts ts xs r s f =
    let e = sym (inserted_merged ts xs r s f) in
    record {
      rises = subst Rises e (rises_merged ts xs r s f);
      all = subst (IsPermutation (ts ++ xs)) e (merged_permutes ts xs);
    }

-- ---- one order

abbrev same_move : TreeMove → TreeMove → Bool
same_move x t = id_eq x.id t.id && (id_eq x.child t.child && id_eq x.parent t.parent)

abbrev is_in : TreeMove → List TreeMove → Bool
is_in x ts = list_any (same_move x) ts

same-itself : (t : TreeMove) → same_move t t ≡ true
same-itself t = rw (id_eq-itself t.id, id_eq-itself t.child, id_eq-itself t.parent) refl

and_cases : (a b : Bool) → (a && b) ≡ true → (a ≡ true) × (b ≡ true)
and_cases true b e = (refl, e)
and_cases false b e = let k : false ≡ true = e in cc

same-exact : (x t : TreeMove) → same_move x t ≡ true → x ≡ t
same-exact x t e =
    let one = and_cases _ _ e in
    let two = and_cases _ _ one.1 in
    let i = id_eq-exact x.id t.id one.0 in
    let c = id_eq-exact x.child t.child two.0 in
    let p = id_eq-exact x.parent t.parent two.1 in
    λ k. record { id = i k; child = c k; parent = p k }

in_later : (t u : TreeMove) (us : List TreeMove) → AllByRecursion (λ v. move_before u v ≡ true) us → is_in t us ≡ true → move_before u t ≡ true
in_later t u [] h e = let k : false ≡ true = e in cc
in_later t u (v ∷ us) h e = ⊎_elim (λ s. ap (move_before u) (same-exact t v s) ∙ h.0) (λ k. in_later t u us h.1 k) (or_cases (same_move t v) (is_in t us) e)

not_in : (t : TreeMove) (ts : List TreeMove) → AllByRecursion (λ v. move_before t v ≡ true) ts → is_in t ts ≡ false
not_in t [] h = refl
not_in t (v ∷ ts) h = rw (lt_apart t.id v.id h.0) (not_in t ts h.1)

abbrev SameMoves : List TreeMove → List TreeMove → Type 0
SameMoves ts us = (x : TreeMove) → is_in x ts ≡ is_in x us

firsts : (t u : TreeMove) (ts us : List TreeMove) → Rises (t ∷ ts) → Rises (u ∷ us) → SameMoves (t ∷ ts) (u ∷ us) → t ≡ u
firsts t u ts us r s h =
    let there : is_in t (u ∷ us) ≡ true = sym (h t) ∙ rw (same-itself t) refl in
    let back : is_in u (t ∷ ts) ≡ true = h u ∙ rw (same-itself u) refl in
    ⊎_elim
    (λ e. same-exact t u e)
    (λ e. ⊎_elim
    (λ k. sym (same-exact u t k))
    (λ k. true_false (move_before t u) (in_later u t ts r.0 k) (lt_not_back u.id t.id (in_later t u us s.0 e)))
    (or_cases (same_move u t) (is_in u ts) back))
    (or_cases (same_move t u) (is_in t us) there)

or_right : (a b c : Bool) → a ≡ false → (a || b) ≡ (a || c) → b ≡ c
or_right a b c e h = rw e at h

rests : (t : TreeMove) (ts us : List TreeMove) → Rises (t ∷ ts) → Rises (t ∷ us) → SameMoves (t ∷ ts) (t ∷ us) → SameMoves ts us
rests t ts us r s h x =
    elim (same_move x t) as (λ b. same_move x t ≡ b → is_in x ts ≡ is_in x us) [
      | true ↦ λ e. let k = sym (same-exact x t e) in subst (λ y. is_in y ts ≡ is_in y us) k (not_in t ts r.0 ∙ sym (not_in t us s.0))
      | false ↦ λ e. or_right (same_move x t) (is_in x ts) (is_in x us) e (h x)
    ] refl

same_rising : (ts us : List TreeMove) → Rises ts → Rises us → SameMoves ts us → ts ≡ us
same_rising [] [] r s h = refl
same_rising [] (u ∷ us) r s h = let e : false ≡ true = h u ∙ rw (same-itself u) refl in cc
same_rising (t ∷ ts) [] r s h = let e : false ≡ true = sym (h t) ∙ rw (same-itself t) refl in cc
same_rising (t ∷ ts) (u ∷ us) r s h =
    let e = firsts t u ts us r s h in
    let s' : Rises (t ∷ us) = subst (λ v. Rises (v ∷ us)) (sym e) s in
    let h' : SameMoves (t ∷ ts) (t ∷ us) = subst (λ v. SameMoves (t ∷ ts) (v ∷ us)) (sym e) h in
    ap (λ vs. t ∷ vs) (same_rising ts us r.1 s.1 (rests t ts us r s' h')) ∙ ap (λ v. v ∷ us) e

pub one_order : OneOrder
one_order ts us r s p = same_rising ts us r s (λ x. list_any-IsPermutation (same_move x) ts us p)
