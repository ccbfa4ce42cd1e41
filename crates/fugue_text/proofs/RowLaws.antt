-- Rows by rising ids: what is found in two parts of them, and a row more.
use Rattle.std.specs.Prelude.{◌≡◌, true, false, cond, ◌&&◌, Some, None, List, [], ◌∷◌, ◌++◌, map, refl}
use Rattle.std.proofs.Common.{sym, ◌∙◌, ap, subst, inl, inr}
use Rattle.std.specs.List.{AllByRecursion}
use Rattle.std.specs.Option.{option_map}
use Rattle.std.specs.Ordering.{ordering_reverse, is_lt}
use Rattle.std.specs.FinMap.{find, put, is_sorted}
use Rattle.std.specs.FinMap.Entries.{by_order, below_all}
use Rattle.std.specs.declared.cmp.Ordering.TheVariants.{Less, Equal, Greater}
use Rattle.op_ids.specs.declared.OpId.{OpId}
use Rattle.op_ids.specs.Order.{id_cmp, id_lt}
use Rattle.op_ids.proofs.OrderLaws.{id_cmp_total, less_from_is_lt, lt_trans}
use Rattle.walk_laws.proofs.Walks.{key_eq, key_cases, lt_back, both}

module _ {X : Type 0} where
  abbrev pub AllBefore : List (OpId × X) → OpId → Type 0
  AllBefore xs id = AllByRecursion (λ e. id_lt e.0 id ≡ true) xs

  pub below_found : (i id : OpId) (y : X) (ys : List (OpId × X)) → below_all id_cmp i ys ≡ true → find id_cmp id ys ≡ Some y → id_lt i id ≡ true
  below_found i id y [] h f = cc
  below_found i id y (e ∷ ys) h f =
      let k = both _ _ h in
      elim (key_cases id e.0) as (λ _. id_lt i id ≡ true) [
        | inl s ↦ ap (id_lt i) s ∙ k.0
        | inr ne ↦ (let f' : find id_cmp id ys ≡ Some y = rw ne at f in below_found i id y ys k.1 f')
      ]

  -- what is found behind rows comes after them
  pub all_before : (id : OpId) (y : X) (xs ys : List (OpId × X)) → is_sorted id_cmp (xs ++ ys) ≡ true → find id_cmp id ys ≡ Some y → AllBefore xs id
  all_before id y [] ys h f = tt
  all_before id y (x ∷ xs) ys h f =
      let k = both _ _ h in
      (below_both x.0 xs k.0, all_before id y xs ys k.1 f)
    where
      below_both : (i : OpId) (zs : List (OpId × X)) → below_all id_cmp i (zs ++ ys) ≡ true → id_lt i id ≡ true
      below_both i [] g = below_found i id y ys g f
      below_both i (z ∷ zs) g = below_both i zs (both _ _ g).1

  pub none_before : (xs : List (OpId × X)) (id : OpId) → AllBefore xs id → find id_cmp id xs ≡ None
  none_before [] id h = refl
  none_before (x ∷ xs) id h = rw (lt_back x.0 id h.0) (none_before xs id h.1)

  pub sorted_behind : (xs ys : List (OpId × X)) → is_sorted id_cmp (xs ++ ys) ≡ true → is_sorted id_cmp ys ≡ true
  sorted_behind [] ys h = h
  sorted_behind (x ∷ xs) ys h = sorted_behind xs ys (both _ _ h).1

  pub found_behind : (id : OpId) (xs ys : List (OpId × X)) → find id_cmp id xs ≡ None → find id_cmp id (xs ++ ys) ≡ find id_cmp id ys
  found_behind id [] ys h = refl
  found_behind id (x ∷ xs) ys h =
      elim (key_eq id x.0) as (λ b. cond b (Some x.1) (find id_cmp id xs) ≡ None → cond b (Some x.1) (find id_cmp id (xs ++ ys)) ≡ find id_cmp id ys) [
        | true ↦ λ k. cc
        | false ↦ λ k. found_behind id xs ys k
      ] h

  pub found_front : (id : OpId) (x : X) (xs ys : List (OpId × X)) → find id_cmp id xs ≡ Some x → find id_cmp id (xs ++ ys) ≡ Some x
  found_front id x [] ys h = cc
  found_front id x (e ∷ xs) ys h =
      elim (key_eq id e.0) as (λ b. cond b (Some e.1) (find id_cmp id xs) ≡ Some x → cond b (Some e.1) (find id_cmp id (xs ++ ys)) ≡ Some x) [
        | true ↦ λ k. k
        | false ↦ λ k. found_front id x xs ys k
      ] h

  -- where two parts have no row with this id
  pub none_in_front : (id : OpId) (xs ys : List (OpId × X)) → find id_cmp id (xs ++ ys) ≡ None → find id_cmp id xs ≡ None
  none_in_front id [] ys h = refl
  none_in_front id (e ∷ xs) ys h =
      elim (key_eq id e.0) as (λ b. cond b (Some e.1) (find id_cmp id (xs ++ ys)) ≡ None → cond b (Some e.1) (find id_cmp id xs) ≡ None) [
        | true ↦ λ k. k
        | false ↦ λ k. none_in_front id xs ys k
      ] h

  -- what is found before rows comes before them
  pub above_front : (q : OpId) (y : X) (xs ys : List (OpId × X)) → is_sorted id_cmp (xs ++ ys) ≡ true → find id_cmp q xs ≡ Some y → below_all id_cmp q ys ≡ true
  above_front q y [] ys h f = cc
  above_front q y (x ∷ xs) ys h f =
      let k = both _ _ h in
      elim (key_cases q x.0) as (λ _. below_all id_cmp q ys ≡ true) [
        | inl s ↦ subst (λ i. below_all id_cmp i ys ≡ true) (sym s) (below_behind x.0 xs k.0)
        | inr ne ↦ (let f' : find id_cmp q xs ≡ Some y = rw ne at f in above_front q y xs ys k.1 f')
      ]
    where
      below_behind : (i : OpId) (zs : List (OpId × X)) → below_all id_cmp i (zs ++ ys) ≡ true → below_all id_cmp i ys ≡ true
      below_behind i [] g = g
      below_behind i (z ∷ zs) g = below_behind i zs (both _ _ g).1

  pub before_trans : (a b : OpId) (xs : List (OpId × X)) → AllBefore xs a → id_lt a b ≡ true → AllBefore xs b
  before_trans a b [] h l = tt
  before_trans a b (x ∷ xs) h l = (lt_trans x.0 a b h.0 l, before_trans a b xs h.1 l)

  -- ---- a row more

  pub put_behind : (xs ys : List (OpId × X)) (id : OpId) (x : X) → AllBefore xs id → put id_cmp id x (xs ++ ys) ≡ xs ++ put id_cmp id x ys
  put_behind [] ys id x h = refl
  put_behind (e ∷ xs) ys id x h =
      ap (λ o. by_order o ((id, x) ∷ e ∷ (xs ++ ys)) ((e.0, x) ∷ (xs ++ ys)) (e ∷ put id_cmp id x (xs ++ ys))) (id_cmp_total.antisymm id e.0 ∙ ap ordering_reverse (less_from_is_lt (id_cmp e.0 id) h.0))
      ∙ ap (λ rows. e ∷ rows) (put_behind xs ys id x h.1)

  pub put_front : (ys : List (OpId × X)) (id : OpId) (x : X) → below_all id_cmp id ys ≡ true → put id_cmp id x ys ≡ (id, x) ∷ ys
  put_front [] id x h = refl
  put_front (e ∷ ys) id x h =
      ap (λ o. by_order o ((id, x) ∷ e ∷ ys) ((e.0, x) ∷ ys) (e ∷ put id_cmp id x ys)) (less_from_is_lt (id_cmp id e.0) (both _ _ h).0)

module _ {X Y : Type 0} (f : X → Y) where
  abbrev pub mapped : List (OpId × X) → List (OpId × Y)
  mapped es = map (λ e. (e.0, f e.1)) es

  pub find-mapped : (q : OpId) (es : List (OpId × X)) → find id_cmp q (mapped es) ≡ option_map f (find id_cmp q es)
  find-mapped q [] = refl
  find-mapped q (e ∷ es) = elim (key_eq q e.0) as (λ b. cond b (Some (f e.1)) (find id_cmp q (mapped es)) ≡ option_map f (cond b (Some e.1) (find id_cmp q es))) [ true ↦ refl | false ↦ find-mapped q es ]

  pub put-mapped : (id : OpId) (x : X) (es : List (OpId × X)) → mapped (put id_cmp id x es) ≡ put id_cmp id (f x) (mapped es)
  put-mapped id x [] = refl
  put-mapped id x (e ∷ es) =
      elim (id_cmp id e.0)
      as (λ o. mapped (by_order o ((id, x) ∷ e ∷ es) ((e.0, x) ∷ es) (e ∷ put id_cmp id x es)) ≡ by_order o ((id, f x) ∷ mapped (e ∷ es)) ((e.0, f x) ∷ mapped es) ((e.0, f e.1) ∷ put id_cmp id (f x) (mapped es))) [
        | Less ↦ refl
        | Equal ↦ refl
        | Greater ↦ ap (λ fs. (e.0, f e.1) ∷ fs) (put-mapped id x es)
      ]

  below-mapped : (i : OpId) (es : List (OpId × X)) → below_all id_cmp i (mapped es) ≡ below_all id_cmp i es
  below-mapped i [] = refl
  below-mapped i (e ∷ es) = ap (λ b. is_lt (id_cmp i e.0) && b) (below-mapped i es)

  pub sorted-mapped : (es : List (OpId × X)) → is_sorted id_cmp (mapped es) ≡ is_sorted id_cmp es
  sorted-mapped [] = refl
  sorted-mapped (e ∷ es) = λ i. below-mapped e.0 es i && sorted-mapped es i
