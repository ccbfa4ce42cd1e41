-- The children of one owner among those of many.
use Rattle.std.specs.Prelude.{◌≡◌, Bool, true, false, cond, ◌&&◌, ◌||◌, Option, Some, None, List, [], ◌∷◌, map, filter, refl}
use Rattle.std.proofs.Common.{sym, ◌∙◌, ap, inl, inr}
use Rattle.std.specs.List.{AllByRecursion, list_any}
use Rattle.std.specs.List.Sorted.{IsStrictlySortedBy}
use Rattle.std.specs.Ordering.{ordering_then, is_gt, is_eq, eq_by_cmp}
use Rattle.std.specs.Cmp.{tied_itself}
use Rattle.std.specs.declared.cmp.Ordering.TheVariants.{Less, Equal, Greater}
use Rattle.std.specs.declared.ops.Bound.TheVariants.{Included, Unbounded}
use Rattle.std.specs.BTreeSet.{BTreeSet, contains, IsKeyRangeOf}
use Rattle.std.specs.BTreeMap.Range.{range_contains}
use Rattle.op_ids.specs.declared.OpId.{OpId}
use Rattle.op_ids.specs.declared.Side.{Side}
use Rattle.op_ids.specs.Order.{id_cmp, root_id}
use Rattle.op_ids.proofs.OrderLaws.{id_cmp_total, id_cmp_exact, equal_from_is_eq}
use Rattle.walk_laws.proofs.Walks.{both}
use Rattle.fugue_tree.specs.declared.children.Child.{Child}
use Rattle.fugue_tree.specs.declared.owned.OwnedChild.{OwnedChild}
use Rattle.fugue_tree.specs.Tree.{IsFirstAt, at, child_cmp, is_child_of, right_side}
use Rattle.fugue_tree.specs.Trees.{children_of, is_of, owned_at, owned_cmp}
use Rattle.fugue_tree.proofs.RangeLaws.{bool_cases, first_le, both_le, leading}
use Rattle.fugue_tree.proofs.RangeLaws as range
use Rattle.fugue_tree.proofs.ChildLaws.{between, child_is, ids, is_child_by, is_child_of-at, one_place}

abbrev pub of : OpId → Child → OwnedChild
of owner c = record { owner = owner; child = c }

abbrev pub own_children : OpId → List OwnedChild → List Child
own_children owner cs = map (λ c. c.child) (filter (is_of owner) cs)

is_of-exact : (owner : OpId) (c : OwnedChild) → is_of owner c ≡ true → owner ≡ c.owner
is_of-exact owner c e = id_cmp_exact owner c.owner (equal_from_is_eq (id_cmp owner c.owner) e)

is_of-itself : (owner : OpId) → eq_by_cmp id_cmp owner owner ≡ true
is_of-itself owner = ap is_eq (tied_itself id_cmp_total owner)

-- ---- what an owner has

module _ (owner : OpId) where
  any_own : (c : Child) (cs : List OwnedChild) → list_any (λ d. is_eq (child_cmp c d)) (own_children owner cs) ≡ list_any (λ d. is_eq (owned_cmp (of owner c) d)) cs
  any_own c [] = refl
  any_own c (d ∷ cs) =
      let rest = any_own c cs in
      elim (id_cmp owner d.owner)
      as (λ r. list_any (λ x. is_eq (child_cmp c x)) (map (λ x. x.child) (cond (is_eq r) (d ∷ filter (is_of owner) cs) (filter (is_of owner) cs)))
      ≡ (is_eq (ordering_then r (child_cmp c d.child)) || list_any (λ x. is_eq (owned_cmp (of owner c) x)) cs)) [
        | Less ↦ rest
        | Equal ↦ ap (λ b. is_eq (child_cmp c d.child) || b) rest
        | Greater ↦ rest
      ]

  pub contains_own : (s : BTreeSet OwnedChild) (c : Child) → contains child_cmp (children_of s owner) c ≡ contains owned_cmp s (of owner c)
  contains_own s c = any_own c s.keys

  above_own : (d : OwnedChild) → owner ≡ d.owner → (cs : List OwnedChild) → AllByRecursion (λ e. owned_cmp d e ≡ Less) cs → AllByRecursion (λ e. child_cmp d.child e ≡ Less) (own_children owner cs)
  above_own d same [] h = tt
  above_own d same (e ∷ cs) h =
      let rest = above_own d same cs h.1 in
      elim (bool_cases (is_of owner e)) as (λ _. AllByRecursion (λ x. child_cmp d.child x ≡ Less) (own_children owner (e ∷ cs))) [
        | inl t ↦
            let owners : id_cmp d.owner e.owner ≡ Equal = (λ p. id_cmp (sym same p) (sym (is_of-exact owner e t) p)) ∙ tied_itself id_cmp_total owner in
            let less : child_cmp d.child e.child ≡ Less = sym (ap (λ r. ordering_then r (child_cmp d.child e.child)) owners) ∙ h.0 in
            rw t (less, rest)
        | inr n ↦ rw n rest
      ]

  pub own_sorted : (cs : List OwnedChild) → IsStrictlySortedBy owned_cmp cs → IsStrictlySortedBy child_cmp (own_children owner cs)
  unfolding IsStrictlySortedBy
  own_sorted [] h = tt
  own_sorted (c ∷ cs) h =
      let rest = own_sorted cs h.1 in
      elim (bool_cases (is_of owner c)) as (λ _. IsStrictlySortedBy child_cmp (own_children owner (c ∷ cs))) [
        | inl t ↦ (let first = above_own c (is_of-exact owner c t) cs h.0 in rw t (first, rest))
        | inr n ↦ rw n rest
      ]

-- ---- what hangs on one side of an anchor

module _ (owner on : OpId) (side : Side) where
  abbrev row : OpId → OwnedChild
  row id = owned_at owner on side id

  abbrev id_of : OwnedChild → OpId
  id_of c = c.child.id

  by_ids : (i j : OpId) → owned_cmp (row i) (row j) ≡ id_cmp i j
  by_ids i j = ap (λ r. ordering_then r (child_cmp (at on side i) (at on side j))) (tied_itself id_cmp_total owner) ∙ one_place on side i j

  row_is : (c : OwnedChild) → owner ≡ c.owner → c.child.anchor ≡ on → c.child.is_right ≡ right_side side → c ≡ row (id_of c)
  row_is c e f g p = record { owner = sym e p; child = record { anchor = f p; is_right = g p; id = c.child.id } }

  in_place : (i j : OpId) (c : OwnedChild) → is_gt (owned_cmp (row i) c) ≡ false → is_gt (owned_cmp c (row j)) ≡ false → c ≡ row (id_of c)
  in_place i j c h k =
      let low = child_cmp (at on side i) c.child in
      let high = child_cmp c.child (at on side j) in
      let same : owner ≡ c.owner = both_le owner c.owner (first_le (id_cmp owner c.owner) low h) (first_le (id_cmp c.owner owner) high k) in
      let h' : is_gt low ≡ false = sym (ap (λ r. is_gt (ordering_then r low)) (ap (λ x. id_cmp x c.owner) same ∙ tied_itself id_cmp_total c.owner)) ∙ h in
      let k' : is_gt high ≡ false = sym (ap (λ r. is_gt (ordering_then r high)) (ap (id_cmp c.owner) same ∙ tied_itself id_cmp_total c.owner)) ∙ k in
      let b = between on side i j c.child h' k' in
      row_is c same b.0 b.1

  -- the test of the code
  abbrev pub hangs_own : OwnedChild → Bool
  hangs_own c = is_of owner c && is_child_of on side c.child

  told : (c : OwnedChild) → hangs_own c ≡ true → c ≡ row (id_of c)
  told c e =
      let t = both (is_of owner c) (is_child_of on side c.child) e in
      let hung = child_is on side c.child t.1 in
      row_is c (is_of-exact owner c t.0) (ap (λ (x : Child). x.anchor) hung) (ap (λ (x : Child). x.is_right) hung)

  passes : (c : OwnedChild) → c ≡ row (id_of c) → hangs_own c ≡ true
  passes c same = ap hangs_own same ∙ (λ p. is_of-itself owner p && is_child_of-at on side c.child.id p)

  abbrev Hangs : OwnedChild → Type 0
  Hangs c = (c.owner ≡ owner) × (c.child.anchor ≡ on) × (c.child.is_right ≡ right_side side)

  hangs_is : (c : OwnedChild) → Hangs c → c ≡ row (id_of c)
  hangs_is c h = row_is c (sym h.0) h.1 h.2

  is_hangs : (c : OwnedChild) → c ≡ row (id_of c) → Hangs c
  is_hangs c same = (ap (λ (x : OwnedChild). x.owner) same, ap (λ (x : OwnedChild). x.child.anchor) same, ap (λ (x : OwnedChild). x.child.is_right) same)

  pub tested : (b : Bool) (c : OwnedChild) → (b ≡ true → Hangs c) → (Hangs c → b ≡ true) → hangs_own c ≡ b
  tested true c h k = passes c (hangs_is c (h refl))
  tested false c h k =
      elim (bool_cases (hangs_own c)) as (λ _. hangs_own c ≡ false) [
        | inl t ↦ (let no : false ≡ true = k (is_hangs c (told c t)) in cc)
        | inr f ↦ f
      ]

  -- ---- the first child

  first_own : (s : BTreeSet OwnedChild) (o : Option OpId) → range.IsFirstRow owned_cmp row s o → IsFirstAt (children_of s owner) on side o
  first_own s None h = λ q. contains_own owner s (at on side q) ∙ h q
  first_own s (Some c) h = (contains_own owner s (at on side c) ∙ h.0, λ q e. h.1 q (sym (contains_own owner s (at on side q)) ∙ e))

  module _ (s : BTreeSet OwnedChild) (r : List OwnedChild) (h : IsKeyRangeOf owned_cmp (Included (row root_id)) Unbounded s r) where
    module _ (c : OwnedChild) (rest : List OwnedChild) (steps : r ≡ c ∷ rest) where
      pub own_found : Hangs c → IsFirstAt (children_of s owner) on side (Some c.child.id)
      own_found t = first_own s (Some c.child.id) (range.first_row owned_cmp row id_of by_ids in_place s r h c rest steps (hangs_is c t))

      pub own_other : (Hangs c → ⊥) → IsFirstAt (children_of s owner) on side None
      own_other other = first_own s None (range.other_row owned_cmp row id_of by_ids in_place s r h c rest steps (λ same. other (is_hangs c same)))

    pub own_none : r ≡ [] → IsFirstAt (children_of s owner) on side None
    own_none e = first_own s None (range.no_row owned_cmp row id_of by_ids in_place s r h e)

  -- ---- all children

  abbrev pub own_ids : List OwnedChild → List OpId
  own_ids cs = map (λ c. c.child.id) cs

  all_own : (cs : List OwnedChild) → own_ids (filter hangs_own cs) ≡ ids (filter (is_child_of on side) (own_children owner cs))
  all_own [] = refl
  all_own (c ∷ cs) =
      let rest = all_own cs in
      elim (is_of owner c)
      as (λ b. own_ids (cond (b && is_child_of on side c.child) (c ∷ filter hangs_own cs) (filter hangs_own cs))
      ≡ ids (filter (is_child_of on side) (map (λ x. x.child) (cond b (c ∷ filter (is_of owner) cs) (filter (is_of owner) cs))))) [
        | true ↦
            elim (is_child_of on side c.child)
            as (λ b. own_ids (cond b (c ∷ filter hangs_own cs) (filter hangs_own cs)) ≡ ids (cond b (c.child ∷ filter (is_child_of on side) (own_children owner cs)) (filter (is_child_of on side) (own_children owner cs)))) [
              | true ↦ ap (λ is. c.child.id ∷ is) rest
              | false ↦ rest
            ]
        | false ↦ rest
      ]

  pub own_leading : (cs : List OwnedChild) → IsStrictlySortedBy owned_cmp cs → own_ids (leading hangs_own (filter (λ c. range_contains owned_cmp (Included (row root_id)) Unbounded c) cs)) ≡ ids (filter (is_child_of on side) (own_children owner cs))
  own_leading cs h = ap own_ids (range.leading_are owned_cmp row id_of by_ids in_place hangs_own told passes cs h) ∙ all_own cs
