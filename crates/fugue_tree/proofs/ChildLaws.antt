-- The children of a row or the head, as a range of the children by what they hang on.
use Rattle.std.specs.Prelude.{◌≡◌, Bool, true, false, Some, None, List, [], ◌∷◌, map, filter, refl, ◌⊎◌}
use Rattle.std.proofs.Common.{sym, ◌∙◌, ap, inl, inr}
use Rattle.std.specs.List.Sorted.{IsStrictlySortedBy}
use Rattle.std.specs.Ordering.{bool_cmp, ordering_then, is_gt, is_eq}
use Rattle.std.specs.Cmp.{tied_itself}
use Rattle.std.specs.declared.cmp.Ordering.{Ordering}
use Rattle.std.specs.declared.cmp.Ordering.TheVariants.{Less, Equal, Greater}
use Rattle.std.specs.declared.ops.Bound.TheVariants.{Included, Unbounded}
use Rattle.std.specs.BTreeSet.{BTreeSet, IsKeyRangeOf}
use Rattle.std.specs.BTreeMap.Range.{range_contains}
use Rattle.op_ids.specs.declared.OpId.{OpId}
use Rattle.op_ids.specs.declared.Side.{Side}
use Rattle.op_ids.specs.declared.Side.TheVariants.{Left, Right}
use Rattle.op_ids.specs.Order.{id_cmp, root_id}
use Rattle.op_ids.proofs.OrderLaws.{id_cmp_total, id_cmp_exact, equal_from_is_eq}
use Rattle.fugue_tree.specs.declared.children.Child.{Child}
use Rattle.fugue_tree.specs.Tree.{child_cmp, child_eq, right_side, at, is_child_of, IsFirstAt}
use Rattle.fugue_tree.proofs.RangeLaws.{bool_cases, first_le, both_le}
use Rattle.fugue_tree.proofs.RangeLaws as range

pub sides_same : (a b : Side) → right_side a ≡ right_side b → a ≡ b
sides_same Left Left e = refl
sides_same Right Right e = refl
sides_same Left Right e = cc
sides_same Right Left e = cc

bool_tied : (a : Bool) → bool_cmp a a ≡ Equal
bool_tied true = refl
bool_tied false = refl

-- among the rows of one place the ids decide
pub one_place : (on : OpId) (side : Side) (i j : OpId) → child_cmp (at on side i) (at on side j) ≡ id_cmp i j
one_place on side i j = ap (λ r. ordering_then r (ordering_then (bool_cmp (right_side side) (right_side side)) (id_cmp i j))) (tied_itself id_cmp_total on) ∙ ap (λ r. ordering_then r (id_cmp i j)) (bool_tied (right_side side))

bools_le : (a b : Bool) → is_gt (bool_cmp a b) ≡ false → is_gt (bool_cmp b a) ≡ false → a ≡ b
bools_le true true h k = refl
bools_le false false h k = refl
bools_le true false h k = cc
bools_le false true h k = cc

-- what stands between two rows of one place is of that place
pub between : (on : OpId) (side : Side) (i j : OpId) (c : Child) → is_gt (child_cmp (at on side i) c) ≡ false → is_gt (child_cmp c (at on side j)) ≡ false → (c.anchor ≡ on) × (c.is_right ≡ right_side side)
between on side i j c h k =
    let same : on ≡ c.anchor = both_le on c.anchor (first_le (id_cmp on c.anchor) (ordering_then (bool_cmp (right_side side) c.is_right) (id_cmp i c.id)) h) (first_le (id_cmp c.anchor on) (ordering_then (bool_cmp c.is_right (right_side side)) (id_cmp c.id j)) k) in
    let h' : is_gt (ordering_then (bool_cmp (right_side side) c.is_right) (id_cmp i c.id)) ≡ false = sym (ap (λ r. is_gt (ordering_then r (ordering_then (bool_cmp (right_side side) c.is_right) (id_cmp i c.id)))) (ap (λ x. id_cmp x c.anchor) same ∙ tied_itself id_cmp_total c.anchor)) ∙ h in
    let k' : is_gt (ordering_then (bool_cmp c.is_right (right_side side)) (id_cmp c.id j)) ≡ false = sym (ap (λ r. is_gt (ordering_then r (ordering_then (bool_cmp c.is_right (right_side side)) (id_cmp c.id j)))) (ap (id_cmp c.anchor) same ∙ tied_itself id_cmp_total c.anchor)) ∙ k in
    (sym same, bools_le c.is_right (right_side side) (first_le (bool_cmp c.is_right (right_side side)) (id_cmp c.id j) k') (first_le (bool_cmp (right_side side) c.is_right) (id_cmp i c.id) h'))

-- ---- what hangs there

then_parts : (r s : Ordering) → is_eq (ordering_then r s) ≡ true → (r ≡ Equal) × (is_eq s ≡ true)
then_parts Less s e = cc
then_parts Equal s e = (refl, e)
then_parts Greater s e = cc

bools_same : (a b : Bool) → bool_cmp a b ≡ Equal → a ≡ b
bools_same true true e = refl
bools_same false false e = refl
bools_same true false e = cc
bools_same false true e = cc

pub child_same : (a b : Child) → child_eq a b ≡ true → a ≡ b
child_same a b e =
    let one = then_parts (id_cmp a.anchor b.anchor) (ordering_then (bool_cmp a.is_right b.is_right) (id_cmp a.id b.id)) e in
    let two = then_parts (bool_cmp a.is_right b.is_right) (id_cmp a.id b.id) one.1 in
    let anchors : a.anchor ≡ b.anchor = id_cmp_exact a.anchor b.anchor one.0 in
    let rights : a.is_right ≡ b.is_right = bools_same a.is_right b.is_right two.0 in
    let names : a.id ≡ b.id = id_cmp_exact a.id b.id (equal_from_is_eq (id_cmp a.id b.id) two.1) in
    λ i. record { anchor = anchors i; is_right = rights i; id = names i }

-- a child that hangs there is told by its id
pub child_is : (on : OpId) (side : Side) (c : Child) → is_child_of on side c ≡ true → c ≡ at on side c.id
child_is on side c e = sym (child_same (at on side c.id) c e)

pub is_child_of-at : (on : OpId) (side : Side) (id : OpId) → is_child_of on side (at on side id) ≡ true
is_child_of-at on side id = ap is_eq (one_place on side id id ∙ tied_itself id_cmp_total id)

pub is_child_by : (on : OpId) (side : Side) (c : Child) → c.anchor ≡ on → c.is_right ≡ right_side side → is_child_of on side c ≡ true
is_child_by on side c e f =
    let same : c ≡ at on side c.id = λ i. record { anchor = e i; is_right = f i; id = c.id } in
    ap (is_child_of on side) same ∙ is_child_of-at on side c.id

no_child_by : (on : OpId) (side : Side) (c : Child) → (c.anchor ≡ on → c.is_right ≡ right_side side → ⊥) → is_child_of on side c ≡ false
no_child_by on side c h =
    elim (bool_cases (is_child_of on side c)) as (λ _. is_child_of on side c ≡ false) [
      | inl t ↦ (let same = child_is on side c t in absurd (h (ap (λ (x : Child). x.anchor) same) (ap (λ (x : Child). x.is_right) same)))
      | inr f ↦ f
    ]

-- the test of the code
pub hangs_as : (b : Bool) (on : OpId) (side : Side) (c : Child) → (b ≡ true → (c.anchor ≡ on) × (c.is_right ≡ right_side side)) → ((c.anchor ≡ on) × (c.is_right ≡ right_side side) → b ≡ true) → is_child_of on side c ≡ b
hangs_as true on side c h k = (let p = h refl in is_child_by on side c p.0 p.1)
hangs_as false on side c h k = no_child_by on side c (λ e f. let no : false ≡ true = k (e, f) in absurd (let d : false ≡ true = no in cc))

-- ---- the children of a place as a range

in_place : (on : OpId) (side : Side) (i j : OpId) (c : Child) → is_gt (child_cmp (at on side i) c) ≡ false → is_gt (child_cmp c (at on side j)) ≡ false → c ≡ at on side c.id
in_place on side i j c h k = let b = between on side i j c h k in λ p. record { anchor = b.0 p; is_right = b.1 p; id = c.id }

module _ (s : BTreeSet Child) (r : List Child) (on : OpId) (side : Side) (h : IsKeyRangeOf child_cmp (Included (at on side root_id)) Unbounded s r) where
  module _ (c : Child) (rest : List Child) (steps : r ≡ c ∷ rest) where
    pub first_found : c.anchor ≡ on → c.is_right ≡ right_side side → IsFirstAt s on side (Some c.id)
    first_found e f = range.first_row child_cmp (at on side) (λ (x : Child). x.id) (one_place on side) (in_place on side) s r h c rest steps (λ p. record { anchor = e p; is_right = f p; id = c.id })

    pub first_other : (c.anchor ≡ on → c.is_right ≡ right_side side → ⊥) → IsFirstAt s on side None
    first_other e = range.other_row child_cmp (at on side) (λ (x : Child). x.id) (one_place on side) (in_place on side) s r h c rest steps (λ same. e (ap (λ (x : Child). x.anchor) same) (ap (λ (x : Child). x.is_right) same))

  pub first_none : r ≡ [] → IsFirstAt s on side None
  first_none e = range.no_row child_cmp (at on side) (λ (x : Child). x.id) (one_place on side) (in_place on side) s r h e

-- ---- all children

-- those from the front on that hang there
abbrev pub leading : OpId → Side → List Child → List Child
leading on side cs = range.leading (is_child_of on side) cs

abbrev pub ids : List Child → List OpId
ids cs = map (λ c. c.id) cs

pub leading_are : (on : OpId) (side : Side) (cs : List Child) → IsStrictlySortedBy child_cmp cs → leading on side (filter (λ c. range_contains child_cmp (Included (at on side root_id)) Unbounded c) cs) ≡ filter (is_child_of on side) cs
leading_are on side cs h =
    range.leading_are child_cmp (at on side) (λ (x : Child). x.id) (one_place on side) (in_place on side) (is_child_of on side) (child_is on side)
    (λ c same. ap (is_child_of on side) same ∙ is_child_of-at on side c.id) cs h
