-- A tree with one row more, and one from which it was taken back.
use Rattle.std.specs.Prelude.{◌≡◌, ◌≢◌, Bool, true, false, cond, Option, Some, None, is_some, refl, Result, Ok, Err, OnOk, OnErr, []}
use Rattle.std.specs.Result.{is_err}
use Rattle.std.proofs.Common.{sym, ◌∙◌, ap, inl, inr}
use Rattle.std.specs.Ordering.{ordering_then, bool_cmp, is_eq}
use Rattle.std.specs.declared.cmp.Ordering.{Ordering}
use Rattle.std.specs.declared.cmp.Ordering.TheVariants.{Less, Equal, Greater}
use Rattle.std.specs.BTreeSet.{BTreeSet, contains}
use Rattle.op_ids.specs.declared.OpId.{OpId}
use Rattle.op_ids.specs.declared.Side.{Side}
use Rattle.op_ids.specs.Order.{id_cmp, root_id}
use Rattle.model.specs.Operation.{Anchor}
use Rattle.model.specs.Walk.{Rows}
use Rattle.walk_laws.specs.Insertion.{anchor_of, is_row, HangsWell, IsInsertionTree, with_row}
use Rattle.walk_laws.proofs.Walks.{key_eq, key_itself, key_cases, key_equiv}
use Rattle.walk_laws.proofs.InsertionLaws.{tree_with, found_with}
use Rattle.fugue_tree.specs.declared.children.Child.{Child}
use Rattle.fugue_tree.specs.Tree.{at, child_cmp, child_eq, hangs_so, AreChildren, IsKept}

pub from_err : {T E P : Type 0} (r : Result T E) → is_err r ≡ true → OnErr r P → P
from_err (Ok x) e h = cc
from_err (Err y) e h = h

pub from_ok : {T E P : Type 0} (r : Result T E) → is_err r ≡ false → OnOk r P → P
from_ok (Ok x) e h = h
from_ok (Err y) e h = cc

last_eq : (r s t : Ordering) → is_eq t ≡ false → is_eq (ordering_then r (ordering_then s t)) ≡ false
last_eq Less s t e = refl
last_eq Greater s t e = refl
last_eq Equal Less t e = refl
last_eq Equal Greater t e = refl
last_eq Equal Equal t e = e

true_or_not : (b : Bool) → cond b true false ≡ b
true_or_not true = refl
true_or_not false = refl

false_or_not : (b : Bool) → cond b false b ≡ false
false_or_not true = refl
false_or_not false = refl

none_of : {X : Type 0} (o : Option X) → is_some o ≡ false → o ≡ None
none_of None e = refl
none_of (Some x) e = cc

-- rows with other ids are other children
other_child : (on : OpId) (side : Side) (id : OpId) (c : Child) → key_eq c.id id ≡ false → child_eq (at on side id) c ≡ false
other_child on side id c ne = last_eq (id_cmp on c.anchor) (bool_cmp (at on side id).is_right c.is_right) (id_cmp id c.id) (key_equiv.symm id c.id ∙ ne)

pub tree_empty : IsInsertionTree []
tree_empty = record {
  rising = refl;
  head = refl;
  anchors = λ id a e. let no : None ≡ Some a = e in cc;
}

pub kept_empty : (s : BTreeSet Child) → ((c : Child) → contains child_cmp s c ≡ false) → IsKept [] s
kept_empty s none = record { tree = tree_empty; same = none }

abbrev there_at : OpId → Side → Anchor
there_at on side = record { on = on; side = side }

module _ (rows : Rows) (s : BTreeSet Child) (same : AreChildren rows s) (id : OpId) (on : OpId) (side : Side) (fresh : is_row rows id ≡ false) where
  -- no row with the new id is among the children
  not_child : (c : Child) → c.id ≡ id → contains child_cmp s c ≡ false
  not_child c e = same c ∙ ap (λ o. hangs_so o c) (ap (anchor_of rows) e ∙ none_of (anchor_of rows id) fresh)

  module _ (t : BTreeSet Child) (added : (c : Child) → contains child_cmp t c ≡ cond (child_eq (at on side id) c) true (contains child_cmp s c)) where
    pub children_added : AreChildren (with_row rows id (there_at on side)) t
    children_added c =
        elim (key_cases c.id id) as (λ _. contains child_cmp t c ≡ hangs_so (anchor_of (with_row rows id (there_at on side)) c.id) c) [
          | inl e ↦
              (let own : key_eq c.id id ≡ true = ap (λ x. key_eq x id) e ∙ key_itself id in
              let found : anchor_of (with_row rows id (there_at on side)) c.id ≡ Some (there_at on side) = found_with rows id (there_at on side) c.id ∙ rw own refl in
              added c ∙ ap (cond (child_eq (at on side id) c) true) (not_child c e) ∙ true_or_not (child_eq (at on side id) c)
              ∙ ap (λ x. child_eq (at on side x) c) (sym e) ∙ sym (ap (λ o. hangs_so o c) found))
          | inr ne ↦
              (let other = other_child on side id c ne in
              let found : anchor_of (with_row rows id (there_at on side)) c.id ≡ anchor_of rows c.id = found_with rows id (there_at on side) c.id ∙ rw ne refl in
              added c ∙ rw other (same c) ∙ sym (ap (λ o. hangs_so o c) found))
        ]

    pub children_back : (u : BTreeSet Child) → ((c : Child) → contains child_cmp u c ≡ cond (child_eq (at on side id) c) false (contains child_cmp t c)) → AreChildren rows u
    children_back u removed c =
        elim (key_cases c.id id) as (λ _. contains child_cmp u c ≡ hangs_so (anchor_of rows c.id) c) [
          | inl e ↦
              removed c ∙ ap (cond (child_eq (at on side id) c) false) (added c ∙ ap (cond (child_eq (at on side id) c) true) (not_child c e) ∙ true_or_not (child_eq (at on side id) c))
              ∙ false_or_not (child_eq (at on side id) c) ∙ sym (not_child c e) ∙ same c
          | inr ne ↦
              (let other = other_child on side id c ne in
              removed c ∙ rw other (added c ∙ rw other (same c)))
        ]

module _ (rows : Rows) (s : BTreeSet Child) (kept : IsKept rows s) (id : OpId) (on : OpId) (side : Side) (fresh : is_row rows id ≡ false)
    (t : BTreeSet Child) (added : (c : Child) → contains child_cmp t c ≡ cond (child_eq (at on side id) c) true (contains child_cmp s c)) where
  pub kept_added : id ≢ root_id → HangsWell rows id (there_at on side) → IsKept (with_row rows id (there_at on side)) t
  kept_added no_head hangs = record {
    tree = tree_with rows id (there_at on side) kept.tree no_head hangs;
    same = children_added rows s kept.same id on side fresh t added;
  }

  pub kept_back : (u : BTreeSet Child) → ((c : Child) → contains child_cmp u c ≡ cond (child_eq (at on side id) c) false (contains child_cmp t c)) → IsKept rows u
  kept_back u removed = record { tree = kept.tree; same = children_back rows s kept.same id on side fresh t added u removed }
