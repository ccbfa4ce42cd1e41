-- Elements and the positions at which they are.
use Rattle.std.specs.Prelude.{◌≡◌, Bool, true, false, cond, Option, Some, None, is_some, refl, ◌⊎◌, Result, Ok, Err, OnOk, OnErr}
use Rattle.std.specs.Result.{is_err}
use Rattle.std.proofs.Common.{sym, ◌∙◌, ap, subst, inl, inr}
use Rattle.std.specs.Option.{option_map}
use Rattle.std.specs.FinMap.{FinMap, empty, get, insert, get-empty, get-insert}
use Rattle.op_ids.specs.declared.OpId.{OpId}
use Rattle.op_ids.specs.Order.{id_cmp, id_lt}
use Rattle.op_ids.proofs.OrderLaws.{id_cmp_total}
use Rattle.model.specs.Value.{Value}
use Rattle.model.specs.Operation.{Anchor}
use Rattle.model.specs.State.{Element}
use Rattle.model.specs.Walk.{Rows}
use Rattle.model_laws.specs.Arrival.{shifted_late, set_late}
use Rattle.walk_laws.specs.Insertion.{anchor_of, is_row, with_row}
use Rattle.walk_laws.proofs.Walks.{key_eq, key_itself, key_cases}
use Rattle.walk_laws.proofs.InsertionLaws.{found_with}
use Rattle.move_list.specs.Items.{added, dropped_of, edited}
use Rattle.move_list.specs.Kept.{AreAt}
use Rattle.move_list.proofs.ItemLaws.{get-edited}

abbrev pub Elements : Type 0
Elements = FinMap id_cmp Element

pub either : {T E P Q : Type 0} (r : Result T E) → OnOk r P → OnErr r Q → P ⊎ Q
either (Ok x) p q = inl p
either (Err y) p q = inr q

pub from_err : {T E P : Type 0} (r : Result T E) → is_err r ≡ true → OnErr r P → P
from_err (Ok x) e h = cc
from_err (Err y) e h = h

pub from_ok : {T E P : Type 0} (r : Result T E) → is_err r ≡ false → OnOk r P → P
from_ok (Ok x) e h = h
from_ok (Err y) e h = cc

is_row-with : (p : Rows) (id : OpId) (a : Anchor) → is_row (with_row p id a) id ≡ true
is_row-with p id a = ap is_some (found_with p id a id) ∙ (let own = key_itself id in rw own refl)

row_kept : (p : Rows) (id : OpId) (a : Anchor) (q : OpId) → is_row p q ≡ true → is_row (with_row p id a) q ≡ true
row_kept p id a q h = ap is_some (found_with p id a q) ∙ elim (key_eq q id) as (λ b. is_some (cond b (Some a) (anchor_of p q)) ≡ true) [ true ↦ refl | false ↦ h ]

-- an element is where one of before was, or it alone is at a new position
abbrev From : Elements → OpId → OpId → OpId → Element → Type 0
From m k id q e = ((q ≡ k) × (e.position ≡ id)) ⊎ ((d : Element) × (get m q ≡ Some d) × (e.position ≡ d.position))

abbrev Stays : Elements → OpId → Element → Type 0
Stays m q e = (d : Element) × (get m q ≡ Some d) × (e.position ≡ d.position)

not_fresh : {A : Type 0} (p : Rows) (m : Elements) (id q : OpId) (d : Element) → AreAt p m → is_row p id ≡ false → get m q ≡ Some d → d.position ≡ id → A
not_fresh p m id q d h fresh there s = let no : true ≡ false = sym (h.position q d there) ∙ ap (is_row p) s ∙ fresh in absurd (let c : true ≡ false = no in cc)

at_moved : (p : Rows) (m now : Elements) (k id : OpId) (a : Anchor) → AreAt p m → is_row p id ≡ false → ((q : OpId) (e : Element) → get now q ≡ Some e → From m k id q e) → AreAt (with_row p id a) now
at_moved p m now k id a h fresh from = record {
  position = λ q e t.
      elim (from q e t) as (λ _. is_row (with_row p id a) e.position ≡ true) [
        | inl s ↦ ap (is_row (with_row p id a)) s.1 ∙ is_row-with p id a
        | inr d ↦ ap (is_row (with_row p id a)) d.2 ∙ row_kept p id a d.0.position (h.position q d.0 d.1)
      ];
  own_position = λ q r e f t u same.
      elim (from q e t) as (λ _. q ≡ r) [
        | inl s ↦
            elim (from r f u) as (λ _. q ≡ r) [
              | inl z ↦ s.0 ∙ sym z.0
              | inr d ↦ not_fresh p m id r d.0 h fresh d.1 (sym d.2 ∙ sym same ∙ s.1)
            ]
        | inr d ↦
            elim (from r f u) as (λ _. q ≡ r) [
              | inl z ↦ not_fresh p m id q d.0 h fresh d.1 (sym d.2 ∙ same ∙ z.1)
              | inr g ↦ h.own_position q r d.0 g.0 d.1 g.1 (sym d.2 ∙ same ∙ g.2)
            ]
      ];
}

at_kept : (p : Rows) (m now : Elements) → AreAt p m → ((q : OpId) (e : Element) → get now q ≡ Some e → Stays m q e) → AreAt p now
at_kept p m now h stays = record {
  position = λ q e t. let d = stays q e t in ap (is_row p) d.2 ∙ h.position q d.0 d.1;
  own_position = λ q r e f t u same.
      let d = stays q e t in
      let g = stays r f u in
      h.own_position q r d.0 g.0 d.1 g.1 (sym d.2 ∙ same ∙ g.2);
}

-- what stands in a table after an edit
edited_is : (m : Elements) (k : OpId) (f : Element → Element) (q : OpId) (e : Element) → get (edited m k f) q ≡ Some e → (d : Element) × (get m q ≡ Some d) × (((q ≡ k) × (e ≡ f d)) ⊎ (e ≡ d))
edited_is m k f q e t =
    elim (key_cases q k) as (λ _. (d : Element) × (get m q ≡ Some d) × (((q ≡ k) × (e ≡ f d)) ⊎ (e ≡ d))) [
      | inl s ↦
          let own : key_eq q k ≡ true = ap (λ x. key_eq x k) s ∙ key_itself k in
          let now : option_map f (get m q) ≡ Some e = sym (get-edited m k f q ∙ rw own refl) ∙ t in
          elim (get m q) as (λ o. option_map f o ≡ Some e → (d : Element) × (o ≡ Some d) × (((q ≡ k) × (e ≡ f d)) ⊎ (e ≡ d))) [
            | None ↦ λ u. cc
            | Some d ↦ λ u. (d, refl, inl (s, let r : f d ≡ e = cc in sym r))
          ] now
      | inr ne ↦ (e, sym (get-edited m k f q ∙ rw ne refl) ∙ t, inr refl)
    ]

-- ---- what becomes of them

pub at_hung : (p : Rows) (m : Elements) (id : OpId) (a : Anchor) → AreAt p m → is_row p id ≡ false → AreAt (with_row p id a) m
at_hung p m id a h fresh = at_moved p m m id id a h fresh (λ q e t. inr (e, t, refl))

pub at_added : (p : Rows) (m : Elements) (id : OpId) (a : Anchor) (value : Value) → AreAt p m → is_row p id ≡ false → AreAt (with_row p id a) (insert m id (added id value))
at_added p m id a value h fresh =
    at_moved p m (insert m id (added id value)) id id a h fresh (λ q e t.
    elim (key_cases q id) as (λ _. From m id id q e) [
      | inl s ↦
          let own : key_eq q id ≡ true = ap (λ x. key_eq x id) s ∙ key_itself id in
          let now : Some (added id value) ≡ Some e = sym (get-insert id_cmp_total m id (added id value) q ∙ rw own refl) ∙ t in
          let is : added id value ≡ e = cc in
          inl (s, ap (λ (x : Element). x.position) (sym is))
      | inr ne ↦ inr (e, sym (get-insert id_cmp_total m id (added id value) q ∙ rw ne refl) ∙ t, refl)
    ])

shifted_to : (id : OpId) (d : Element) → ((shifted_late id d).position ≡ id) ⊎ ((shifted_late id d).position ≡ d.position)
shifted_to id d = elim (id_lt d.position id) as (λ b. ((cond b (record d { position = id }) d).position ≡ id) ⊎ ((cond b (record d { position = id }) d).position ≡ d.position)) [ true ↦ inl refl | false ↦ inr refl ]

pub at_shifted : (p : Rows) (m : Elements) (k id : OpId) (a : Anchor) → AreAt p m → is_row p id ≡ false → AreAt (with_row p id a) (edited m k (shifted_late id))
at_shifted p m k id a h fresh =
    at_moved p m (edited m k (shifted_late id)) k id a h fresh (λ q e t.
    let d = edited_is m k (shifted_late id) q e t in
    elim d.2 as (λ _. From m k id q e) [
      | inl s ↦
          elim (shifted_to id d.0) as (λ _. From m k id q e) [
            | inl u ↦ inl (s.0, ap (λ (x : Element). x.position) s.1 ∙ u)
            | inr u ↦ inr (d.0, d.1, ap (λ (x : Element). x.position) s.1 ∙ u)
          ]
      | inr s ↦ inr (d.0, d.1, ap (λ (x : Element). x.position) s)
    ])

pub at_edited : (p : Rows) (m : Elements) (k : OpId) (f : Element → Element) → ((d : Element) → (f d).position ≡ d.position) → AreAt p m → AreAt p (edited m k f)
at_edited p m k f keeps h =
    at_kept p m (edited m k f) h (λ q e t.
    let d = edited_is m k f q e t in
    elim d.2 as (λ _. Stays m q e) [
      | inl s ↦ (d.0, d.1, ap (λ (x : Element). x.position) s.1 ∙ keeps d.0)
      | inr s ↦ (d.0, d.1, ap (λ (x : Element). x.position) s)
    ])

pub set_keeps : (id : OpId) (value : Value) (d : Element) → (set_late id value d).position ≡ d.position
set_keeps id value d = elim (id_lt d.writer id) as (λ b. (cond b (record d { writer = id; value = value }) d).position ≡ d.position) [ true ↦ refl | false ↦ refl ]

pub drop_keeps : (d : Element) → (dropped_of d).position ≡ d.position
drop_keeps d = refl

pub at_empty : (p : Rows) → AreAt p empty
at_empty p = record {
  position = λ id e t. let no : None ≡ Some e = sym (get-empty id_cmp id) ∙ t in cc;
  own_position = λ id other e f t u s. let no : None ≡ Some e = sym (get-empty id_cmp id) ∙ t in cc;
}

-- ---- a list after a call on its parts

module _ (p : Rows) (m : Elements) (h : AreAt p m) where
  pub same_rows : (q : Rows) → q ≡ p → AreAt q m
  same_rows q e = subst (λ (r : Rows). AreAt r m) (sym e) h

  pub hung_rows : (q : Rows) (id : OpId) (a : Anchor) → is_row p id ≡ false → q ≡ with_row p id a → AreAt q m
  hung_rows q id a fresh e = subst (λ (r : Rows). AreAt r m) (sym e) (at_hung p m id a h fresh)

  pub added_rows : (q : Rows) (n : Elements) (id : OpId) (a : Anchor) (value : Value) → is_row p id ≡ false → q ≡ with_row p id a → n ≡ insert m id (added id value) → AreAt q n
  added_rows q n id a value fresh e f = subst (λ (r : Rows). AreAt r n) (sym e) (subst (λ (x : Elements). AreAt (with_row p id a) x) (sym f) (at_added p m id a value h fresh))

  pub shifted_rows : (q : Rows) (n : Elements) (k id : OpId) (a : Anchor) → is_row p id ≡ false → q ≡ with_row p id a → n ≡ edited m k (shifted_late id) → AreAt q n
  shifted_rows q n k id a fresh e f = subst (λ (r : Rows). AreAt r n) (sym e) (subst (λ (x : Elements). AreAt (with_row p id a) x) (sym f) (at_shifted p m k id a h fresh))

  pub edited_rows : (n : Elements) (k : OpId) (f : Element → Element) → ((d : Element) → (f d).position ≡ d.position) → n ≡ edited m k f → AreAt p n
  edited_rows n k f keeps e = subst (λ (x : Elements). AreAt p x) (sym e) (at_edited p m k f keeps h)

  pub same_items : (n : Elements) → n ≡ m → AreAt p n
  same_items n e = subst (λ (x : Elements). AreAt p x) (sym e) h
