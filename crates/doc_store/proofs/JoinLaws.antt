-- Operations that refer right may be done one after the other.
use Rattle.std.specs.Prelude.{◌≡◌, ◌≢◌, ◌<◌, ◌≤◌, ◌^◌, ◌+◌, ℕ, true, false, cond, Some, None, is_some, List, [], ◌∷◌, length, refl, ◌⊎◌}
use Rattle.std.proofs.Common.{sym, ◌∙◌, ap, subst, inl, inr, arith}
use Rattle.std.specs.List.{AllByRecursion}
use Rattle.std.specs.FinMap.{FinMap, get, get-insert}
use Rattle.op_ids.specs.declared.OpId.{OpId}
use Rattle.op_ids.specs.Order.{id_eq, id_lt, id_plus, root_id, trash_id}
use Rattle.op_ids.proofs.OrderLaws.{id_eq-exact, id_eq-apart}
use Rattle.model.specs.Operation.{Anchor, IsAnchor, Operation, new_node, move_node, put_key, type_text, erase_text, add_item, shift_item, set_item, drop_item}
use Rattle.model.specs.State.{State, Atom, RowKey, row_cmp, Element, is_fixed, has_anchor, named, position_step, text_step, list_position_step, element_step, apart, characters_apart, right_of}
use Rattle.model_laws.specs.Arrival.{Contents, Rises, late, late_element, set_late, shifted_late}
use Rattle.model_laws.proofs.ArrivalLaws.{all_done, done_one}
use Rattle.model_laws.proofs.Contents.{new_element}
use Rattle.model_laws.proofs.ListLaws.{all_front}
use Rattle.model_laws.proofs.Presence.{AllRight}
use Rattle.model_laws.proofs.Tables.{both_true, is_none, row_eq, row_total, there_edited}
use Rattle.model_laws.proofs.TreeLaws.{or_cases}
use Rattle.arrival_laws.proofs.DocumentLaws.{rises_back}
use Rattle.arrival_laws.proofs.ReferLaws.{WholeRight, apart_right, apart_single}
use Rattle.fugue_text.specs.Texts.{AreNew}
use Rattle.doc_store.proofs.FreshLaws.{unused_behind}
use Rattle.fugue_tree.specs.Trees.{Table, MayHang}
use Rattle.doc_store.specs.Kept.{MayBeDone, MayType}
use Rattle.doc_store.specs.Documents.{AllMayBeDone, HasNoRow, IsFormed, all_late, parts_of}

-- ---- ids

pub own_no_root : (id : OpId) → 1 ≤ id.time → id ≢ root_id
own_no_root id t e = let z = ap (λ (i : OpId). i.time) e in absurd (omega (arith, t, z))

pub own_not_fixed : (id : OpId) → 1 ≤ id.time → is_fixed id ≡ false
own_not_fixed id t =
    let no_root : id_eq id root_id ≡ false = id_eq-apart id root_id (own_no_root id t) in
    let no_trash : id_eq id trash_id ≡ false = id_eq-apart id trash_id (λ e. let z = ap (λ (i : OpId). i.time) e in absurd (omega (arith, t, z))) in
    rw (no_root, no_trash) refl

pub other_not_fixed : (id : OpId) → id ≢ root_id → id ≢ trash_id → is_fixed id ≡ false
other_not_fixed id r t = let no_root = id_eq-apart id root_id r in let no_trash = id_eq-apart id trash_id t in rw (no_root, no_trash) refl

-- ---- what is kept, and the state

-- They have the same rows. Only values of elements may differ.
pub record HasRows (c : Contents) (u : State) : Type 0 where
  pub positions : c.positions ≡ u.positions
  pub texts : c.texts ≡ u.texts
  pub list_positions : c.list_positions ≡ u.list_positions
  pub elements : (k : RowKey) → is_some (get c.elements k) ≡ is_some (get u.elements k)

elements_next : (m t : FinMap row_cmp Element) (id : OpId) (o : Operation) → ((k : RowKey) → is_some (get m k) ≡ is_some (get t k)) → (k : RowKey) → is_some (get (late_element m id o) k) ≡ is_some (get (element_step t id o) k)
elements_next m t id (add_item node at value) h k =
    let e : Element = new_element id value in
    ap is_some (get-insert row_total m (node, id) e k)
    ∙ elim (row_eq k (node, id)) as (λ b. is_some (cond b (Some e) (get m k)) ≡ is_some (cond b (Some e) (get t k))) [ true ↦ refl | false ↦ h k ]
    ∙ sym (ap is_some (get-insert row_total t (node, id) e k))
elements_next m t id (shift_item node element at) h k = there_edited m (node, element) (shifted_late id) k ∙ h k ∙ sym (there_edited t (node, element) (λ e. record e { position = id }) k)
elements_next m t id (set_item node element value) h k = there_edited m (node, element) (set_late id value) k ∙ h k ∙ sym (there_edited t (node, element) (λ e. record e { writer = id; value = value }) k)
elements_next m t id (drop_item node element) h k = there_edited m (node, element) (λ e. record e { dropped = true }) k ∙ h k ∙ sym (there_edited t (node, element) (λ e. record e { dropped = true }) k)
elements_next m t id (new_node parent at) h k = h k
elements_next m t id (move_node child parent at) h k = h k
elements_next m t id (put_key node key value) h k = h k
elements_next m t id (type_text node at characters) h k = h k
elements_next m t id (erase_text node first count) h k = h k

pub has_rows_after : (c : Contents) (u : State) (list : List Atom) → HasRows c u → HasRows (all_late c list) (all_done u list)
has_rows_after c u [] h = h
has_rows_after c u (a ∷ list) h =
    has_rows_after (late c a) (done_one u a) list
    (record {
      positions = ap (λ m. position_step m a.id a.operation) h.positions;
      texts = ap (λ m. text_step m a.id a.operation) h.texts;
      list_positions = ap (λ m. list_position_step m a.id a.operation) h.list_positions;
      elements = elements_next c.elements u.elements a.id a.operation h.elements;
    })

-- ---- one operation

hangs : {X : Type 0} (n : ℕ) (m : FinMap row_cmp X) (owner id : OpId) (at : Anchor) → IsAnchor n at → has_anchor m owner at.on ≡ true → id_lt at.on id ≡ true
    → (at ≡ right_of root_id) ⊎ ((is_some (get m (owner, at.on)) ≡ true) × (id_lt at.on id ≡ true))
hangs n m owner id at f h l =
    elim (or_cases (id_eq at.on root_id) _ h) as (λ _. (at ≡ right_of root_id) ⊎ ((is_some (get m (owner, at.on)) ≡ true) × (id_lt at.on id ≡ true))) [
      | inl e ↦ (let on = id_eq-exact at.on root_id e in let side = f.head on in inl (λ i. record { on = on i; side = side i }))
      | inr t ↦ inr (t, l)
    ]

may_hang : (n : ℕ) (m k : Table) (owner id : OpId) (at : Anchor) → k ≡ m → IsAnchor n at → 1 ≤ id.time → get m (owner, id) ≡ None → has_anchor m owner at.on ≡ true → id_lt at.on id ≡ true → MayHang k owner id at
may_hang n m k owner id at e f t u h l = subst (λ x. MayHang x owner id at) (sym e) (record { fresh = u; no_head = own_no_root id t; hangs = hangs n m owner id at f h l })

new_ids : (u : State) (node id : OpId) (at : Anchor) (cs : List ℕ) → AllByRecursion (λ b. HasNoRow u b.id) (characters_apart node id at cs) → AreNew u.texts node id (length cs)
new_ids u node id at [] h = tt
new_ids u node id at (c ∷ cs) h = (h.0.texts node, new_ids u node (id_plus id 1) (right_of id) cs h.1)

-- the ids of what is typed are within a change
pub typed_within : (id node : OpId) (at : Anchor) (cs : List ℕ) → IsFormed (record { id = id; operation = type_text node at cs }) → (id.index < 65536) × (1 ≤ id.time) × (length cs ≤ 4096)
typed_within id node at [] f = (let some : 1 ≤ 0 = f.operation.2.some in absurd (omega (arith, some)))
typed_within id node at (x ∷ cs) f = (f.ids.0.index, f.ids.0.some, f.operation.2.most)

may_type : (u : State) (c : Contents) (node id : OpId) (at : Anchor) (cs : List ℕ) → HasRows c u → IsFormed (record { id = id; operation = type_text node at cs }) → AllRight (named u (type_text node at cs)) id
    → AllByRecursion (λ b. HasNoRow u b.id) (characters_apart node id at cs) → MayType c.texts node id at (length cs)
may_type u c node id at cs k f r n =
    let w = typed_within id node at cs f in
    let low : id.index < 65536 = w.0 in
    let most : length cs ≤ 4096 = w.2 in
    let in_range : id.index + length cs < 2 ^ 32 = omega (arith, low, most) in
    let there : has_anchor u.texts node at.on ≡ true = (both_true _ _ (both_true _ _ r.there).1).0 in
    subst (λ m. MayType m node id at (length cs)) (sym k.texts)
    (record { new = new_ids u node id at cs n; no_head = own_no_root id w.1; hangs = hangs 32 u.texts node id at f.operation.1 there r.smaller.1.0; in_range = in_range })

pub may_be_done : (u : State) (c : Contents) (id : OpId) (o : Operation) → HasRows c u → IsFormed (record { id = id; operation = o }) → AllRight (named u o) id → AllByRecursion (λ b. HasNoRow u b.id) (apart id o) → MayBeDone c id o
may_be_done u c id (new_node parent at) k f r n =
    let there = both_true _ _ (both_true _ _ r.there).1 in
    may_hang 32 u.positions c.positions parent id at k.positions f.operation.1 f.ids.0.some (n.0.positions parent) there.0 r.smaller.1.0
may_be_done u c id (move_node child parent at) k f r n =
    let there = both_true _ _ (both_true _ _ (both_true _ _ r.there).1).1 in
    may_hang 32 u.positions c.positions parent id at k.positions f.operation.4 f.ids.0.some (n.0.positions parent) there.0 r.smaller.1.1.0
may_be_done u c id (put_key node key value) k f r n = tt
may_be_done u c id (type_text node at characters) k f r n = may_type u c node id at characters k f r n
may_be_done u c id (erase_text node first count) k f r n = (let inside : first.index + count ≤ 65536 = f.operation.2.inside in omega (arith, inside))
may_be_done u c id (add_item node at value) k f r n =
    let there = both_true _ _ (both_true _ _ r.there).1 in
    (may_hang 32 u.list_positions c.list_positions node id at k.list_positions f.operation.1 f.ids.0.some (n.0.list_positions node) there.0 r.smaller.1.0, is_none (get c.elements (node, id)) (k.elements (node, id) ∙ ap is_some (n.0.elements node)))
may_be_done u c id (shift_item node element at) k f r n =
    let there = both_true _ _ (both_true _ _ r.there).1 in
    let anchor = both_true _ _ there.1 in
    (may_hang 32 u.list_positions c.list_positions node id at k.list_positions f.operation.2 f.ids.0.some (n.0.list_positions node) anchor.0 r.smaller.1.1.0, k.elements (node, element) ∙ there.0)
may_be_done u c id (set_item node element value) k f r n = k.elements (node, element) ∙ (both_true _ _ (both_true _ _ r.there).1).0
may_be_done u c id (drop_item node element) k f r n = k.elements (node, element) ∙ (both_true _ _ (both_true _ _ r.there).1).0

-- ---- one after the other

pub may_all_be_done : (ops : List Atom) → AllByRecursion IsFormed ops → Rises (parts_of ops) → (u : State) (c : Contents) → HasRows c u → WholeRight u ops → AllByRecursion (λ b. HasNoRow u b.id) (parts_of ops) → AllMayBeDone c ops
may_all_be_done [] f rises u c k r n = tt
may_all_be_done (a ∷ ops) f rises u c k r n =
    let parts = apart a.id a.operation in (
      may_be_done u c a.id a.operation k f.0 r.0 (all_front (λ b. HasNoRow u b.id) parts (parts_of ops) n),
      may_all_be_done ops f.1 (rises_back parts (parts_of ops) rises) (all_done u parts) (all_late c parts) (has_rows_after c u parts k) r.1
          (unused_behind u parts (parts_of ops) (apart_right u a.id a.operation r.0) (apart_single a.id a.operation) rises n),
    )
