-- What an edit without faults plans is in form.
use Rattle.std.proofs.Common.{◌≡◌, ℕ, zero, suc, ◌+◌, ◌<◌, ◌≤◌, ◌||◌, true, false, cond, eqb, ltb, leb, not, Bool, sum_by, List, [], ◌∷◌, ◌++◌, length, map, refl, sym, ap, subst, ◌∙◌, arith, inl, inr}
use Rattle.std.specs.Prelude.{Option, Some, None, is_some, take, drop, IsUtf8}
use Rattle.std.specs.Ordering.{is_lt}
use Rattle.std.proofs.lemmas.List.{length-map}
use Rattle.cbor_det.specs.Item.{spell}
use Rattle.model_laws.proofs.ChangeLaws.{stamp_less}
use Rattle.std.specs.List.{AllByRecursion}
use Rattle.std.specs.Option.{option_map}
use Rattle.std.specs.FinMap.{FinMap, get}
use Rattle.std.proofs.lemmas.Bool.{cases_eq, cases_lt, eq-eqb, lt-ltb}
use Rattle.std.proofs.lemmas.List.{append-nil}
use Rattle.std.proofs.lemmas.List.Sums.{sum_by-cons}
use Rattle.op_ids.specs.declared.OpId.{OpId}
use Rattle.op_ids.specs.declared.Side.TheVariants.{Right}
use Rattle.op_ids.specs.Order.{id_eq, id_lt, id_plus, root_id, trash_id, stamp_of}
use Rattle.op_ids.proofs.OrderLaws.{id_eq-exact, id_eq-itself, lt_from_stamps, same_or_apart}
use Rattle.model.specs.Value.{Value, IsOpId, IsValue, null, truth, integer, text, bytes}
use Rattle.model.specs.Operation.{Anchor, Operation, IsAnchor, IsKey, IsOperation, new_node, move_node, put_key, type_text, erase_text, add_item, shift_item, set_item, drop_item, operation_item, width_of}
use Rattle.model.specs.Change.{body}
use Rattle.model.specs.State.{State, Character, row_cmp, has_node, is_fixed}
use Rattle.model.specs.Walk.{Rows, place_after, rows_of}
use Rattle.model.specs.View.{children, live_characters, live_elements}
use Rattle.model.specs.Edit as edits
use Rattle.model.specs.Edit.{Edit, Group, edit_fault, element_there, element_place, child_place, faults, faulty, grouped, grouped_with, hidden, origin_at, others, plan, position_of, value_len, wrong_key, wrong_value}
use Rattle.model.specs.BaseItem.{IsForest, IsTimed}
use Rattle.model_laws.proofs.ListLaws.{all_map, all_more, nil_from_append}
use Rattle.arrival_laws.proofs.AddLaws.{all_kept}
use Rattle.arrival_laws.proofs.StableLaws.{nil_second}
use Rattle.ledger_laws.proofs.PlanLaws.{either, in_length, is_shown, no_fault}
use Rattle.ledger_laws.proofs.RowLaws.{Hangs, IsElement, all_drop, all_take, at_place, character_there, child_hangs, element_there_each, origin_all}
use Rattle.walk_laws.specs.Insertion.{HangsWell, HeadOrRow, IsInsertionTree, is_row, anchor_of}
use Rattle.walk_laws.proofs.InsertionLaws.{place_is, place_there, well_placed}
use Rattle.effect_laws.proofs.RowsOf.{found_of, rising_of}
use Rattle.effect_laws.proofs.WholeLaws.{contra, row_is}
use Rattle.keeping_laws.specs.Forms.{HasForm, IsEdit}
use Rattle.keeping_laws.proofs.BaseLaws.{IsOn}
use Rattle.keeping_laws.proofs.SizeLaws.{Erases, erases_most, operation_most}

-- ---- trees

right_true : (a b : Bool) → b ≡ true → (a || b) ≡ true
right_true true b e = refl
right_true false b e = e

module _ {X : Type 0} (at : X → Anchor) (table : FinMap row_cmp X) (owner : OpId) where
  abbrev rows : Rows
  rows = rows_of at table owner

  hung_from : (id : OpId) (a : Anchor) → anchor_of (rows_of at table owner) id ≡ Some a → (x : X) × (get table (owner, id) ≡ Some x) × (at x ≡ a)
  hung_from id a h =
      elim (get table (owner, id)) as (λ o. get table (owner, id) ≡ o → option_map at o ≡ Some a → (x : X) × (get table (owner, id) ≡ Some x) × (at x ≡ a)) [
        | None ↦ λ _ e. absurd cc
        | Some x ↦ λ g e. (let s : at x ≡ a = cc in (x, g, s))
      ] refl (sym (found_of at table owner id) ∙ h)

  tree_of : (s : State) → IsForest s at table → ((q : OpId) (x : X) → get table (owner, q) ≡ Some x → (1 ≤ q.time) × ((at x).on ≡ root_id → (at x).side ≡ Right)) → IsInsertionTree (rows_of at table owner)
  tree_of s forest rows_are = record {
    rising = rising_of at table owner;
    head =
        found_of at table owner root_id
        ∙ elim (get table (owner, root_id)) as (λ o. get table (owner, root_id) ≡ o → option_map at o ≡ None) [
          | None ↦ λ _. refl
          | Some x ↦ λ g. absurd (let l = (rows_are root_id x g).0 in omega arith)
        ] refl;
    anchors = λ id a h.
        let f = hung_from id a h in
        elim (same_or_apart a.on root_id) as (λ _. HangsWell (rows_of at table owner) id a) [
          | inl e ↦ inl (λ i. record { on = e i; side = (ap (λ (z : Anchor). z.side) (sym f.2) ∙ (rows_are id f.0 f.1).1 (ap (λ (z : Anchor). z.on) f.2 ∙ e)) i })
          | inr ne ↦
              let p = forest.anchor owner id f.0 f.1 (λ e. contra (id_eq a.on root_id) (ap (λ q. id_eq q root_id) (ap (λ (z : Anchor). z.on) (sym f.2) ∙ e) ∙ id_eq-itself root_id) ne) in
              let p' : (is_some (get table (owner, a.on)) ≡ true) × (id_lt a.on id ≡ true) = subst (λ (z : Anchor). (is_some (get table (owner, z.on)) ≡ true) × (id_lt z.on id ≡ true)) f.2 p in
              inr (row_is at table owner a.on ∙ p'.0, p'.1)
        ];
  }

-- ---- ids

pub got : {X : Type 0} {Q : Type 0} (o : Option X) → is_some o ≡ true → ((x : X) → o ≡ Some x → Q) → Q
got None h f = absurd cc
got (Some x) h f = f x refl

module _ (n H : ℕ) (s : State) (on : IsOn n H s) where
  pub position_tree : (owner : OpId) → IsInsertionTree (rows_of (λ a. a) s.positions owner)
  position_tree owner = tree_of (λ a. a) s.positions owner s on.stand.positions (λ q a e. (let p = (on.formed.positions (owner, q) a e).0 in (p.1.1, p.2.0.head)))

  pub list_tree : (owner : OpId) → IsInsertionTree (rows_of (λ a. a) s.list_positions owner)
  list_tree owner = tree_of (λ a. a) s.list_positions owner s on.stand.list_positions (λ q a e. (let p = (on.formed.list_positions (owner, q) a e).0 in (p.1.1, p.2.0.head)))

  pub text_tree : (owner : OpId) → IsInsertionTree (rows_of (λ (c : Character). c.at) s.texts owner)
  text_tree owner = tree_of (λ (c : Character). c.at) s.texts owner s on.stand.texts (λ q c e. (let p = (on.formed.texts (owner, q) c e).0 in (p.1.1, p.2.0.head)))

module _ (n H : ℕ) (s : State) (some : 1 ≤ n) (on : IsOn n H s) where
  fixed_is : (id : OpId) → is_fixed id ≡ true → IsOpId n id
  fixed_is id h =
      elim (either (id_eq id root_id) (id_eq id trash_id) h) as (λ _. IsOpId n id) [
        | inl e ↦ (let is : id ≡ root_id = id_eq-exact id root_id e in subst (IsOpId n) (sym is) (record { time = omega arith; member = omega arith; index = omega arith; fixed = λ _. inl refl }))
        | inr e ↦ (let is : id ≡ trash_id = id_eq-exact id trash_id e in subst (IsOpId n) (sym is) (record { time = omega arith; member = omega arith; index = omega arith; fixed = λ _. inr refl }))
      ]

  child_is : (id : OpId) → is_some (get s.nodes id) ≡ true → IsTimed n id
  child_is id h = got (get s.nodes id) h (λ p e. (on.formed.nodes id p e).0.0)

  node_is : (id : OpId) → has_node s id ≡ true → IsOpId n id
  node_is id h = elim (either (is_fixed id) (is_some (get s.nodes id)) h) as (λ _. IsOpId n id) [ inl f ↦ fixed_is id f | inr t ↦ (child_is id t).0 ]

  character_is : (node id : OpId) → is_some (get s.texts (node, id)) ≡ true → IsTimed n id
  character_is node id h = got (get s.texts (node, id)) h (λ c e. (on.formed.texts (node, id) c e).0.1)

  element_is : (node id : OpId) → is_some (get s.elements (node, id)) ≡ true → IsTimed n id
  element_is node id h = got (get s.elements (node, id)) h (λ c e. (on.formed.elements (node, id) c e).0.1)

  -- ---- anchors

  -- a row that is placed hangs on the head or a row, and right of the head
  placed_is : {X : Type 0} (at : X → Anchor) (table : FinMap row_cmp X) (owner l : OpId) → IsInsertionTree (rows_of at table owner) → ((q : OpId) → is_some (get table (owner, q)) ≡ true → IsOpId n q) → Hangs table owner l
      → IsAnchor n (place_after (rows_of at table owner) l)
  placed_is at table owner l tree each hangs =
      let rs = rows_of at table owner in
      let a = place_after rs l in
      let there : HeadOrRow rs l = elim (either (id_eq l root_id) (is_some (get table (owner, l))) hangs) as (λ _. HeadOrRow rs l) [ inl e ↦ inl (id_eq-exact l root_id e) | inr r ↦ inr (row_is at table owner l ∙ r) ] in
      let next : OpId = record { time = a.on.time + 1; member = 0; index = 0 } in
      let above : id_lt a.on next ≡ true = lt_from_stamps a.on next (ap is_lt (stamp_less (stamp_of a.on) (stamp_of next) (omega arith))) in
      let on_row = place_there rs l tree there in record {
        on = elim on_row as (λ _. IsOpId n a.on) [
          | inl e ↦ fixed_is a.on (ap (λ q. is_fixed q) e)
          | inr r ↦ each a.on (sym (row_is at table owner a.on) ∙ r)
        ];
        head = λ e.
            elim (well_placed rs tree l next a there (place_is rs tree l there) above) as (λ _. a.side ≡ Right) [
              | inl k ↦ ap (λ (x : Anchor). x.side) k
              | inr k ↦ contra (is_row rs root_id) (ap (is_row rs) (sym e) ∙ k.0) (ap is_some tree.head)
            ];
      }

  child_anchor : (parent : OpId) (among : List OpId) (k : ℕ) → AllByRecursion (λ child. Hangs s.positions parent (position_of s child)) among → IsAnchor n (child_place s parent among k)
  child_anchor parent among k h =
      placed_is (λ a. a) s.positions parent (origin_at (map (position_of s) among) k) (position_tree n H s on parent) (λ q e. got (get s.positions (parent, q)) e (λ a g. (on.formed.positions (parent, q) a g).0.1.0))
      (origin_all (Hangs s.positions parent) (map (position_of s) among) k refl (all_map (Hangs s.positions parent) (position_of s) among h))

  element_anchor : (node : OpId) (among : List OpId) (k : ℕ) → AllByRecursion (IsElement s node) among → IsAnchor n (element_place s node among k)
  element_anchor node among k h =
      placed_is (λ a. a) s.list_positions node (origin_at (map (edits.element_position s node) among) k) (list_tree n H s on node) (λ q e. got (get s.list_positions (node, q)) e (λ a g. (on.formed.list_positions (node, q) a g).0.1.0))
      (origin_all (Hangs s.list_positions node) (map (edits.element_position s node) among) k refl
      (all_map (Hangs s.list_positions node) (edits.element_position s node) among (all_more (IsElement s node) (λ q. Hangs s.list_positions node (edits.element_position s node q)) (λ q p. p.1) among h)))

  text_anchor : (node : OpId) (k : ℕ) → IsAnchor n (edits.character_place s node k)
  text_anchor node k =
      placed_is (λ (c : Character). c.at) s.texts node (origin_at (live_characters s node) k) (text_tree n H s on node) (λ q e. got (get s.texts (node, q)) e (λ c g. (on.formed.texts (node, q) c g).0.1.0))
      (origin_all (Hangs s.texts node) (live_characters s node) k refl (all_more (λ q. is_some (get s.texts (node, q)) ≡ true) (Hangs s.texts node) (λ q e. right_true (id_eq q root_id) (is_some (get s.texts (node, q))) e) (live_characters s node) (character_there s node)))

  -- ---- elements

  element_there_is : (node : OpId) (k : ℕ) → k < length (live_elements s node) → IsTimed n (element_there s node k)
  element_there_is node k l = element_is node (element_there s node k) (at_place (IsElement s node) (live_elements s node) k root_id (element_there_each s node) l).0

-- ---- words

take_least : {A : Type 0} (k : ℕ) (xs : List A) → length (take k xs) ≤ k
take_least zero xs = omega arith
take_least (suc k) [] = omega arith
take_least (suc k) (x ∷ xs) = omega (arith, take_least k xs)

not_true : (b : Bool) → not b ≡ false → b ≡ true
not_true true e = refl
not_true false e = absurd cc

not_more : (k i : ℕ) → ltb k i ≡ false → i ≤ k
not_more k i e = elim (cases_lt k i) as (λ _. i ≤ k) [ inl l ↦ (let bad : true ≡ false = sym (lt-ltb k i l) ∙ e in absurd cc) | inr ge ↦ ge ]

not_zero : (k : ℕ) → eqb k 0 ≡ false → 1 ≤ k
not_zero k e = elim (cases_eq k 0) as (λ _. 1 ≤ k) [ inl z ↦ (let bad : true ≡ false = sym (eq-eqb k 0 z) ∙ e in absurd cc) | inr ne ↦ omega arith ]

key_is : (key : List ℕ) → IsUtf8 key → wrong_key key ≡ [] → IsKey key
key_is key t none = record {
  text = t;
  some = not_zero (length key) (no_fault (eqb (length key) 0) edits.is_empty 3 (nil_from_append (faulty (eqb (length key) 0) edits.is_empty 3) _ none));
  most = not_more 256 (length key) (no_fault (ltb 256 (length key)) edits.too_long 3 (nil_second (faulty (eqb (length key) 0) edits.is_empty 3) _ none));
}

value_is : (v : Value) → HasForm v → wrong_value v ≡ [] → IsValue v
value_is null h none = tt
value_is (truth b) h none = tt
value_is (integer k) h none = h
value_is (text t) h none = (h, not_more 65536 (length t) (no_fault (ltb 65536 (length t)) edits.too_long 4 none))
value_is (bytes b) h none = (h, not_more 65536 (length b) (no_fault (ltb 65536 (length b)) edits.too_long 4 none))

-- ---- groups of erased characters

-- a group of ids of one change, no more than so many
record GroupIs (n most : ℕ) (g : Group) : Type 0 where
  first : IsOpId n g.first
  some : 1 ≤ g.count
  few : g.count ≤ most
  inside : g.first.index + g.count ≤ 65536

wider : (n k most : ℕ) → k ≤ most → (g : Group) → GroupIs n k g → GroupIs n most g
wider n k most l g h = let f = h.few in record { first = h.first; some = h.some; few = omega arith; inside = h.inside }

joined : (n most : ℕ) (id : OpId) (g : Group) → IsOpId n id → g.first ≡ id_plus id 1 → GroupIs n most g → GroupIs n (suc most) (record { first = id; count = g.count + 1 })
joined n most id g is e h =
    let index : g.first.index ≡ id.index + 1 = ap (λ (x : OpId). x.index) e in
    let inside = h.inside in let few = h.few in record { first = is; some = omega arith; few = omega arith; inside = omega arith }

alone : (n most : ℕ) (id : OpId) → IsOpId n id → GroupIs n (suc most) (record { first = id; count = 1 })
alone n most id is = let i = is.index in record { first = is; some = omega arith; few = omega arith; inside = omega arith }

grouped_with_are : (n most : ℕ) (id : OpId) (gs : List Group) → IsOpId n id → AllByRecursion (GroupIs n most) gs → AllByRecursion (GroupIs n (suc most)) (grouped_with id gs)
grouped_with_are n most id [] is h = (alone n most id is, tt)
grouped_with_are n most id (g ∷ gs) is h =
    let more = all_more (GroupIs n most) (GroupIs n (suc most)) (λ x k. wider n most (suc most) (omega arith) x k) in
    elim (id_eq g.first (id_plus id 1)) as (λ b. id_eq g.first (id_plus id 1) ≡ b → AllByRecursion (GroupIs n (suc most)) (cond b (record { first = id; count = g.count + 1 } ∷ gs) (record { first = id; count = 1 } ∷ g ∷ gs))) [
      | true ↦ λ e. (joined n most id g is (id_eq-exact g.first (id_plus id 1) e) h.0, more gs h.1)
      | false ↦ λ _. (alone n most id is, more (g ∷ gs) h)
    ] refl

grouped_are : (n : ℕ) (ids : List OpId) → AllByRecursion (IsOpId n) ids → AllByRecursion (GroupIs n (length ids)) (grouped ids)
grouped_are n [] h = tt
grouped_are n (id ∷ ids) h = grouped_with_are n (length ids) id (grouped ids) h.0 (grouped_are n ids h.1)

fewer_groups : (id : OpId) (gs : List Group) → length (grouped_with id gs) ≤ suc (length gs)
fewer_groups id [] = omega arith
fewer_groups id (g ∷ gs) = elim (id_eq g.first (id_plus id 1)) as (λ b. length (cond b (record { first = id; count = g.count + 1 } ∷ gs) (record { first = id; count = 1 } ∷ g ∷ gs)) ≤ suc (suc (length gs))) [ true ↦ omega arith | false ↦ omega arith ]

few_groups : (ids : List OpId) → length (grouped ids) ≤ length ids
few_groups [] = omega arith
few_groups (id ∷ ids) = omega (arith, fewer_groups id (grouped ids), few_groups ids)

erased_are : (n : ℕ) (node : OpId) (gs : List Group) → IsOpId n node → AllByRecursion (GroupIs n 4096) gs → AllByRecursion (IsOperation n) (map (λ (g : Group). erase_text node g.first g.count) gs)
erased_are n node [] is h = tt
erased_are n node (g ∷ gs) is h = ((is, h.0.first, record { some = h.0.some; most = h.0.few; inside = h.0.inside }), erased_are n node gs is h.1)

erased_erase : (node : OpId) (gs : List Group) → AllByRecursion Erases (map (λ (g : Group). erase_text node g.first g.count) gs)
erased_erase node [] = tt
erased_erase node (g ∷ gs) = (tt, erased_erase node gs)

erased_width : (node : OpId) (gs : List Group) → sum_by width_of (map (λ (g : Group). erase_text node g.first g.count) gs) ≡ length gs
erased_width node [] = refl
erased_width node (g ∷ gs) = sum_by-cons width_of (erase_text node g.first g.count) (map (λ (g : Group). erase_text node g.first g.count) gs) ∙ omega (arith, erased_width node gs)

-- ---- every plan

-- operations in form that one change can have
pub record ArePlanned (n : ℕ) (os : List Operation) : Type 0 where
  pub each : AllByRecursion (IsOperation n) os
  pub width : sum_by width_of os ≤ 65536
  pub body : length (body os) ≤ 1048576

one_planned : (n : ℕ) (o : Operation) → IsOperation n o → width_of o ≤ 65536 → ArePlanned n (o ∷ [])
one_planned n o is l = record {
  each = (is, tt);
  width = omega (arith, sum_by-cons width_of o []);
  body = omega (arith, ap length (append-nil (spell (operation_item o))), operation_most n o is);
}

module _ (n H : ℕ) (s : State) (some : 1 ≤ n) (on : IsOn n H s) where
  moves : (child parent : OpId) (among : List OpId) (k : ℕ) → is_some (get s.nodes child) ≡ true → has_node s parent ≡ true → AllByRecursion (λ x. Hangs s.positions parent (position_of s x)) among → ArePlanned n (move_node child parent (child_place s parent among k) ∷ [])
  moves child parent among k c p h =
      let is = child_is n H s some on child c in
      one_planned n (move_node child parent (child_place s parent among k))
      (is.0, (λ e. let t = ap (λ (x : OpId). x.time) e in let l = is.1 in absurd (omega arith)), (λ e. let t = ap (λ (x : OpId). x.time) e in let l = is.1 in absurd (omega arith)), node_is n H s some on parent p, child_anchor n H s some on parent among k h) (omega arith)

  pub plan_is : (e : Edit) → IsEdit e → faults s e ≡ [] → ArePlanned n (plan s e)
  plan_is (edits.new_child parent k) form none =
      let p = is_shown s parent 2 (nil_from_append (hidden s parent 2) _ none) in
      one_planned n (new_node parent (child_place s parent (children s parent) k)) (node_is n H s some on parent p, child_anchor n H s some on parent (children s parent) k (child_hangs s parent)) (omega arith)
  plan_is (edits.move_child child parent k) form none =
      let more = nil_second (faulty (is_fixed child) edits.fixed 2) _ none in
      let rest = nil_second (faulty (not (is_some (get s.nodes child))) edits.no_node 2) _ more in
      let c = not_true (is_some (get s.nodes child)) (no_fault (not (is_some (get s.nodes child))) edits.no_node 2 (nil_from_append (faulty (not (is_some (get s.nodes child))) edits.no_node 2) _ more)) in
      let p = is_shown s parent 3 (nil_from_append (hidden s parent 3) _ rest) in
      moves child parent (others child (children s parent)) k c p (all_kept (λ x. Hangs s.positions parent (position_of s x)) (λ x. not (id_eq x child)) (children s parent) (child_hangs s parent))
  plan_is (edits.trash_child child) form none =
      let free = no_fault (is_fixed child) edits.fixed 2 (nil_from_append (faulty (is_fixed child) edits.fixed 2) _ none) in
      let there = is_shown s child 2 (nil_second (faulty (is_fixed child) edits.fixed 2) _ none) in
      let c : is_some (get s.nodes child) ≡ true = elim (either (is_fixed child) (is_some (get s.nodes child)) there) as (λ _. is_some (get s.nodes child) ≡ true) [ inl y ↦ (let bad : true ≡ false = sym y ∙ free in absurd cc) | inr y ↦ y ] in
      moves child trash_id [] 0 c refl tt
  plan_is (edits.put_value node key value) form none =
      let p = is_shown s node 2 (nil_from_append (hidden s node 2) _ none) in
      let words = nil_second (hidden s node 2) (wrong_key key ++ wrong_value value) none in
      one_planned n (put_key node key value) (node_is n H s some on node p, key_is key form.0 (nil_from_append (wrong_key key) (wrong_value value) words), value_is value form.1 (nil_second (wrong_key key) (wrong_value value) words)) (omega arith)
  plan_is (edits.unset_key node key) form none =
      let p = is_shown s node 2 (nil_from_append (hidden s node 2) _ none) in
      one_planned n (put_key node key null) (node_is n H s some on node p, key_is key form (nil_second (hidden s node 2) (wrong_key key) none), tt) (omega arith)
  plan_is (edits.type_at node k cs) form none =
      let p = is_shown s node 2 (nil_from_append (hidden s node 2) _ none) in
      let more = nil_second (hidden s node 2) _ none in
      let words = nil_second (faulty (ltb (length (live_characters s node)) k) edits.no_index 3) _ more in
      let least = not_zero (length cs) (no_fault (eqb (length cs) 0) edits.is_empty 4 (nil_from_append (faulty (eqb (length cs) 0) edits.is_empty 4) _ words)) in
      let most = not_more 4096 (length cs) (no_fault (ltb 4096 (length cs)) edits.too_long 4 (nil_second (faulty (eqb (length cs) 0) edits.is_empty 4) _ words)) in
      one_planned n (type_text node (edits.character_place s node k) cs) (node_is n H s some on node p, text_anchor n H s some on node k, record { each = form; some = least; most = most }) (omega arith)
  plan_is (edits.erase_at node k count) form none =
      let p = is_shown s node 2 (nil_from_append (hidden s node 2) _ none) in
      let more = nil_second (hidden s node 2) _ none in
      let words = nil_second (faulty (ltb (length (live_characters s node)) k) edits.no_index 3) _ more in
      let longer = nil_second (faulty (eqb count 0) edits.is_empty 4) _ words in
      let most = not_more 4096 count (no_fault (ltb 4096 count) edits.too_long 4 (nil_from_append (faulty (ltb 4096 count) edits.too_long 4) _ longer)) in
      let ids = take count (drop k (live_characters s node)) in
      let there : AllByRecursion (λ q. is_some (get s.texts (node, q)) ≡ true) ids =
      all_take (λ q. is_some (get s.texts (node, q)) ≡ true) count (drop k (live_characters s node)) (all_drop (λ q. is_some (get s.texts (node, q)) ≡ true) k (live_characters s node) (character_there s node)) in
      let are = all_more (λ q. is_some (get s.texts (node, q)) ≡ true) (IsOpId n) (λ q h. (character_is n H s some on node q h).0) ids there in
      let few = take_least count (drop k (live_characters s node)) in
      let groups = all_more (GroupIs n (length ids)) (GroupIs n 4096) (wider n (length ids) 4096 (omega arith)) (grouped ids) (grouped_are n ids are) in
      let os = map (λ (g : Group). erase_text node g.first g.count) (grouped ids) in
      let fewer = few_groups ids in
      let len : length os ≡ length (grouped ids) = length-map (grouped ids) (λ (g : Group). erase_text node g.first g.count) in
      let bytes = erases_most os (erased_erase node (grouped ids)) in record {
        each = erased_are n node (grouped ids) (node_is n H s some on node p) groups;
        width = omega (arith, erased_width node (grouped ids));
        body = omega arith;
      }
  plan_is (edits.add_at node k value) form none =
      let p = is_shown s node 2 (nil_from_append (hidden s node 2) _ none) in
      let more = nil_second (hidden s node 2) _ none in
      one_planned n (add_item node (element_place s node (live_elements s node) k) value)
      (node_is n H s some on node p, element_anchor n H s some on node (live_elements s node) k (element_there_each s node), value_is value form (nil_second (faulty (ltb (length (live_elements s node)) k) edits.no_index 3) (wrong_value value) more)) (omega arith)
  plan_is (edits.shift_to node from to) form none =
      let p = is_shown s node 2 (nil_from_append (hidden s node 2) _ none) in
      let more = nil_second (hidden s node 2) _ none in
      let x = element_there_is n H s some on node from (in_length (length (live_elements s node)) from edits.no_index 3 (nil_from_append (faulty (leb (length (live_elements s node)) from) edits.no_index 3) _ more)) in
      let element = element_there s node from in
      one_planned n (shift_item node element (element_place s node (others element (live_elements s node)) to))
      (node_is n H s some on node p, x.0, element_anchor n H s some on node (others element (live_elements s node)) to (all_kept (IsElement s node) (λ q. not (id_eq q element)) (live_elements s node) (element_there_each s node))) (omega arith)
  plan_is (edits.set_at node k value) form none =
      let p = is_shown s node 2 (nil_from_append (hidden s node 2) _ none) in
      let more = nil_second (hidden s node 2) _ none in
      let x = element_there_is n H s some on node k (in_length (length (live_elements s node)) k edits.no_index 3 (nil_from_append (faulty (leb (length (live_elements s node)) k) edits.no_index 3) _ more)) in
      one_planned n (set_item node (element_there s node k) value) (node_is n H s some on node p, x.0, value_is value form (nil_second (faulty (leb (length (live_elements s node)) k) edits.no_index 3) (wrong_value value) more)) (omega arith)
  plan_is (edits.drop_at node k) form none =
      let p = is_shown s node 2 (nil_from_append (hidden s node 2) _ none) in
      let more = nil_second (hidden s node 2) _ none in
      let x = element_there_is n H s some on node k (in_length (length (live_elements s node)) k edits.no_index 3 more) in
      one_planned n (drop_item node (element_there s node k)) (node_is n H s some on node p, x.0) (omega arith)
