-- Operations that refer right leave what rows name there, and smaller than they are.
use Rattle.std.proofs.Common.{◌≡◌, ◌≢◌, ℕ, ◌⊎◌, ◌||◌, true, false, cond, Bool, List, [], ◌∷◌, refl, sym, ap, subst, ◌∙◌, arith, inl, inr}
use Rattle.std.specs.Prelude.{Some, is_some, fold}
use Rattle.std.specs.FinMap.{FinMap, get, insert}
use Rattle.op_ids.specs.declared.OpId.{OpId}
use Rattle.op_ids.specs.Order.{id_cmp, id_lt, root_id}
use Rattle.op_ids.proofs.OrderLaws.{id_eq-apart, lt_itself, lt_not_back}
use Rattle.model.specs.Operation.{Anchor, Operation, new_node, move_node, put_key, type_text, erase_text, add_item, shift_item, set_item, drop_item}
use Rattle.model.specs.State.{State, Atom, Place, Written, Character, Element, RowKey, Register, row_cmp, has_anchor, has_node, is_fixed, is_above, edit_row, killed, run_of, named, names_what_is_there, done}
use Rattle.model.specs.BaseItem.{IsForest, NodesStand, RegistersStand, ElementsStand, Stand}
use Rattle.model_laws.specs.Arrival.{IsSingle, AreBelow}
use Rattle.model_laws.proofs.ArrivalLaws.{all_done, done_one, GoodAlong}
use Rattle.model_laws.proofs.Presence.{AllNamed, Before}
use Rattle.model_laws.proofs.Tables.{both_true, edited_row, register_exact, register_total, row_exact, row_total, there_edited, there_inserted}
use Rattle.effect_laws.proofs.WholeLaws.{contra, node_stays, node_written, row_written, there_now, found_edit}
use Rattle.keeping_laws.proofs.FormLaws.{each_insert}

-- ---- forests

-- the owners of rows are there, and rows hang well
record Hang (has : OpId → Bool) {X : Type 0} (at : X → Anchor) (table : FinMap row_cmp X) : Type 0 where
  owner : (owner id : OpId) (x : X) → get table (owner, id) ≡ Some x → (has owner ≡ true) × (id_lt owner id ≡ true)
  anchor : (owner id : OpId) (x : X) → get table (owner, id) ≡ Some x → (at x).on ≢ root_id → (is_some (get table (owner, (at x).on)) ≡ true) × (id_lt (at x).on id ≡ true)

hang_from : (s : State) {X : Type 0} (at : X → Anchor) (table : FinMap row_cmp X) → IsForest s at table → Hang (has_node s) at table
hang_from s at table f = record { owner = f.owner; anchor = f.anchor }

forest_from : (s : State) {X : Type 0} (at : X → Anchor) (table : FinMap row_cmp X) → Hang (has_node s) at table → IsForest s at table
forest_from s at table f = record { owner = f.owner; anchor = f.anchor }

module _ (has now : OpId → Bool) (more : (q : OpId) → has q ≡ true → now q ≡ true) {X : Type 0} (at : X → Anchor) where
  hang_more : (table : FinMap row_cmp X) → Hang has at table → Hang now at table
  hang_more table h = record { owner = λ o i x g. (let p = h.owner o i x g in (more o p.0, p.1)); anchor = h.anchor }

  hang_insert : (table : FinMap row_cmp X) (owner id : OpId) (x : X) → Hang has at table → has owner ≡ true → id_lt owner id ≡ true → has_anchor table owner (at x).on ≡ true → id_lt (at x).on id ≡ true → Hang now at (insert table (owner, id) x)
  hang_insert table owner id x h there less on below = record {
    owner = λ o i y g.
        elim (row_written table (owner, id) x (o, i) y g) as (λ _. (now o ≡ true) × (id_lt o i ≡ true)) [
          | inl e ↦ subst (λ (k : RowKey). (now k.0 ≡ true) × (id_lt k.0 k.1 ≡ true)) (sym e.0) (more owner there, less)
          | inr was ↦ (let p = h.owner o i y was in (more o p.0, p.1))
        ];
    anchor = λ o i y g ne.
        elim (row_written table (owner, id) x (o, i) y g) as (λ _. (is_some (get (insert table (owner, id) x) (o, (at y).on)) ≡ true) × (id_lt (at y).on i ≡ true)) [
          | inl e ↦
              let ne' : (at x).on ≢ root_id = λ s. ne (ap (λ z. (at z).on) e.1 ∙ s) in
              let row : is_some (get table (owner, (at x).on)) ≡ true = rw (id_eq-apart (at x).on root_id ne') at on in
              let here : (is_some (get (insert table (owner, id) x) (owner, (at x).on)) ≡ true) × (id_lt (at x).on id ≡ true) = (there_inserted row_total row_exact table (owner, id) x (owner, (at x).on) row, below) in
              subst (λ (p : RowKey × X). (is_some (get (insert table (owner, id) x) (p.0.0, (at p.1).on)) ≡ true) × (id_lt (at p.1).on p.0.1 ≡ true)) (λ j. (sym e.0 j, sym e.1 j)) here
          | inr was ↦ (let p = h.anchor o i y was ne in (there_inserted row_total row_exact table (owner, id) x (o, (at y).on) p.0, p.1))
        ];
  }

module _ (has : OpId → Bool) {X : Type 0} (at : X → Anchor) where
  hang_edit : (table : FinMap row_cmp X) (k : RowKey) (f : X → X) → ((x : X) → at (f x) ≡ at x) → Hang has at table → Hang has at (edit_row table k f)
  hang_edit table k f keeps h =
      let was : (q : RowKey) (y : X) → get (edit_row table k f) q ≡ Some y → (x : X) × (get table q ≡ Some x) × (at y ≡ at x) =
      λ q y g. let r = edited_row table k f q y g in (r.0, r.1, elim r.2 as (λ _. at y ≡ at r.0) [ inl m ↦ ap at m ∙ keeps r.0 | inr m ↦ ap at m ]) in
      record {
        owner = λ o i y g. (let w = was (o, i) y g in h.owner o i w.0 w.1);
        anchor = λ o i y g ne.
            let w = was (o, i) y g in
            let p = h.anchor o i w.0 w.1 (λ e. ne (ap (λ (a : Anchor). a.on) w.2 ∙ e)) in
            subst (λ (a : Anchor). (is_some (get (edit_row table k f) (o, a.on)) ≡ true) × (id_lt a.on i ≡ true)) (sym w.2) (there_edited table k f (o, (at w.0).on) ∙ p.0, p.1);
      }

hang_killed : (has : OpId → Bool) (node : OpId) (ids : List OpId) (table : FinMap row_cmp Character) → Hang has (λ (c : Character). c.at) table → Hang has (λ (c : Character). c.at) (fold (λ rows k. edit_row rows (node, k) killed) table ids)
hang_killed has node [] table h = h
hang_killed has node (k ∷ ids) table h = hang_killed has node ids (edit_row table (node, k) killed) (hang_edit has (λ (c : Character). c.at) table (node, k) killed (λ c. refl) h)

-- ---- one operation

module _ (u : State) (id : OpId) (below : AreBelow u id) (s : Stand u) where
  -- what has an id as its position is new
  fresh : (owner q : OpId) → is_some (get u.positions (owner, q)) ≡ true → q ≢ id
  fresh owner q h e = contra (id_lt id id) (ap (λ x. id_lt x id) (sym e) ∙ below.positions owner q h) (lt_itself id)

  fresh_item : (owner q : OpId) → is_some (get u.list_positions (owner, q)) ≡ true → q ≢ id
  fresh_item owner q h e = contra (id_lt id id) (ap (λ x. id_lt x id) (sym e) ∙ below.list_positions owner q h) (lt_itself id)

  -- a node comes to a new position
  node_comes : (child parent : OpId) (a : Anchor) (now : State) → now.nodes ≡ insert u.nodes child (record { parent = parent; position = id }) → now.positions ≡ insert u.positions (parent, id) a
      → ((q : OpId) → has_node u q ≡ true → has_node now q ≡ true) → has_node u parent ≡ true → id_lt id child ≡ false → NodesStand now
  node_comes child parent a now en ep more there not_back =
      let place : Place = record { parent = parent; position = id } in
      let was : (q : OpId) (p : Place) → get now.nodes q ≡ Some p → ((q ≡ child) × (p ≡ place)) ⊎ (get u.nodes q ≡ Some p) =
      λ q p g. node_written u.nodes child place q p (ap (λ (m : FinMap id_cmp Place). get m q) (sym en) ∙ g) in
      let at : (k : RowKey) → is_some (get (insert u.positions (parent, id) a) k) ≡ true → is_some (get now.positions k) ≡ true = λ k h. ap (λ (m : FinMap row_cmp Anchor). is_some (get m k)) ep ∙ h in
      record {
        parent = λ q p g. elim (was q p g) as (λ _. has_node now p.parent ≡ true) [ inl e ↦ subst (λ (x : Place). has_node now x.parent ≡ true) (sym e.1) (more parent there) | inr h ↦ more p.parent (s.nodes.parent q p h) ];
        position = λ q p g.
            elim (was q p g) as (λ _. is_some (get now.positions (p.parent, p.position)) ≡ true) [
              | inl e ↦ subst (λ (x : Place). is_some (get now.positions (x.parent, x.position)) ≡ true) (sym e.1) (at (parent, id) (there_now u.positions (parent, id) a))
              | inr h ↦ at (p.parent, p.position) (there_inserted row_total row_exact u.positions (parent, id) a (p.parent, p.position) (s.nodes.position q p h))
            ];
        not_smaller = λ q p g.
            elim (was q p g) as (λ _. id_lt p.position q ≡ false) [
              | inl e ↦ subst (λ (x : OpId × Place). id_lt x.1.position x.0 ≡ false) (λ i. (sym e.0 i, sym e.1 i)) not_back
              | inr h ↦ s.nodes.not_smaller q p h
            ];
        own_position = λ q r p t g h same.
            elim (was q p g) as (λ _. q ≡ r) [
              | inl e ↦ elim (was r t h) as (λ _. q ≡ r) [
                | inl f ↦ e.0 ∙ sym f.0
                | inr k ↦ absurd (fresh t.parent t.position (s.nodes.position r t k) (sym same ∙ ap (λ (x : Place). x.position) e.1))
              ]
              | inr k ↦ elim (was r t h) as (λ _. q ≡ r) [
                | inl f ↦ absurd (fresh p.parent p.position (s.nodes.position q p k) (same ∙ ap (λ (x : Place). x.position) f.1))
                | inr l ↦ s.nodes.own_position q r p t k l same
              ]
            ];
      }

  -- a position is made, and the nodes stay
  position_comes : (parent : OpId) (a : Anchor) (now : State) → now.nodes ≡ u.nodes → now.positions ≡ insert u.positions (parent, id) a → NodesStand now
  position_comes parent a now en ep =
      let was : (q : OpId) (p : Place) → get now.nodes q ≡ Some p → get u.nodes q ≡ Some p = λ q p g. ap (λ (m : FinMap id_cmp Place). get m q) (sym en) ∙ g in record {
        parent = λ q p g. subst (λ (m : FinMap id_cmp Place). (is_fixed p.parent || is_some (get m p.parent)) ≡ true) (sym en) (s.nodes.parent q p (was q p g));
        position = λ q p g. ap (λ (m : FinMap row_cmp Anchor). is_some (get m (p.parent, p.position))) ep ∙ there_inserted row_total row_exact u.positions (parent, id) a (p.parent, p.position) (s.nodes.position q p (was q p g));
        not_smaller = λ q p g. s.nodes.not_smaller q p (was q p g);
        own_position = λ q r p t g h same. s.nodes.own_position q r p t (was q p g) (was r t h) same;
      }

  -- with more nodes, the rest as it is
  module _ (o : Operation) where
    more : (q : OpId) → has_node u q ≡ true → has_node (done id o u) q ≡ true
    more q h = node_stays u id o q h

    forest_more : {X : Type 0} (at : X → Anchor) (table : FinMap row_cmp X) → IsForest u at table → IsForest (done id o u) at table
    forest_more at table f = forest_from (done id o u) at table (hang_more (has_node u) (has_node (done id o u)) more at table (hang_from u at table f))

    forest_insert : {X : Type 0} (at : X → Anchor) (table : FinMap row_cmp X) (owner : OpId) (x : X) → IsForest u at table → has_node u owner ≡ true → id_lt owner id ≡ true → has_anchor table owner (at x).on ≡ true → id_lt (at x).on id ≡ true
        → IsForest (done id o u) at (insert table (owner, id) x)
    forest_insert at table owner x f there less on under = forest_from (done id o u) at (insert table (owner, id) x) (hang_insert (has_node u) (has_node (done id o u)) more at table owner id x (hang_from u at table f) there less on under)

    registers_more : RegistersStand u → (node : OpId) (key : List ℕ) (w : Written) → get u.registers (node, key) ≡ Some w → (has_node (done id o u) node ≡ true) × (id_lt node w.writer ≡ true)
    registers_more r node key w g = let p = r node key w g in (more node p.0, p.1)

    elements_more : (now : State) → now.elements ≡ u.elements → now.list_positions ≡ u.list_positions → ((q : OpId) → has_node u q ≡ true → has_node now q ≡ true) → ElementsStand now
    elements_more now ee el has =
        let was : (node q : OpId) (e : Element) → get now.elements (node, q) ≡ Some e → get u.elements (node, q) ≡ Some e = λ node q e g. ap (λ (m : FinMap row_cmp Element). get m (node, q)) (sym ee) ∙ g in record {
          owner = λ node q e g. (let p = s.elements.owner node q e (was node q e g) in (has node p.0, p.1));
          position = λ node q e g. ap (λ (m : FinMap row_cmp Anchor). is_some (get m (node, e.position))) el ∙ s.elements.position node q e (was node q e g);
          not_smaller = λ node q e g. s.elements.not_smaller node q e (was node q e g);
          own_position = λ node q r e f g h same. s.elements.own_position node q r e f (was node q e g) (was node r f h) same;
        }

  -- an element comes to a new position
  element_comes : (node element : OpId) (x : Element) (a : Anchor) → x.position ≡ id → has_node u node ≡ true → id_lt node element ≡ true → id_lt id element ≡ false → id_lt x.writer element ≡ false
      → (now : State) → now.elements ≡ insert u.elements (node, element) x → now.list_positions ≡ insert u.list_positions (node, id) a → ((q : OpId) → has_node u q ≡ true → has_node now q ≡ true) → ElementsStand now
  element_comes node element x a at_id there less not_back written now ee el has =
      let was : (o q : OpId) (e : Element) → get now.elements (o, q) ≡ Some e → (((o, q) ≡ (node, element)) × (e ≡ x)) ⊎ (get u.elements (o, q) ≡ Some e) =
      λ o q e g. row_written u.elements (node, element) x (o, q) e (ap (λ (m : FinMap row_cmp Element). get m (o, q)) (sym ee) ∙ g) in
      let at : (k : RowKey) → is_some (get (insert u.list_positions (node, id) a) k) ≡ true → is_some (get now.list_positions k) ≡ true = λ k h. ap (λ (m : FinMap row_cmp Anchor). is_some (get m k)) el ∙ h in
      record {
        owner = λ o q e g.
            elim (was o q e g) as (λ _. (has_node now o ≡ true) × (id_lt o q ≡ true)) [
              | inl k ↦ subst (λ (z : RowKey). (has_node now z.0 ≡ true) × (id_lt z.0 z.1 ≡ true)) (sym k.0) (has node there, less)
              | inr k ↦ (let p = s.elements.owner o q e k in (has o p.0, p.1))
            ];
        position = λ o q e g.
            elim (was o q e g) as (λ _. is_some (get now.list_positions (o, e.position)) ≡ true) [
              | inl k ↦
                  let here : (o, e.position) ≡ (node, id) = λ i. ((k.0 i).0, (ap (λ (y : Element). y.position) k.1 ∙ at_id) i) in
                  ap (λ (z : RowKey). is_some (get now.list_positions z)) here ∙ at (node, id) (there_now u.list_positions (node, id) a)
              | inr k ↦ at (o, e.position) (there_inserted row_total row_exact u.list_positions (node, id) a (o, e.position) (s.elements.position o q e k))
            ];
        not_smaller = λ o q e g.
            elim (was o q e g) as (λ _. (id_lt e.position q ≡ false) × (id_lt e.writer q ≡ false)) [
              | inl k ↦ subst (λ (z : RowKey × Element). (id_lt z.1.position z.0.1 ≡ false) × (id_lt z.1.writer z.0.1 ≡ false)) (λ i. (sym k.0 i, sym k.1 i)) (ap (λ p. id_lt p element) at_id ∙ not_back, written)
              | inr k ↦ s.elements.not_smaller o q e k
            ];
        own_position = λ o q r e f g h same.
            elim (was o q e g) as (λ _. q ≡ r) [
              | inl k ↦ elim (was o r f h) as (λ _. q ≡ r) [
                | inl l ↦ ap (λ (z : RowKey). z.1) (k.0 ∙ sym l.0)
                | inr l ↦ absurd (fresh_item o f.position (s.elements.position o r f l) (sym same ∙ ap (λ (y : Element). y.position) k.1 ∙ at_id))
              ]
              | inr k ↦ elim (was o r f h) as (λ _. q ≡ r) [
                | inl l ↦ absurd (fresh_item o e.position (s.elements.position o q e k) (same ∙ ap (λ (y : Element). y.position) l.1 ∙ at_id))
                | inr l ↦ s.elements.own_position o q r e f k l same
              ]
            ];
      }

  -- an element that stays where it is
  element_edited : (k : RowKey) (g : Element → Element) → ((e : Element) → (g e).position ≡ e.position) → ((o q : OpId) (e : Element) → get u.elements (o, q) ≡ Some e → id_lt (g e).writer q ≡ false)
      → (now : State) → now.elements ≡ edit_row u.elements k g → now.list_positions ≡ u.list_positions → ((q : OpId) → has_node u q ≡ true → has_node now q ≡ true) → ElementsStand now
  element_edited k g keeps writes now ee el has =
      let was : (o q : OpId) (e : Element) → get now.elements (o, q) ≡ Some e → (d : Element) × (get u.elements (o, q) ≡ Some d) × (e.position ≡ d.position) × (id_lt e.writer q ≡ false) =
      λ o q e h.
      let r = edited_row u.elements k g (o, q) e (ap (λ (m : FinMap row_cmp Element). get m (o, q)) (sym ee) ∙ h) in (
        r.0,
        r.1,
        elim r.2 as (λ _. e.position ≡ r.0.position) [ inl m ↦ ap (λ (y : Element). y.position) m ∙ keeps r.0 | inr m ↦ ap (λ (y : Element). y.position) m ],
        elim r.2 as (λ _. id_lt e.writer q ≡ false) [ inl m ↦ ap (λ (y : Element). id_lt y.writer q) m ∙ writes o q r.0 r.1 | inr m ↦ ap (λ (y : Element). id_lt y.writer q) m ∙ (s.elements.not_smaller o q r.0 r.1).1 ],
      ) in
      record {
        owner = λ o q e h. (let w = was o q e h in let p = s.elements.owner o q w.0 w.1 in (has o p.0, p.1));
        position = λ o q e h. (let w = was o q e h in ap (λ (m : FinMap row_cmp Anchor). is_some (get m (o, e.position))) el ∙ ap (λ p. is_some (get u.list_positions (o, p))) w.2 ∙ s.elements.position o q w.0 w.1);
        not_smaller = λ o q e h. (let w = was o q e h in (ap (λ p. id_lt p q) w.2 ∙ (s.elements.not_smaller o q w.0 w.1).0, w.3));
        own_position = λ o q r e f h i same. (let w = was o q e h in let v = was o r f i in s.elements.own_position o q r w.0 v.0 w.1 v.1 (sym w.2 ∙ same ∙ v.2));
      }

  -- the step, where all that is named is there and smaller
  stand_done : (o : Operation) → IsSingle o → names_what_is_there u o ≡ true → AllNamed (Before id) (named u o) → Stand (done id o u)
  stand_done (new_node parent at) one there less =
      let o = new_node parent at in
      let b = both_true _ _ there in let c = both_true _ _ b.1 in record {
        nodes = node_comes id parent at (done id o u) refl refl (more o) b.0 (lt_itself id);
        positions = forest_insert o (λ (a : Anchor). a) u.positions parent at s.positions b.0 less.0 c.0 less.1.0;
        registers = registers_more o s.registers;
        texts = forest_more o (λ (c : Character). c.at) u.texts s.texts;
        list_positions = forest_more o (λ (a : Anchor). a) u.list_positions s.list_positions;
        elements = elements_more o (done id o u) refl refl (more o);
      }
  stand_done (move_node child parent at) one there less =
      let o = move_node child parent at in
      let a = both_true _ _ there in let b = both_true _ _ a.1 in let c = both_true _ _ b.1 in
      let place : Place = record { parent = parent; position = id } in
      let now : Bool → State = λ t. record { nodes = cond t u.nodes (insert u.nodes child place); positions = insert u.positions (parent, id) at; registers = u.registers; texts = u.texts; list_positions = u.list_positions; elements = u.elements } in
      let nodes : NodesStand (now (is_above u.nodes child parent)) =
      elim (is_above u.nodes child parent) as (λ t. ((q : OpId) → has_node u q ≡ true → has_node (now t) q ≡ true) → NodesStand (now t)) [
        | true ↦ λ has. position_comes parent at (now true) refl refl
        | false ↦ λ has. node_comes child parent at (now false) refl refl has b.0 (lt_not_back child id less.0)
      ] (more o) in record {
        nodes = nodes;
        positions = forest_insert o (λ (a : Anchor). a) u.positions parent at s.positions b.0 less.1.0 c.0 less.1.1.0;
        registers = registers_more o s.registers;
        texts = forest_more o (λ (c : Character). c.at) u.texts s.texts;
        list_positions = forest_more o (λ (a : Anchor). a) u.list_positions s.list_positions;
        elements = elements_more o (done id o u) refl refl (more o);
      }
  stand_done (put_key node key value) one there less =
      let o = put_key node key value in
      let a = both_true _ _ there in
      let w : Written = record { writer = id; value = value } in record {
        nodes = record { parent = s.nodes.parent; position = s.nodes.position; not_smaller = s.nodes.not_smaller; own_position = s.nodes.own_position };
        positions = forest_more o (λ (a : Anchor). a) u.positions s.positions;
        registers = λ q k v g.
            each_insert register_total register_exact (λ (e : Register × Written). (has_node u e.0.0 ≡ true) × (id_lt e.0.0 e.1.writer ≡ true)) u.registers (node, key) w (λ r x h. s.registers r.0 r.1 x h) (a.0, less.0) (q, k) v g;
        texts = forest_more o (λ (c : Character). c.at) u.texts s.texts;
        list_positions = forest_more o (λ (a : Anchor). a) u.list_positions s.list_positions;
        elements = elements_more o (done id o u) refl refl (more o);
      }
  stand_done (type_text node at []) one there less = absurd (omega arith)
  stand_done (type_text node at (c ∷ d ∷ cs)) one there less = absurd (omega arith)
  stand_done (type_text node at (c ∷ [])) one there less =
      let o = type_text node at (c ∷ []) in
      let a = both_true _ _ there in let b = both_true _ _ a.1 in record {
        nodes = record { parent = s.nodes.parent; position = s.nodes.position; not_smaller = s.nodes.not_smaller; own_position = s.nodes.own_position };
        positions = forest_more o (λ (a : Anchor). a) u.positions s.positions;
        registers = registers_more o s.registers;
        texts = forest_insert o (λ (c : Character). c.at) u.texts node (record { at = at; character = c; dead = false }) s.texts a.0 less.0 b.0 less.1.0;
        list_positions = forest_more o (λ (a : Anchor). a) u.list_positions s.list_positions;
        elements = elements_more o (done id o u) refl refl (more o);
      }
  stand_done (erase_text node first count) one there less =
      let o = erase_text node first count in record {
        nodes = record { parent = s.nodes.parent; position = s.nodes.position; not_smaller = s.nodes.not_smaller; own_position = s.nodes.own_position };
        positions = forest_more o (λ (a : Anchor). a) u.positions s.positions;
        registers = registers_more o s.registers;
        texts = forest_from (done id o u) (λ (c : Character). c.at) (done id o u).texts (hang_killed (has_node u) node (run_of first count) u.texts (hang_from u (λ (c : Character). c.at) u.texts s.texts));
        list_positions = forest_more o (λ (a : Anchor). a) u.list_positions s.list_positions;
        elements = elements_more o (done id o u) refl refl (more o);
      }
  stand_done (add_item node at value) one there less =
      let o = add_item node at value in
      let a = both_true _ _ there in let b = both_true _ _ a.1 in record {
        nodes = record { parent = s.nodes.parent; position = s.nodes.position; not_smaller = s.nodes.not_smaller; own_position = s.nodes.own_position };
        positions = forest_more o (λ (a : Anchor). a) u.positions s.positions;
        registers = registers_more o s.registers;
        texts = forest_more o (λ (c : Character). c.at) u.texts s.texts;
        list_positions = forest_insert o (λ (a : Anchor). a) u.list_positions node at s.list_positions a.0 less.0 b.0 less.1.0;
        elements = element_comes node id (record { position = id; writer = id; value = value; dropped = false }) at refl a.0 less.0 (lt_itself id) (lt_itself id) (done id o u) refl refl (more o);
      }
  stand_done (shift_item node element at) one there less =
      let o = shift_item node element at in
      let a = both_true _ _ there in let b = both_true _ _ a.1 in let c = both_true _ _ b.1 in
      let f : Element → Element = λ e. record e { position = id } in
      let e = found_edit u.elements (node, element) f b.0 in
      let p = s.elements.owner node element e.0 e.1 in record {
        nodes = record { parent = s.nodes.parent; position = s.nodes.position; not_smaller = s.nodes.not_smaller; own_position = s.nodes.own_position };
        positions = forest_more o (λ (a : Anchor). a) u.positions s.positions;
        registers = registers_more o s.registers;
        texts = forest_more o (λ (c : Character). c.at) u.texts s.texts;
        list_positions = forest_insert o (λ (a : Anchor). a) u.list_positions node at s.list_positions a.0 less.0 c.0 less.1.1.0;
        elements = element_comes node element (f e.0) at refl a.0 p.1 (lt_not_back element id less.1.0) (s.elements.not_smaller node element e.0 e.1).1 (done id o u) e.2 refl (more o);
      }
  stand_done (set_item node element value) one there less =
      let o = set_item node element value in
      let f : Element → Element = λ e. record e { writer = id; value = value } in record {
        nodes = record { parent = s.nodes.parent; position = s.nodes.position; not_smaller = s.nodes.not_smaller; own_position = s.nodes.own_position };
        positions = forest_more o (λ (a : Anchor). a) u.positions s.positions;
        registers = registers_more o s.registers;
        texts = forest_more o (λ (c : Character). c.at) u.texts s.texts;
        list_positions = forest_more o (λ (a : Anchor). a) u.list_positions s.list_positions;
        elements = element_edited (node, element) f (λ e. refl) (λ q i e g. lt_not_back i id (below.elements q i (ap is_some g))) (done id o u) refl refl (more o);
      }
  stand_done (drop_item node element) one there less =
      let o = drop_item node element in
      let f : Element → Element = λ e. record e { dropped = true } in record {
        nodes = record { parent = s.nodes.parent; position = s.nodes.position; not_smaller = s.nodes.not_smaller; own_position = s.nodes.own_position };
        positions = forest_more o (λ (a : Anchor). a) u.positions s.positions;
        registers = registers_more o s.registers;
        texts = forest_more o (λ (c : Character). c.at) u.texts s.texts;
        list_positions = forest_more o (λ (a : Anchor). a) u.list_positions s.list_positions;
        elements = element_edited (node, element) f (λ e. refl) (λ q i e g. (s.elements.not_smaller q i e g).1) (done id o u) refl refl (more o);
      }

-- ---- operations one after the other

pub stand_along : (u : State) (list : List Atom) → GoodAlong u list → Stand u → Stand (all_done u list)
stand_along u [] g s = s
stand_along u (a ∷ list) g s = stand_along (done_one u a) list g.1 (stand_done u a.id g.0.below s a.operation g.0.single g.0.names g.0.smaller)
