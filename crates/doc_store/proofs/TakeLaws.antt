-- Operations that are judged and taken in, one after the other.
use Rattle.std.specs.Prelude.{◌≡◌, ◌+◌, ◌≤◌, ◌^◌, ◌-◌, ◌||◌, ℕ, suc, Bool, true, false, cond, min, Option, Some, None, is_some, List, [], ◌∷◌, ◌++◌, length, map, slice_get, refl}
use Rattle.std.proofs.Common.{sym, ◌∙◌, ap, subst, inl, inr, arith}
use Rattle.std.proofs.lemmas.List.{append-nil}
use Rattle.std.specs.List.{AllByRecursion, cons_option}
use Rattle.std.specs.Option.{option_map_or}
use Rattle.std.specs.FinMap.{get, insert}
use Rattle.op_ids.specs.declared.OpId.{OpId}
use Rattle.op_ids.specs.Order.{id_eq}
use Rattle.op_ids.proofs.OrderLaws.{id_eq-exact}
use Rattle.outside.specs.Faults.{raised}
use Rattle.outside.specs.Work.{Work}
use Rattle.model.specs.Held.{refers_wrongly, wrong_ids, wrong_references}
use Rattle.model.specs.Operation.{Operation, new_node, move_node, put_key, type_text, erase_text, add_item, shift_item, set_item, drop_item}
use Rattle.model.specs.State.{Place, State, Atom, after, apart, done, is_above, moved, named}
use Rattle.model_laws.specs.Arrival.{Contents, Rises}
use Rattle.model_laws.specs.Tree.{Places}
use Rattle.model_laws.proofs.ArrivalLaws.{all_done}
use Rattle.model_laws.proofs.ListLaws.{all_front}
use Rattle.model_laws.proofs.Presence.{AllRight, right_names}
use Rattle.model_laws.proofs.Tables.{both_true}
use Rattle.model_laws.proofs.TreeLaws.{get-inserted, true_or}
use Rattle.arrival_laws.proofs.DocumentLaws.{rises_back}
use Rattle.arrival_laws.proofs.ReferLaws.{after_right, apart_right, apart_single}
use Rattle.tree_log.specs.declared.moves.TreeMove.{TreeMove}
use Rattle.tree_log.specs.Moves as moves
use Rattle.tree_log.specs.Moves.{AllReferBack, Log, has_place, inserted, places_now}
use Rattle.tree_log.specs.Open.{is_child}
use Rattle.tree_log.specs.Steps.{move_by, moves_of}
use Rattle.doc_store.specs.Documents.{HasNoRow, IsFormed, Joins, all_late, parts_of}
use Rattle.doc_store.specs.Kept.{HavePositions, Kept, MayBeDone, state_of}
use Rattle.doc_store.specs.References.{HasMade, MakesNone}
use Rattle.doc_store.specs.declared.made.Made.{Made}
use Rattle.doc_store.proofs.DocumentLaws.{Comes, joins}
use Rattle.doc_store.proofs.JoinLaws.{HasRows, has_rows_after, may_be_done}
use Rattle.doc_store.proofs.MoveLaws.{fresh_among, moves_refer, one_more, positions_kept}
use Rattle.doc_store.proofs.FreshLaws.{unused_behind}
use Rattle.doc_store.proofs.ReferenceLaws.{some_moved}
use Rattle.doc_store.proofs.TypedLaws.{done_typed}
use Rattle.doc_store.proofs.WorkLaws.{all_late-append, first_more, nil_from_first, raised_most, raised_up}

-- Some operations were taken in: what is there is what is there after them, and with those that are left the document is what it is to be.
pub record Taking (start : Kept) (all : List Atom) (before : Work) (now : Kept) (place : ℕ) (work : Work) (left : List Atom) : Type 0 where
  pub at : ℕ
  pub state : State
  pub rows : HasRows now.contents state
  pub nodes : (q : OpId) → has_place (places_now now.log) q ≡ is_some (get state.nodes q)
  pub rest : wrong_references (state_of start) 0 all ≡ wrong_references state at left
  pub counted : place ≡ min at (2 ^ 32 - 1)
  pub formed : AllByRecursion IsFormed left
  pub rise : Rises (parts_of left)
  pub fresh : AllByRecursion (λ b. HasNoRow state b.id) (parts_of left)
  pub contents : all_late now.contents (parts_of left) ≡ all_late start.contents (parts_of all)
  pub base : now.log.base ≡ start.log.base
  pub moves : inserted now.log.moves (moves_of left) ≡ inserted start.log.moves (moves_of all)
  pub same : work.moves ≡ before.moves
  pub rose : before.decoded ≤ work.decoded
  pub bound : work.decoded + length left ≤ before.decoded + length all

pub taking_none : (start : Kept) (all : List Atom) (before : Work) → AllByRecursion IsFormed all → Rises (parts_of all) → AllByRecursion (λ b. HasNoRow (state_of start) b.id) (parts_of all) → Taking start all before start 0 before all
taking_none start all before formed rise fresh = record {
  at = 0;
  state = state_of start;
  rows = record { positions = refl; texts = refl; list_positions = refl; elements = λ k. refl };
  nodes = λ q. refl;
  rest = refl;
  counted = refl;
  formed = formed;
  rise = rise;
  fresh = fresh;
  contents = refl;
  base = refl;
  moves = refl;
  same = refl;
  rose = omega arith;
  bound = omega arith;
}

-- ---- one operation

-- what is there of the document is what is there of the state
pub knows : (now : Kept) (u : State) (made : Made) → MakesNone made → HasRows now.contents u → ((q : OpId) → has_place (places_now now.log) q ≡ is_some (get u.nodes q)) → HasMade (state_of now) made u
knows now u made none h n =
    let s = state_of now in
    let m = none s in
    record {
      nodes = λ q. sym (n q) ∙ m.nodes q;
      positions = λ o q. ap (λ t. is_some (get t (o, q))) (sym h.positions) ∙ m.positions o q;
      characters = λ o q. ap (λ t. is_some (get t (o, q))) (sym h.texts) ∙ m.characters o q;
      list_positions = λ o q. ap (λ t. is_some (get t (o, q))) (sym h.list_positions) ∙ m.list_positions o q;
      elements = λ o q. sym (h.elements (o, q)) ∙ m.elements o q;
    }

or_none : (b : Bool) → (b || false) ≡ b
or_none true = refl
or_none false = refl

or_one : (a b c : Bool) → c ≡ (a || b) → (a || (b || false)) ≡ c
or_one a b c e = ap (λ x. a || x) (or_none b) ∙ sym e

put_there : (m : Places) (child : OpId) (p : Place) (q : OpId) → is_some (get (insert m child p) q) ≡ (is_some (get m q) || id_eq q child)
put_there m child p q =
    ap is_some (get-inserted m child p q)
    ∙ elim (id_eq q child) as (λ b. is_some (cond b (Some p) (get m q)) ≡ (is_some (get m q) || b)) [ true ↦ sym (true_or (is_some (get m q))) | false ↦ sym (or_none (is_some (get m q))) ]

moved_there : (m : Places) (child : OpId) (p : Place) → is_some (get m child) ≡ true → (q : OpId) → is_some (get (moved m child p) q) ≡ (is_some (get m q) || id_eq q child)
moved_there m child p there q = some_moved m child p there q ∙ stays (id_eq q child) refl
  where
    stays : (b : Bool) → id_eq q child ≡ b → is_some (get m q) ≡ (is_some (get m q) || b)
    stays true e = ap (λ i. is_some (get m i)) (id_eq-exact q child e) ∙ there ∙ sym (true_or (is_some (get m q)))
    stays false e = sym (or_none (is_some (get m q)))

-- the nodes after it are those before it, and the child of its move
nodes_after_one : (u : State) (id : OpId) (o : Operation) → AllRight (named u o) id → (q : OpId) → (is_some (get u.nodes q) || is_child q (cons_option (move_by id o) [])) ≡ is_some (get (all_done u (apart id o)).nodes q)
nodes_after_one u id (new_node parent at) r q = or_one (is_some (get u.nodes q)) (id_eq q id) _ (put_there u.nodes id (record { parent = parent; position = id }) q)
nodes_after_one u id (move_node child parent at) r q =
    or_one (is_some (get u.nodes q)) (id_eq q child) _ (moved_there u.nodes child (record { parent = parent; position = id }) (both_true _ _ r.there).0 q)
nodes_after_one u id (type_text node at cs) r q = or_none _ ∙ ap (λ (v : State). is_some (get v.nodes q)) (sym (done_typed u node id at cs))
nodes_after_one u id (put_key node key value) r q = or_none _
nodes_after_one u id (erase_text node first count) r q = or_none _
nodes_after_one u id (add_item node at value) r q = or_none _
nodes_after_one u id (shift_item node element at) r q = or_none _
nodes_after_one u id (set_item node element value) r q = or_none _
nodes_after_one u id (drop_item node element) r q = or_none _

-- A log took moves in.
pub record Took (was now : Log) (ts : List TreeMove) : Type 0 where
  pub base : now.base ≡ was.base
  pub moves : now.moves ≡ inserted was.moves ts
  pub there : (q : OpId) → has_place (places_now now) q ≡ (has_place (places_now was) q || is_child q ts)

pub took_none : (log : Log) (o : Option TreeMove) → o ≡ None → Took log log (cons_option o [])
took_none log o e = subst (λ x. Took log log (cons_option x [])) (sym e) (record { base = refl; moves = refl; there = λ q. sym (or_none (has_place (places_now log) q)) })

pub took_one : (was now : Log) (o : Option TreeMove) (t : TreeMove) → o ≡ Some t → Took was now (t ∷ []) → Took was now (cons_option o [])
took_one was now o t e k = subst (λ x. Took was now (cons_option x [])) (sym e) k

-- the move's id is the operation's, which no row has
fresh_kind : (now : Kept) (u : State) (id : OpId) (o : Operation) (t : TreeMove) → HavePositions now.contents.positions now.log.moves → HasRows now.contents u → AllByRecursion (λ b. HasNoRow u b.id) (apart id o) → move_by id o ≡ Some t → moves.IsFresh now.log.moves t.id
fresh_kind now u id o t have rows fresh e = at o fresh e
  where
    at_id : HasNoRow u id → moves.IsFresh now.log.moves id
    at_id n = fresh_among now.contents.positions now.log.moves id have (λ owner. ap (λ m. get m (owner, id)) rows.positions ∙ n.positions owner)

    at : (o : Operation) → AllByRecursion (λ b. HasNoRow u b.id) (apart id o) → move_by id o ≡ Some t → moves.IsFresh now.log.moves t.id
    at (new_node parent a) f e = (let same : id ≡ t.id = ap (λ x. option_map_or (λ (y : TreeMove). y.id) x id) e in subst (moves.IsFresh now.log.moves) same (at_id f.0))
    at (move_node child parent a) f e = (let same : id ≡ t.id = ap (λ x. option_map_or (λ (y : TreeMove). y.id) x id) e in subst (moves.IsFresh now.log.moves) same (at_id f.0))
    at (put_key node key value) f e = absurd cc
    at (type_text node a cs) f e = absurd cc
    at (erase_text node first count) f e = absurd cc
    at (add_item node a value) f e = absurd cc
    at (shift_item node element a) f e = absurd cc
    at (set_item node element value) f e = absurd cc
    at (drop_item node element) f e = absurd cc

module _ (start : Kept) (all : List Atom) (before : Work) (now : Kept) (place : ℕ) (work : Work) (id : OpId) (o : Operation) (left : List Atom) (k : Taking start all before now place work (record { id = id; operation = o } ∷ left)) where
  abbrev parts : List Atom
  parts = apart id o

  pub known : (made : Made) → MakesNone made → HasMade (state_of now) made k.state
  known made none = knows now k.state made none k.rows k.nodes

  pub is_wrong : (wrong : OpId) → slice_get (wrong_ids k.state id o) 0 ≡ Some wrong → slice_get (wrong_references (state_of start) 0 all) 0 ≡ Some (refers_wrongly k.at wrong)
  is_wrong wrong e = ap (λ ms. slice_get ms 0) k.rest ∙ first_more k.at (wrong_ids k.state id o) wrong (wrong_references (after k.state parts) (suc k.at) left) e

  module _ (none : slice_get (wrong_ids k.state id o) 0 ≡ None) where
    right : AllRight (named k.state o) id
    right = right_names (named k.state o) id (nil_from_first (wrong_ids k.state id o) none)

    fresh_parts : AllByRecursion (λ b. HasNoRow k.state b.id) parts
    fresh_parts = all_front (λ b. HasNoRow k.state b.id) parts (parts_of left) k.fresh

    pub may : MayBeDone now.contents id o
    may = may_be_done k.state now.contents id o k.rows k.formed.0 right fresh_parts

    pub move_fresh : (t : TreeMove) → HavePositions now.contents.positions now.log.moves → move_by id o ≡ Some t → moves.IsFresh now.log.moves t.id
    move_fresh t have e = fresh_kind now k.state id o t have k.rows fresh_parts e

    pub move_refers : (t : TreeMove) → move_by id o ≡ Some t → AllReferBack (has_place (places_now now.log)) (t ∷ [])
    move_refers t e =
        subst (λ x. AllReferBack (has_place (places_now now.log)) (cons_option x [])) e
        (moves_refer (record { id = id; operation = o } ∷ []) (k.formed.0, tt) k.state (has_place (places_now now.log)) (λ q h. k.nodes q ∙ h) (right, tt))

    module _ (next : Kept) (rows : next.contents ≡ all_late now.contents parts) (took : Took now.log next.log (cons_option (move_by id o) [])) where
      pub positions : HavePositions now.contents.positions now.log.moves → HavePositions next.contents.positions next.log.moves
      positions have =
          let one : parts_of (record { id = id; operation = o } ∷ []) ≡ parts = append-nil parts in
          let kept = positions_kept now.contents now.log.moves (record { id = id; operation = o } ∷ []) have in
          let there = subst (λ ps. HavePositions (all_late now.contents ps).positions (inserted now.log.moves (cons_option (move_by id o) []))) one kept in
          subst (HavePositions next.contents.positions) (sym took.moves)
          (subst (λ (c : Contents). HavePositions c.positions (inserted now.log.moves (cons_option (move_by id o) []))) (sym rows) there)

      pub taking_next : (next_place : ℕ) → next_place ≡ min (place + 1) (2 ^ 32 - 1) → Taking start all before next next_place (record work { decoded = raised work.decoded }) left
      taking_next next_place count =
          let u = k.state in
          let v = after u parts in
          let same : v ≡ all_done u parts = after_right u parts (apart_right u id o right) in
          let up = raised_up work.decoded in
          let most = raised_most work.decoded in
          let was = k.counted in
          let nil : wrong_ids u id o ≡ [] = nil_from_first (wrong_ids u id o) none in
          record {
            at = suc k.at;
            state = v;
            rows = subst (HasRows next.contents) (sym same) (subst (λ c. HasRows c (all_done u parts)) (sym rows) (has_rows_after now.contents u parts k.rows));
            nodes = λ q. took.there q ∙ ap (λ b. b || is_child q (cons_option (move_by id o) [])) (k.nodes q) ∙ nodes_after_one u id o right q ∙ ap (λ (w : State). is_some (get w.nodes q)) (sym same);
            rest = k.rest ∙ ap (λ ids. map (refers_wrongly k.at) ids ++ wrong_references v (suc k.at) left) nil;
            counted = omega (arith, count, was);
            formed = k.formed.1;
            rise = rises_back parts (parts_of left) k.rise;
            fresh = subst (λ w. AllByRecursion (λ b. HasNoRow w b.id) (parts_of left)) (sym same) (unused_behind u parts (parts_of left) (apart_right u id o right) (apart_single id o) k.rise k.fresh);
            contents = ap (λ c. all_late c (parts_of left)) rows ∙ sym (all_late-append now.contents parts (parts_of left)) ∙ k.contents;
            base = took.base ∙ k.base;
            moves = ap (λ ts. inserted ts (moves_of left)) took.moves ∙ one_more now.log.moves (record { id = id; operation = o }) left ∙ k.moves;
            same = k.same;
            rose = omega (arith, up, k.rose);
            bound = omega (arith, most, k.bound);
          }

-- ---- all of them

-- Where none is left none was wrong, and the document is what it is to be.
pub all_taken : (start : Kept) (all : List Atom) (before : Work) (now : Kept) (place : ℕ) (work : Work) → Taking start all before now place work [] → AllByRecursion IsFormed all → Rises (parts_of all) → AllByRecursion (λ b. HasNoRow (state_of start) b.id) (parts_of all)
    → (wrong_references (state_of start) 0 all ≡ []) × Joins start all now
all_taken start all before now place work k formed rise fresh =
    (k.rest, joins start now all (record { formed = formed; refer = k.rest; rise = rise; fresh = fresh }) k.contents k.base k.moves)
