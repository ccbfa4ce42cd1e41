-- The model's node steps are moves.
use Rattle.std.specs.Prelude.{◌≡◌, Bool, true, false, cond, Some, None, List, [], ◌∷◌, ◌++◌, fold, filter, refl}
use Rattle.std.specs.List.{AllByRecursion, cons_option}
use Rattle.std.proofs.Common.{sym, ◌∙◌, ap, inl, inr, subst}
use Rattle.std.specs.FinMap.{insert, len}
use Rattle.std.proofs.lemmas.List.Elements.{filter_map-append}
use Rattle.op_ids.specs.declared.OpId.{OpId}
use Rattle.op_ids.specs.Order.{id_lt}
use Rattle.op_ids.proofs.OrderLaws.{lt_trans, lt_not_back}
use Rattle.model_laws.specs.Arrival.{atom_before, Rises, IsFresh}
use Rattle.model_laws.proofs.ListLaws.{filter_all, filter_none}
use Rattle.model.specs.Operation.{Operation, new_node, move_node, put_key, type_text, erase_text, add_item, shift_item, set_item, drop_item}
use Rattle.model.specs.State.{Atom, node_step, is_above}
use Rattle.model_laws.specs.Tree.{Places, IsTree}
use Rattle.model_laws.proofs.TreeLaws.{bool_cases, above_known}
use Rattle.tree_log.specs.declared.moves.TreeMove.{TreeMove}
use Rattle.tree_log.specs.Log.{AreMovesIn, IsMoveIn}
use Rattle.tree_log.specs.Moves.{inserted, after_moves, after_move, place_by, has_place}
use Rattle.tree_log.specs.Steps.{move_by, moves_of, AreNew, NodeStepsAreMoves, MovesArrive}
use Rattle.tree_log.proofs.LogLaws.{after_move_tree, fits_rest, lt_other}

-- a new node is above nothing
new_below : (m : Places) → IsTree m → (t : TreeMove) → IsMoveIn (has_place m) t → has_place m t.child ≡ false → is_above m t.child t.parent ≡ false
new_below m k t f new =
    elim (bool_cases (is_above m t.child t.parent)) as (λ _. is_above m t.child t.parent ≡ false) [
      | inl e ↦
          (let above = above_known m k (len m) t.child t.parent f.parent e in
          let node : has_place m t.child ≡ true = rw f.below at above in
          let c : true ≡ false = sym node ∙ new in
          cc)
      | inr e ↦ e
    ]

new_done : (m : Places) → IsTree m → (t : TreeMove) → IsMoveIn (has_place m) t → has_place m t.child ≡ false → insert m t.child (place_by t) ≡ after_move m t
new_done m k t f new = rw (new_below m k t f new) refl

kinds : (m : Places) (id : OpId) (o : Operation) (atoms : List Atom)
    → ((n : Places) → IsTree n → AreMovesIn (has_place n) (moves_of atoms) → AreNew n atoms → fold (λ nodes a. node_step nodes a.id a.operation) n atoms ≡ after_moves n (moves_of atoms))
    → IsTree m → AreMovesIn (has_place m) (moves_of (record { id = id; operation = o } ∷ atoms)) → AreNew m (record { id = id; operation = o } ∷ atoms)
    → fold (λ nodes a. node_step nodes a.id a.operation) (node_step m id o) atoms ≡ after_moves m (moves_of (record { id = id; operation = o } ∷ atoms))
kinds m id (new_node parent at) atoms more k f n =
    let t : TreeMove = record { id = id; child = id; parent = parent } in
    let e : insert m id (record { parent = parent; position = id }) ≡ after_move m t = new_done m k t f.0 n.0 in
    ap (λ x. fold (λ nodes (a : Atom). node_step nodes a.id a.operation) x atoms) e
    ∙ more (after_move m t) (after_move_tree m t k f.0) (fits_rest m t (moves_of atoms) k f) (subst (λ x. AreNew x atoms) e n.1)
kinds m id (move_node child parent at) atoms more k f n =
    let t : TreeMove = record { id = id; child = child; parent = parent } in
    more (after_move m t) (after_move_tree m t k f.0) (fits_rest m t (moves_of atoms) k f) n.1
kinds m id (put_key node key value) atoms more k f n = more m k f n.1
kinds m id (type_text node at characters) atoms more k f n = more m k f n.1
kinds m id (erase_text node first count) atoms more k f n = more m k f n.1
kinds m id (add_item node at value) atoms more k f n = more m k f n.1
kinds m id (shift_item node element at) atoms more k f n = more m k f n.1
kinds m id (set_item node element value) atoms more k f n = more m k f n.1
kinds m id (drop_item node element) atoms more k f n = more m k f n.1

pub node_steps_are_moves : NodeStepsAreMoves
node_steps_are_moves m [] k f n = refl
node_steps_are_moves m (a ∷ atoms) k f n = kinds m a.id a.operation atoms (λ x. node_steps_are_moves x atoms) k f n

-- ---- an operation that comes late

id_kept : (id : OpId) (o : Operation) (t : TreeMove) → move_by id o ≡ Some t → t.id ≡ id
id_kept id (new_node parent at) t e = let k : record { id = id; child = id; parent = parent } ≡ t = cc in sym (ap (λ (u : TreeMove). u.id) k)
id_kept id (move_node child parent at) t e = let k : record { id = id; child = child; parent = parent } ≡ t = cc in sym (ap (λ (u : TreeMove). u.id) k)
id_kept id (put_key node key value) t e = cc
id_kept id (type_text node at characters) t e = cc
id_kept id (erase_text node first count) t e = cc
id_kept id (add_item node at value) t e = cc
id_kept id (shift_item node element at) t e = cc
id_kept id (set_item node element value) t e = cc
id_kept id (drop_item node element) t e = cc

-- the moves of the operations that pass a test of their ids
moves-filter : (P : OpId → Bool) (list : List Atom) → moves_of (filter (λ a. P a.id) list) ≡ filter (λ t. P t.id) (moves_of list)
moves-filter P [] = refl
moves-filter P (a ∷ list) =
    elim (move_by a.id a.operation) as (λ o. move_by a.id a.operation ≡ o → moves_of (filter (λ b. P b.id) (a ∷ list)) ≡ filter (λ t. P t.id) (cons_option o (moves_of list))) [
      | None ↦ λ e.
          elim (P a.id) as (λ b. moves_of (cond b (a ∷ filter (λ c. P c.id) list) (filter (λ c. P c.id) list)) ≡ filter (λ t. P t.id) (moves_of list)) [
            | true ↦ rw e (moves-filter P list)
            | false ↦ moves-filter P list
          ]
      | Some t ↦ λ e.
          let same : P t.id ≡ P a.id = ap P (id_kept a.id a.operation t e) in
          rw same
          (elim (P a.id) as (λ b. moves_of (cond b (a ∷ filter (λ c. P c.id) list) (filter (λ c. P c.id) list)) ≡ cond b (t ∷ filter (λ u. P u.id) (moves_of list)) (filter (λ u. P u.id) (moves_of list))) [
            | true ↦ rw e (ap (λ us. t ∷ us) (moves-filter P list))
            | false ↦ moves-filter P list
          ])
    ] refl

all_apart : (i : OpId) (a : Atom) (list : List Atom) → id_lt i a.id ≡ true → AllByRecursion (λ b. atom_before a b ≡ true) list → AllByRecursion (λ b. id_lt b.id i ≡ false) list × AllByRecursion (λ b. id_lt i b.id ≡ true) list
all_apart i a [] l r = (tt, tt)
all_apart i a (b ∷ list) l r =
    let up = lt_trans i a.id b.id l r.0 in
    let rest = all_apart i a list l r.1 in
    ((lt_not_back i b.id up, rest.0), (up, rest.1))

-- a rising list is what comes before an id that is not there, and what comes after it
split_list : (i : OpId) (list : List Atom) → Rises list → IsFresh list i → filter (λ a. id_lt a.id i) list ++ filter (λ a. id_lt i a.id) list ≡ list
split_list i [] r f = refl
split_list i (a ∷ list) r f =
    elim (id_lt a.id i) as (λ b. id_lt a.id i ≡ b → filter (λ c. id_lt c.id i) (a ∷ list) ++ filter (λ c. id_lt i c.id) (a ∷ list) ≡ a ∷ list) [
      | true ↦ λ e. let n = lt_not_back a.id i e in rw (e, n) (ap (λ bs. a ∷ bs) (split_list i list r.1 f.1))
      | false ↦ λ e.
          let l = lt_other a.id i e f.0 in
          let rest = all_apart i a list l r.0 in
          rw (e, l, filter_none (λ c. id_lt c.id i) list rest.0, filter_all (λ c. id_lt i c.id) list rest.1) refl
    ] refl

moves-append : (xs ys : List Atom) → moves_of (xs ++ ys) ≡ moves_of xs ++ moves_of ys
moves-append xs ys = filter_map-append (λ a. move_by a.id a.operation) xs ys

pub moves_arrive : MovesArrive
moves_arrive list x r f =
    let early = filter (λ a. id_lt a.id x.id) list in
    let late = filter (λ a. id_lt x.id a.id) list in
    moves-append early (x ∷ late)
    ∙ elim (move_by x.id x.operation) as (λ o. move_by x.id x.operation ≡ o → moves_of early ++ cons_option o (moves_of late) ≡ inserted (moves_of list) (cons_option o [])) [
      | None ↦ λ e. sym (moves-append early late) ∙ ap moves_of (split_list x.id list r f)
      | Some t ↦ λ e.
          let s = id_kept x.id x.operation t e in
          rw (moves-filter (λ i. id_lt i x.id) list, moves-filter (λ i. id_lt x.id i) list)
          (ap (λ i. filter (λ (u : TreeMove). id_lt u.id i) (moves_of list) ++ t ∷ filter (λ (u : TreeMove). id_lt i u.id) (moves_of list)) (sym s))
    ] refl
