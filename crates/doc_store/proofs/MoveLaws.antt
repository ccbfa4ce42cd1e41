-- The moves of operations.
use Rattle.std.specs.Prelude.{◌≡◌, ◌≤◌, Bool, true, false, ◌||◌, cond, Option, Some, None, is_some, ℕ, List, [], ◌∷◌, ◌++◌, refl, ◌⊎◌}
use Rattle.std.proofs.Common.{sym, ◌∙◌, ap, subst, inl, inr}
use Rattle.std.proofs.lemmas.List.Elements.{filter_map-append}
use Rattle.std.specs.List.{AllByRecursion, cons_option}
use Rattle.std.specs.FinMap.{get, insert}
use Rattle.op_ids.specs.declared.OpId.{OpId}
use Rattle.op_ids.specs.Order.{id_eq, id_lt}
use Rattle.op_ids.proofs.OrderLaws.{same_or_apart, lt_itself}
use Rattle.model.specs.Operation.{Anchor, Operation, new_node, move_node, put_key, type_text, erase_text, add_item, shift_item, set_item, drop_item}
use Rattle.model.specs.State.{State, Atom, Place, is_fixed, is_above, moved, has_node, named, apart, characters_apart, right_of, done}
use Rattle.op_ids.specs.Order.{id_plus}
use Rattle.model.specs.Change.{placed}
use Rattle.model_laws.specs.Arrival.{AreBelow, ComeInTurn, Contents, IsMadeOf, atom_before, late, all_placed, Rises}
use Rattle.model_laws.specs.Tree.{IsTree, Places}
use Rattle.model_laws.proofs.ArrivalLaws.{Good, GoodAlong, all_done, any_order, done_one, step_done}
use Rattle.model_laws.proofs.ListLaws.{all_append, all_more}
use Rattle.model_laws.proofs.NodeLaws.{keeps_tree}
use Rattle.model_laws.proofs.Presence.{AllRight, position_stays, is_new}
use Rattle.model_laws.proofs.Tables.{bool_cases, both_true, is_none}
use Rattle.model_laws.proofs.TreeLaws.{or_cases, get-inserted, true_or}
use Rattle.arrival_laws.proofs.AddLaws.{all_kept}
use Rattle.arrival_laws.proofs.ReferLaws.{WholeRight}
use Rattle.tree_log.specs.declared.moves.TreeMove.{TreeMove}
use Rattle.tree_log.specs.Log.{AreMovesIn}
use Rattle.tree_log.specs.Moves as moves
use Rattle.tree_log.specs.Moves.{AllReferBack, RefersBack, has_place, inserted, move_before, with_child}
use Rattle.tree_log.specs.Steps.{AreNew, IsNewIn, move_by, moves_of}
use Rattle.tree_log.proofs.StepLaws.{moves_arrive}
use Rattle.fugue_tree.specs.Trees.{Table}
use Rattle.doc_store.specs.Kept.{HavePositions}
use Rattle.doc_store.specs.Documents.{IsFormed, all_late, parts_of}
use Rattle.doc_store.proofs.JoinLaws.{other_not_fixed, own_not_fixed}
use Rattle.doc_store.proofs.TypedLaws.{done_typed}

-- ---- the same of the parts

no_moves : (node id : OpId) (at : Anchor) (cs : List ℕ) → moves_of (characters_apart node id at cs) ≡ []
no_moves node id at [] = refl
no_moves node id at (c ∷ cs) = no_moves node (id_plus id 1) (right_of id) cs

part_moves : (id : OpId) (o : Operation) → moves_of (apart id o) ≡ cons_option (move_by id o) []
part_moves id (type_text node at cs) = no_moves node id at cs
part_moves id (new_node parent at) = refl
part_moves id (move_node child parent at) = refl
part_moves id (put_key node key value) = refl
part_moves id (erase_text node first count) = refl
part_moves id (add_item node at value) = refl
part_moves id (shift_item node element at) = refl
part_moves id (set_item node element value) = refl
part_moves id (drop_item node element) = refl

cons_two : (o : Option TreeMove) (ts : List TreeMove) → cons_option o [] ++ ts ≡ cons_option o ts
cons_two None ts = refl
cons_two (Some t) ts = refl

pub moves_of-parts : (ops : List Atom) → moves_of (parts_of ops) ≡ moves_of ops
moves_of-parts [] = refl
moves_of-parts (a ∷ ops) =
    filter_map-append (λ (b : Atom). move_by b.id b.operation) (apart a.id a.operation) (parts_of ops) ∙ ap (λ ts. ts ++ moves_of (parts_of ops)) (part_moves a.id a.operation) ∙ cons_two (move_by a.id a.operation) (moves_of (parts_of ops))
    ∙ ap (cons_option (move_by a.id a.operation)) (moves_of-parts ops)

-- ---- the ids of moves

id_kind : (P : OpId → Type 0) (id : OpId) (o : Operation) (ts : List TreeMove) → P id → AllByRecursion (λ t. P t.id) ts → AllByRecursion (λ t. P t.id) (cons_option (move_by id o) ts)
id_kind P id (new_node parent at) ts k h = (k, h)
id_kind P id (move_node child parent at) ts k h = (k, h)
id_kind P id _ ts k h = h

all_ids : (P : OpId → Type 0) (list : List Atom) → AllByRecursion (λ b. P b.id) list → AllByRecursion (λ t. P t.id) (moves_of list)
all_ids P [] h = tt
all_ids P (a ∷ list) h = id_kind P a.id a.operation (moves_of list) h.0 (all_ids P list h.1)

rise_kind : (id : OpId) (o : Operation) (ts : List TreeMove) → AllByRecursion (λ t. id_lt id t.id ≡ true) ts → moves.Rises ts → moves.Rises (cons_option (move_by id o) ts)
rise_kind id (new_node parent at) ts l r = (l, r)
rise_kind id (move_node child parent at) ts l r = (l, r)
rise_kind id _ ts l r = r

rises : (list : List Atom) → Rises list → moves.Rises (moves_of list)
rises [] r = tt
rises (a ∷ list) r = rise_kind a.id a.operation (moves_of list) (all_ids (λ i. id_lt a.id i ≡ true) list r.0) (rises list r.1)

pub moves_rise : (ops : List Atom) → Rises (parts_of ops) → moves.Rises (moves_of ops)
moves_rise ops r = subst moves.Rises (moves_of-parts ops) (rises (parts_of ops) r)

pub fresh_among : (m : Table) (held : List TreeMove) (id : OpId) → HavePositions m held → ((owner : OpId) → get m (owner, id) ≡ None) → moves.IsFresh held id
fresh_among m [] id h u = tt
fresh_among m (t ∷ held) id h u = (
  elim (same_or_apart t.id id) as (λ _. id_eq t.id id ≡ false) [
    | inl e ↦ (let no : true ≡ false = sym h.0 ∙ ap (λ i. is_some (get m (t.parent, i))) e ∙ ap is_some (u t.parent) in absurd (let d : true ≡ false = no in cc))
    | inr ne ↦ ne
  ],
  fresh_among m held id h.1 u,
)

pub moves_fresh : (m : Table) (held : List TreeMove) (ops : List Atom) → HavePositions m held → AllByRecursion (λ b. (owner : OpId) → get m (owner, b.id) ≡ None) (parts_of ops) → AllByRecursion (λ t. moves.IsFresh held t.id) (moves_of ops)
moves_fresh m held ops h u =
    subst (AllByRecursion (λ t. moves.IsFresh held t.id)) (moves_of-parts ops)
    (all_ids (moves.IsFresh held) (parts_of ops) (all_more (λ b. (owner : OpId) → get m (owner, b.id) ≡ None) (λ b. moves.IsFresh held b.id) (λ b k. fresh_among m held b.id h k) (parts_of ops) u))

-- ---- they refer back

abbrev pub AreThere : Places → (OpId → Bool) → Type 0
AreThere m nodes = (q : OpId) → is_some (get m q) ≡ true → nodes q ≡ true

more_there : (m : Places) (nodes : OpId → Bool) (child : OpId) (p : Place) → AreThere m nodes → AreThere (insert m child p) (with_child nodes child)
more_there m nodes child p k q h = at (id_eq q child) (sym (ap is_some (get-inserted m child p q)) ∙ h)
  where
    at : (b : Bool) → is_some (cond b (Some p) (get m q)) ≡ true → (nodes q || b) ≡ true
    at true e = true_or (nodes q)
    at false e = (let n : nodes q ≡ true = k q e in rw n refl)

still_there : (m : Places) (nodes : OpId → Bool) (child : OpId) → AreThere m nodes → AreThere m (with_child nodes child)
still_there m nodes child k q h = (let n : nodes q ≡ true = k q h in rw n refl)

moved_there : (m : Places) (nodes : OpId → Bool) (child : OpId) (p : Place) → AreThere m nodes → AreThere (moved m child p) (with_child nodes child)
moved_there m nodes child p k =
    elim (is_above m child p.parent) as (λ b. AreThere (cond b m (insert m child p)) (with_child nodes child)) [ true ↦ still_there m nodes child k | false ↦ more_there m nodes child p k ]

fixed_or_there : (u : State) (nodes : OpId → Bool) (id : OpId) → AreThere u.nodes nodes → has_node u id ≡ true → (is_fixed id ≡ true) ⊎ (nodes id ≡ true)
fixed_or_there u nodes id k h = elim (or_cases (is_fixed id) _ h) as (λ _. (is_fixed id ≡ true) ⊎ (nodes id ≡ true)) [ inl e ↦ inl e | inr e ↦ inr (k id e) ]

refers : (nodes : OpId → Bool) (parent id : OpId) → (is_fixed parent ≡ true) ⊎ (nodes parent ≡ true) → id_lt parent id ≡ true → (is_fixed parent ≡ true) ⊎ ((nodes parent ≡ true) × (id_lt parent id ≡ true))
refers nodes parent id (inl e) l = inl e
refers nodes parent id (inr e) l = inr (e, l)

abbrev NextRefers : List Atom → Type 0
NextRefers ops = (u : State) (nodes : OpId → Bool) → AreThere u.nodes nodes → WholeRight u ops → AllReferBack nodes (moves_of ops)

refer_kind : (u : State) (nodes : OpId → Bool) (ops : List Atom) → NextRefers ops → AreThere u.nodes nodes → (id : OpId) (o : Operation) → IsFormed (record { id = id; operation = o }) → AllRight (named u o) id → WholeRight (all_done u (apart id o)) ops
    → AllReferBack nodes (cons_option (move_by id o) (moves_of ops))
refer_kind u nodes ops next k id (new_node parent at) g h more = (
  record { parent = refers nodes parent id (fixed_or_there u nodes parent k (both_true _ _ h.there).0) h.smaller.0; child = inl refl; below = own_not_fixed id g.ids.0.some },
  next (done id (new_node parent at) u) (with_child nodes id) (more_there u.nodes nodes id (record { parent = parent; position = id }) k) more,
)
refer_kind u nodes ops next k id (move_node child parent at) g h more =
    let there = both_true _ _ h.there in (
      record {
        parent = refers nodes parent id (fixed_or_there u nodes parent k (both_true _ _ there.1).0) h.smaller.1.0;
        child = inr (k child there.0, h.smaller.0);
        below = other_not_fixed child g.operation.1 g.operation.2;
      },
      next (done id (move_node child parent at) u) (with_child nodes child) (moved_there u.nodes nodes child (record { parent = parent; position = id }) k) more,
    )
refer_kind u nodes ops next k id (put_key node key value) g h more = next (done id (put_key node key value) u) nodes k more
refer_kind u nodes ops next k id (type_text node at characters) g h more =
    next (all_done u (characters_apart node id at characters)) nodes (subst (λ (v : State). AreThere v.nodes nodes) (sym (done_typed u node id at characters)) k) more
refer_kind u nodes ops next k id (erase_text node first count) g h more = next (done id (erase_text node first count) u) nodes k more
refer_kind u nodes ops next k id (add_item node at value) g h more = next (done id (add_item node at value) u) nodes k more
refer_kind u nodes ops next k id (shift_item node element at) g h more = next (done id (shift_item node element at) u) nodes k more
refer_kind u nodes ops next k id (set_item node element value) g h more = next (done id (set_item node element value) u) nodes k more
refer_kind u nodes ops next k id (drop_item node element) g h more = next (done id (drop_item node element) u) nodes k more

pub moves_refer : (ops : List Atom) → AllByRecursion IsFormed ops → NextRefers ops
moves_refer [] f u nodes k r = tt
moves_refer (a ∷ ops) f u nodes k r = refer_kind u nodes ops (moves_refer ops f.1) k a.id a.operation f.0 r.0 r.1

-- ---- operations of a document

pub not_there : (u : State) (id : OpId) → AreBelow u id → is_some (get u.nodes id) ≡ false
not_there u id b =
    elim (bool_cases (is_some (get u.nodes id))) as (λ _. is_some (get u.nodes id) ≡ false) [
      | inl e ↦ (let no : true ≡ false = sym (b.nodes id e) ∙ lt_itself id in absurd (let d : true ≡ false = no in cc))
      | inr e ↦ e
    ]

tree_next : (u : State) (a : Atom) → IsTree u.nodes → Good u a → 1 ≤ a.id.time → IsTree (done_one u a).nodes
tree_next u a t g o = subst (λ v. IsTree v.nodes) (step_done u a g.names) (keeps_tree u (a ∷ []) t (tt, tt) ((is_none (get u.nodes a.id) (not_there u a.id g.below), own_not_fixed a.id o), tt))

or_from : (a b : Bool) → (a ≡ true) ⊎ (b ≡ true) → (a || b) ≡ true
or_from a b (inl e) = rw e refl
or_from a b (inr e) = ap (λ x. a || x) e ∙ true_or a

abbrev NextMoves : List Atom → Type 0
NextMoves list = (u : State) (nodes : OpId → Bool) → AreThere u.nodes nodes → IsTree u.nodes → GoodAlong u list → AreMovesIn nodes (moves_of list)

move_kind : (u : State) (nodes : OpId → Bool) (list : List Atom) → NextMoves list → AreThere u.nodes nodes → IsTree u.nodes → (id : OpId) (o : Operation) → Good u (record { id = id; operation = o }) → IsTree (done id o u).nodes → GoodAlong (done id o u) list → 1 ≤ id.time
    → AreMovesIn nodes (cons_option (move_by id o) (moves_of list))
move_kind u nodes list next k t id (new_node parent at) h w more own = (
  record { parent = or_from (is_fixed parent) (nodes parent) (fixed_or_there u nodes parent k (both_true _ _ h.names).0); child = inl refl; below = own_not_fixed id own },
  next (done id (new_node parent at) u) (with_child nodes id) (more_there u.nodes nodes id (record { parent = parent; position = id }) k) w more,
)
move_kind u nodes list next k t id (move_node child parent at) h w more own =
    let there = both_true _ _ h.names in
    let below : is_fixed child ≡ false =
    elim (bool_cases (is_fixed child)) as (λ _. is_fixed child ≡ false) [ inl e ↦ (let no : true ≡ false = sym there.0 ∙ ap is_some (t.tops child e) in absurd (let d : true ≡ false = no in cc)) | inr e ↦ e ] in (
      record {
        parent = or_from (is_fixed parent) (nodes parent) (fixed_or_there u nodes parent k (both_true _ _ there.1).0);
        child = inr (k child there.0);
        below = below;
      },
      next (done id (move_node child parent at) u) (with_child nodes child) (moved_there u.nodes nodes child (record { parent = parent; position = id }) k) w more,
    )
move_kind u nodes list next k t id (put_key node key value) h w more own = next (done id (put_key node key value) u) nodes k w more
move_kind u nodes list next k t id (type_text node at characters) h w more own = next (done id (type_text node at characters) u) nodes k w more
move_kind u nodes list next k t id (erase_text node first count) h w more own = next (done id (erase_text node first count) u) nodes k w more
move_kind u nodes list next k t id (add_item node at value) h w more own = next (done id (add_item node at value) u) nodes k w more
move_kind u nodes list next k t id (shift_item node element at) h w more own = next (done id (shift_item node element at) u) nodes k w more
move_kind u nodes list next k t id (set_item node element value) h w more own = next (done id (set_item node element value) u) nodes k w more
move_kind u nodes list next k t id (drop_item node element) h w more own = next (done id (drop_item node element) u) nodes k w more

pub moves_in : (list : List Atom) → AllByRecursion (λ a. 1 ≤ a.id.time) list → NextMoves list
moves_in [] o u nodes k t g = tt
moves_in (a ∷ list) o u nodes k t g = move_kind u nodes list (moves_in list o.1) k t a.id a.operation g.0 (tree_next u a t g.0 o.0) g.1 o.0

new_kind : (u : State) (id : OpId) (o : Operation) → AreBelow u id → IsNewIn u.nodes id o
new_kind u id (new_node parent at) b = not_there u id b
new_kind u id _ b = tt

pub nodes_new : (u : State) (list : List Atom) → GoodAlong u list → AreNew u.nodes list
nodes_new u [] g = tt
nodes_new u (a ∷ list) g = (new_kind u a.id a.operation g.0.below, nodes_new (done_one u a) list g.1)

-- ---- in their places

pub one_more : (ts : List TreeMove) (x : Atom) (xs : List Atom) → inserted (inserted ts (moves_of (x ∷ []))) (moves_of xs) ≡ inserted ts (moves_of (x ∷ xs))
one_more ts x xs =
    elim (move_by x.id x.operation) as (λ o. inserted (inserted ts (cons_option o [])) (moves_of xs) ≡ inserted ts (cons_option o (moves_of xs))) [ None ↦ refl | Some t ↦ refl ]

pub moves_placed : (s : State) (list xs : List Atom) → IsMadeOf s list → ComeInTurn s list xs → moves_of (all_placed xs list) ≡ inserted (moves_of list) (moves_of xs)
moves_placed s list [] m c = refl
moves_placed s list (x ∷ xs) m c =
    moves_placed s (placed atom_before x list) xs (any_order s list x m c.0).made_of c.1
    ∙ ap (λ ts. inserted ts (moves_of xs)) (moves_arrive list x m.rises c.0.fresh) ∙ one_more (moves_of list) x xs

pub all_in_place : (P : Atom → Type 0) (xs list : List Atom) → AllByRecursion P list → AllByRecursion P xs → AllByRecursion P (all_placed xs list)
all_in_place P [] list h k = h
all_in_place P (x ∷ xs) list h k =
    all_in_place P xs (placed atom_before x list)
    (all_append P _ _ (all_kept P (λ y. atom_before y x) list h) (k.0, all_kept P (λ y. atom_before x y) list h)) k.1

-- ---- their positions

pub late_stays : (c : Contents) (list : List Atom) (k : OpId × OpId) → is_some (get c.positions k) ≡ true → is_some (get (all_late c list).positions k) ≡ true
late_stays c [] k h = h
late_stays c (a ∷ list) k h = late_stays (late c a) list k (position_stays c.positions a.id a.operation k h)

position_kind : (c : Contents) (id : OpId) (o : Operation) (list : List Atom) → HavePositions (all_late (late c (record { id = id; operation = o })) list).positions (moves_of list)
    → HavePositions (all_late (late c (record { id = id; operation = o })) list).positions (cons_option (move_by id o) (moves_of list))
position_kind c id (new_node parent at) list h = (late_stays (late c (record { id = id; operation = new_node parent at })) list (parent, id) (is_new c.positions (parent, id) (parent, id) at refl), h)
position_kind c id (move_node child parent at) list h = (late_stays (late c (record { id = id; operation = move_node child parent at })) list (parent, id) (is_new c.positions (parent, id) (parent, id) at refl), h)
position_kind c id (put_key node key value) list h = h
position_kind c id (type_text node at characters) list h = h
position_kind c id (erase_text node first count) list h = h
position_kind c id (add_item node at value) list h = h
position_kind c id (shift_item node element at) list h = h
position_kind c id (set_item node element value) list h = h
position_kind c id (drop_item node element) list h = h

made_there : (c : Contents) (list : List Atom) → HavePositions (all_late c list).positions (moves_of list)
made_there c [] = tt
made_there c (a ∷ list) = position_kind c a.id a.operation list (made_there (late c a) list)

all_inserted : (P : TreeMove → Type 0) (ts xs : List TreeMove) → AllByRecursion P ts → AllByRecursion P xs → AllByRecursion P (inserted ts xs)
all_inserted P ts [] h k = h
all_inserted P ts (x ∷ xs) h k =
    all_inserted P (placed move_before x ts) xs (all_append P _ _ (all_kept P (λ y. move_before y x) ts h) (k.0, all_kept P (λ y. move_before x y) ts h)) k.1

-- each move that is held has its position when new ones are there with theirs
pub positions_kept : (c : Contents) (held : List TreeMove) (ops : List Atom) → HavePositions c.positions held → HavePositions (all_late c (parts_of ops)).positions (inserted held (moves_of ops))
positions_kept c held ops h =
    let now = (all_late c (parts_of ops)).positions in
    all_inserted (λ t. is_some (get now (t.parent, t.id)) ≡ true) held (moves_of ops)
    (all_more (λ t. is_some (get c.positions (t.parent, t.id)) ≡ true) (λ t. is_some (get now (t.parent, t.id)) ≡ true) (λ t k. late_stays c (parts_of ops) (t.parent, t.id) k) held h)
    (subst (HavePositions now) (moves_of-parts ops) (made_there c (parts_of ops)))
