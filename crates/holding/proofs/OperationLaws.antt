-- The operations of a change that may come to a document: their form, their ids, and the first that refers wrongly.
use Rattle.std.proofs.Common.{◌≡◌, ℕ, suc, ◌+◌, ◌^◌, ◌<◌, ◌≤◌, Bool, true, false, cond, List, [], ◌∷◌, ◌++◌, length, map, refl, sym, ap, subst, ◌∙◌, arith, inl, inr}
use Rattle.std.specs.Prelude.{Some, filter, slice_get, sum_by}
use Rattle.std.specs.List.{AllByRecursion}
use Rattle.std.proofs.lemmas.List.{append-nil}
use Rattle.std.proofs.lemmas.List.Sums.{sum_by-cons}
use Rattle.op_ids.specs.declared.OpId.{OpId}
use Rattle.op_ids.specs.declared.Stamp.{Stamp}
use Rattle.op_ids.specs.Order.{id_eq, id_lt}
use Rattle.op_ids.proofs.OrderLaws.{apart_from_id_eq, lt_cases}
use Rattle.model.specs.Change.{Change, IsChange, placed}
use Rattle.model.specs.Value.{IsOpId}
use Rattle.model.specs.Held.{Misfit, refers_wrongly, wrong_ids, wrong_references}
use Rattle.model.specs.Operation.{Anchor, IsAnchor, Operation, IsOperation, new_node, move_node, put_key, type_text, erase_text, add_item, shift_item, set_item, drop_item, width_of}
use Rattle.model.specs.State.{Atom, State, after, apart, by_ids, change_atoms}
use Rattle.model_laws.specs.Arrival.{AreBelow, ComeInTurn, IsFresh, IsMadeOf, Rises, atom_before}
use Rattle.model_laws.proofs.ListLaws.{all_back, all_both, all_front, all_more}
use Rattle.model_laws.proofs.Rising.{IsIn, Rises-atoms, apart_in}
use Rattle.arrival_laws.proofs.AddLaws.{to_order}
use Rattle.doc_store.specs.Documents.{HasNoRow, IsFormed, IsOwnId}
use Rattle.doc_store.specs.References.{IsFirstWrong}
use Rattle.doc_store.specs.declared.references.BadRef.{BadRef}
use Rattle.doc_store.proofs.FreshLaws.{fresh_ids_have_no_row}

-- ---- their form

-- what is an id of few members is one of 32
id_among : (n : ℕ) (id : OpId) → n ≤ 32 → IsOpId n id → IsOpId 32 id
id_among n id few is = let below = is.member in record { time = is.time; member = omega arith; index = is.index; fixed = is.fixed }

anchor_among : (n : ℕ) (at : Anchor) → n ≤ 32 → IsAnchor n at → IsAnchor 32 at
anchor_among n at few is = record { on = id_among n at.on few is.on; head = is.head }

operation_among : (n : ℕ) (o : Operation) → n ≤ 32 → IsOperation n o → IsOperation 32 o
operation_among n (new_node parent at) few is = (id_among n parent few is.0, anchor_among n at few is.1)
operation_among n (move_node child parent at) few is = (id_among n child few is.0, is.1, is.2, id_among n parent few is.3, anchor_among n at few is.4)
operation_among n (put_key node key value) few is = (id_among n node few is.0, is.1, is.2)
operation_among n (type_text node at characters) few is = (id_among n node few is.0, anchor_among n at few is.1, is.2)
operation_among n (erase_text node first count) few is = (id_among n node few is.0, id_among n first few is.1, is.2)
operation_among n (add_item node at value) few is = (id_among n node few is.0, anchor_among n at few is.1, is.2)
operation_among n (shift_item node element at) few is = (id_among n node few is.0, id_among n element few is.1, anchor_among n at few is.2)
operation_among n (set_item node element value) few is = (id_among n node few is.0, id_among n element few is.1, is.2)
operation_among n (drop_item node element) few is = (id_among n node few is.0, id_among n element few is.1)

-- An operation takes an id at least.
some_ids : (n : ℕ) (o : Operation) → IsOperation n o → 1 ≤ width_of o
some_ids n (new_node parent at) is = omega arith
some_ids n (move_node child parent at) is = omega arith
some_ids n (put_key node key value) is = omega arith
some_ids n (type_text node at characters) is = is.2.some
some_ids n (erase_text node first count) is = omega arith
some_ids n (add_item node at value) is = omega arith
some_ids n (shift_item node element at) is = omega arith
some_ids n (set_item node element value) is = omega arith
some_ids n (drop_item node element) is = omega arith

-- an id between these two of a change
own_between : (time member low high : ℕ) (b : Atom) → 1 ≤ time → time < 2 ^ 48 → member < 32 → high ≤ 65536 → IsIn (record { time = time; member = member }) low high b → IsOwnId b.id
own_between time member low high b some most few within is =
    let at : b.id.time ≡ time = ap (λ (s : Stamp). s.time) is.stamp in
    let by : b.id.member ≡ member = ap (λ (s : Stamp). s.member) is.stamp in
    let below = is.below in
    record { some = omega arith; time = omega arith; member = omega arith; index = omega arith }

formed_from : (n time member index : ℕ) (os : List Operation) → n ≤ 32 → 1 ≤ time → time < 2 ^ 48 → member < n → index + sum_by width_of os ≤ 65536 → AllByRecursion (IsOperation n) os
    → AllByRecursion IsFormed (by_ids time member index os)
formed_from n time member index [] few some most below within are = tt
formed_from n time member index (o ∷ os) few some most below within are =
    let id : OpId = record { time = time; member = member; index = index } in
    let stamp : Stamp = record { time = time; member = member } in
    let sum = sum_by-cons width_of o os in
    let end : index + width_of o ≤ 65536 = omega arith in (
      record {
        operation = operation_among n o few are.0;
        ids = all_more (IsIn stamp index (index + width_of o)) (λ b. IsOwnId b.id) (λ b is. own_between time member index (index + width_of o) b some most (omega arith) end is) (apart id o) (apart_in id o);
      },
      formed_from n time member (index + width_of o) os few some most below (omega arith) are.1,
    )

pub formed_of : (n : ℕ) (c : Change) → n ≤ 32 → IsChange n c → AllByRecursion IsFormed (by_ids c.time c.member 0 c.operations)
formed_of n c few is =
    let width = is.width_most in
    formed_from n c.time c.member 0 c.operations few is.time_some is.time_most is.member (omega arith) is.operations

-- ---- their ids

-- what holds of each that is kept holds of each that passes
all_passing : {A : Type 0} (P : A → Type 0) (test : A → Bool) (list : List A) → AllByRecursion P (filter test list) → AllByRecursion (λ a. test a ≡ true → P a) list
all_passing P test [] h = tt
all_passing P test (a ∷ list) h =
    elim (test a) as (λ t. AllByRecursion P (cond t (a ∷ filter test list) (filter test list)) → (t ≡ true → P a) × AllByRecursion (λ a. test a ≡ true → P a) list) [
      | true ↦ λ k. (λ _. k.0, all_passing P test list k.1)
      | false ↦ λ k. ((λ e. absurd cc), all_passing P test list k)
    ] h

-- an id that is fresh with another in its place was so before
fresh_before : (x : Atom) (list : List Atom) (id : OpId) → IsFresh list x.id → IsFresh (placed atom_before x list) id → IsFresh list id
fresh_before x list id other fresh =
    let Free = λ (a : Atom). id_eq a.id id ≡ false in
    let front = filter (λ a. atom_before a x) list in
    let back = filter (λ a. atom_before x a) list in
    let low = all_passing Free (λ a. atom_before a x) list (all_front Free front (x ∷ back) fresh) in
    let high = all_passing Free (λ a. atom_before x a) list (all_back Free front (x ∷ back) fresh).1 in
    all_more (λ a. ((id_lt a.id x.id ≡ true → Free a) × (id_lt x.id a.id ≡ true → Free a)) × (id_eq a.id x.id ≡ false)) Free
    (λ a is. elim (lt_cases a.id x.id) [ inl l ↦ is.0.0 l | inr k ↦ elim k [ inl same ↦ absurd (apart_from_id_eq a.id x.id is.1 same) | inr l ↦ is.0.1 l ] ])
    list (all_both (λ a. (id_lt a.id x.id ≡ true → Free a) × (id_lt x.id a.id ≡ true → Free a)) (λ a. id_eq a.id x.id ≡ false) list (all_both (λ a. id_lt a.id x.id ≡ true → Free a) (λ a. id_lt x.id a.id ≡ true → Free a) list low high) other)

-- Operations that may come one after the other are fresh,
pub fresh_in_turn : (s : State) (list xs : List Atom) → ComeInTurn s list xs → AllByRecursion (λ x. IsFresh list x.id) xs
fresh_in_turn s list [] come = tt
fresh_in_turn s list (x ∷ xs) come =
    let more = placed atom_before x list in
    (come.0.fresh, all_more (λ y. IsFresh more y.id) (λ y. IsFresh list y.id) (λ y fresh. fresh_before x list y.id come.0.fresh fresh) xs (fresh_in_turn s more xs come.1))

-- and above all ids of the state.
pub below_in_turn : (s : State) (list xs : List Atom) → ComeInTurn s list xs → AllByRecursion (λ x. AreBelow s x.id) xs
below_in_turn s list [] come = tt
below_in_turn s list (x ∷ xs) come = (come.0.below, below_in_turn s (placed atom_before x list) xs come.1)

-- No row of the document has one of their ids.
pub no_row_in_turn : (s : State) (list xs : List Atom) → IsMadeOf s list → ComeInTurn s list xs → AllByRecursion (λ x. HasNoRow (after s list) x.id) xs
no_row_in_turn s list xs made come =
    all_more (λ (x : Atom). AreBelow s x.id × IsFresh list x.id) (λ x. HasNoRow (after s list) x.id) (λ x is. fresh_ids_have_no_row s list x.id made is.0 is.1) xs
    (all_both (λ (x : Atom). AreBelow s x.id) (λ x. IsFresh list x.id) xs (below_in_turn s list xs come) (fresh_in_turn s list xs come))

pub rises_within : (c : Change) → Rises (change_atoms c)
rises_within c = subst Rises (append-nil (change_atoms c)) (Rises-atoms (c ∷ []) (to_order (c ∷ []) (tt, tt)))

-- ---- the first that refers wrongly

-- it is of the first operation or of a later one
place_first : (place count : ℕ) (ids : List OpId) (later : List Misfit) (p : ℕ) (id : OpId) → (slice_get later 0 ≡ Some (refers_wrongly p id) → p < suc place + count) → slice_get (map (refers_wrongly place) ids ++ later) 0 ≡ Some (refers_wrongly p id) → p < place + suc count
place_first place count [] later p id behind e = let below = behind e in omega arith
place_first place count (i ∷ ids) later p id behind e = let same : place ≡ p = cc in omega arith

-- Its place is one of theirs.
place_within : (u : State) (place : ℕ) (ops : List Atom) (p : ℕ) (id : OpId) → slice_get (wrong_references u place ops) 0 ≡ Some (refers_wrongly p id) → p < place + length ops
place_within u place [] p id e = absurd cc
place_within u place (a ∷ ops) p id e =
    let next = after u (apart a.id a.operation) in
    let below = place_first place (length ops) (wrong_ids u a.id a.operation) (wrong_references next (suc place) ops) p id (place_within next (suc place) ops p id) e in
    omega arith

-- no more operations than ids
few_by_ids : (n time member index : ℕ) (os : List Operation) → AllByRecursion (IsOperation n) os → length (by_ids time member index os) ≤ sum_by width_of os
few_by_ids n time member index [] are = omega arith
few_by_ids n time member index (o ∷ os) are =
    let width = some_ids n o are.0 in
    let rest = few_by_ids n time member (index + width_of o) os are.1 in
    let sum = sum_by-cons width_of o os in
    omega arith

-- so the place that is told is the very place
pub place_told : (n : ℕ) (u : State) (c : Change) (b : BadRef) → IsChange n c → IsFirstWrong u (by_ids c.time c.member 0 c.operations) (Some b)
    → Some (refers_wrongly b.op b.id) ≡ slice_get (wrong_references u 0 (by_ids c.time c.member 0 c.operations)) 0
place_told n u c b is wrong =
    let ops = by_ids c.time c.member 0 c.operations in
    let p = wrong.0 in
    let width = is.width_most in
    let few = few_by_ids n c.time c.member 0 c.operations is.operations in
    let within = place_within u 0 ops p b.id wrong.1 in
    let capped = wrong.2 in
    let same : b.op ≡ p = omega arith in
    ap (λ q. Some (refers_wrongly q b.id)) same ∙ sym wrong.1

pub length-by_ids : (time member index : ℕ) (os : List Operation) → length (by_ids time member index os) ≡ length os
length-by_ids time member index [] = refl
length-by_ids time member index (o ∷ os) = ap suc (length-by_ids time member (index + width_of o) os)
