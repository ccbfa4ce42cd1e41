-- The operations of a change may come to a document one after the other.
use Rattle.std.proofs.Common.{◌≡◌, ℕ, ◌<◌, true, false, Bool, List, [], ◌∷◌, ◌++◌, sym, ap, subst, ◌∙◌, arith, inl, inr, leb}
use Rattle.std.specs.Prelude.{filter, is_some}
use Rattle.std.specs.List.{AllByRecursion}
use Rattle.std.specs.FinMap.{get}
use Rattle.std.proofs.lemmas.Bool.{leb-true}
use Rattle.std.proofs.lemmas.List.{append_assoc, append-nil}
use Rattle.std.proofs.lemmas.Option.{same_Some}
use Rattle.op_ids.specs.declared.OpId.{OpId}
use Rattle.op_ids.specs.declared.Stamp.{Stamp}
use Rattle.op_ids.specs.Order.{id_eq, id_lt}
use Rattle.op_ids.proofs.OrderLaws.{id_equiv, lt_apart, lt_not_back}
use Rattle.model.specs.Base.{Base, base_of, past, up_to}
use Rattle.model.specs.Change.{Change, EachAfter, change_stamp, is_before, placed}
use Rattle.model.specs.Held.{held}
use Rattle.model.specs.Ledger.{IsAmong, Joins, Sound}
use Rattle.model.specs.Operation.{Operation}
use Rattle.model.specs.State.{State, Atom, after, atoms, by_ids, change_atoms, named, replay, done}
use Rattle.model_laws.specs.Arrival.{AreBelow, ComeInTurn, IsFresh, IsMadeOf, IsSingle, MayCome, Rises, all_placed, atom_before}
use Rattle.model_laws.proofs.ArrivalLaws as place
use Rattle.model_laws.proofs.ArrivalLaws.{Between, GoodAlong, after_done, all_done, any_order, between, done_both, done_one, good_along, good_back, good_with, has_itself, has_then}
use Rattle.model_laws.proofs.ChangeLaws.{EachAfter-front}
use Rattle.model_laws.proofs.ListLaws.{all_append, all_back, all_front, all_more, all_both, filter_all, filter_none}
use Rattle.model_laws.proofs.Presence.{Any, ChildThere, Has, child_there, done_has, done_has_more, element_new, list_new, names_right, node_new, position_new, text_new}
use Rattle.model_laws.proofs.Rising.{IsFrom, Rises-atoms, all_from}
use Rattle.model_laws.proofs.TrimLaws.{replay-append, up_to-append-past}
use Rattle.arrival_laws.specs.Document.{ChangesComeInTurn, ComesInTurn, LedgerIsDocument}
use Rattle.arrival_laws.proofs.AddLaws.{InOrder, all_kept, all_pass, earlier, filter-append, in_two, is_last, later, order_from, to_order}
use Rattle.arrival_laws.proofs.ChangeArrival.{AllBefore, rises_apart, rises_front}
use Rattle.arrival_laws.proofs.DocumentLaws.{below_replay, made_of, rises_back}
use Rattle.arrival_laws.proofs.ReferLaws.{AllSingle, IsRight, RightAlong, has_after, has_more, right_there, whole_right}
use Rattle.arrival_laws.proofs.SoundLaws.{atoms-append, change_single, joins_refers, order_kept, rises_between}
use Rattle.arrival_laws.proofs.StableLaws.{fitting, past_horizon}

-- ---- what is there after a late operation

-- where v has what u has, and what the operation makes
has_made : (u t v : State) (i : OpId) (p : Operation) → IsSingle p → ChildThere u.nodes p → Has Any u v → Has Any (done i p t) v → Has Any (done i p u) v
has_made u t v i p one c w k = record {
  nodes = λ q r h. elim (node_new u.nodes i p c q h) as (λ _. is_some (get v.nodes q) ≡ true) [ inl e ↦ w.nodes q r e | inr e ↦ k.nodes q r (e.1 t.nodes) ];
  positions = λ o q r h. elim (position_new u.positions i p o q h) as (λ _. is_some (get v.positions (o, q)) ≡ true) [ inl e ↦ w.positions o q r e | inr e ↦ k.positions o q r (e.1 t.positions) ];
  texts = λ o q r h. elim (text_new u.texts i p one o q h) as (λ _. is_some (get v.texts (o, q)) ≡ true) [ inl e ↦ w.texts o q r e | inr e ↦ k.texts o q r (e.1 t.texts) ];
  list_positions = λ o q r h. elim (list_new u.list_positions i p o q h) as (λ _. is_some (get v.list_positions (o, q)) ≡ true) [ inl e ↦ w.list_positions o q r e | inr e ↦ k.list_positions o q r (e.1 t.list_positions) ];
  elements = λ o q r h. elim (element_new u.elements i p o q h) as (λ _. is_some (get v.elements (o, q)) ≡ true) [ inl e ↦ w.elements o q r e | inr e ↦ k.elements o q r (e.1 t.elements) ];
}

has_along : (u v : State) (list : List Atom) → GoodAlong u list → Has Any u v → Has Any (all_done u list) (all_done v list)
has_along u v [] g w = w
has_along u v (a ∷ list) g w = has_along (done_one u a) (done_one v a) list g.1 (done_has_more u v a.id a.operation g.0.single (child_there u a.operation g.0.names) w)

good_singles : (u : State) (list : List Atom) → GoodAlong u list → AllSingle list
good_singles u [] g = tt
good_singles u (a ∷ list) g = (g.0.single, good_singles (done_one u a) list g.1)

-- what is there when an operation is done at the end is there when it is done in its place
late_has : (s : State) (list : List Atom) (x : Atom) → IsMadeOf s list → MayCome s list x → IsRight (after s list) x → Has Any (done_one (after s list) x) (after s (placed atom_before x list))
late_has s list x m c right =
    let front = place.earlier x list in
    let back = place.later x list in
    let b = between s list x m c in
    let good = good_along s list m in
    let two = place.in_two x list m.rises c.fresh in
    let w = all_done s front in
    let now : after s list ≡ all_done w back = after_done s list good ∙ ap (all_done s) two ∙ done_both s front back in
    let then : after s (placed atom_before x list) ≡ all_done (done_one w x) back = after_done s (front ++ x ∷ back) (good_with s front back x b) ∙ done_both s front (x ∷ back) in
    let behind = good_back s front back b.good in
    let singles = good_singles w back behind in
    let old : Has Any (all_done w back) (all_done (done_one w x) back) = has_along w (done_one w x) back behind (done_has w x.id x.operation c.single) in
    let new : Has Any (done_one w x) (all_done (done_one w x) back) = has_after (done_one w x) back singles in
    has_made (after s list) w (after s (placed atom_before x list)) x.id x.operation c.single (child_there (after s list) x.operation right.there)
    (subst (λ v. Has Any v (after s (placed atom_before x list))) (sym now) (subst (Has Any (all_done w back)) (sym then) old))
    (subst (Has Any (done_one w x)) (sym then) new)

-- ---- one after the other

abbrev AllFresh : List Atom → List Atom → Type 0
AllFresh list xs = AllByRecursion (λ x. IsFresh list x.id) xs

-- those behind x are fresh with x in its place
fresh_with : (list : List Atom) (x : Atom) (ys : List Atom) → AllByRecursion (λ y. id_lt x.id y.id ≡ true) ys → AllFresh list ys → AllFresh (placed atom_before x list) ys
fresh_with list x [] l f = tt
fresh_with list x (y ∷ ys) l f = (
  all_append (λ a. id_eq a.id y.id ≡ false) (place.earlier x list) (x ∷ place.later x list) (all_kept (λ a. id_eq a.id y.id ≡ false) (λ a. atom_before a x) list f.0)
      (lt_apart x.id y.id l.0, all_kept (λ a. id_eq a.id y.id ≡ false) (λ a. atom_before x a) list f.0),
  fresh_with list x ys l.1 f.1,
)

pub come : (s : State) (list : List Atom) (d : State) (xs : List Atom) → IsMadeOf s list → Has Any d (after s list) → RightAlong d xs → AllSingle xs → Rises xs → AllByRecursion (λ x. AreBelow s x.id) xs → AllFresh list xs → ComeInTurn s list xs
come s list d [] m w right one rises below fresh = tt
come s list d (x ∷ xs) m w right one rises below fresh =
    let here = right_there Any d (after s list) x (λ q _. tt) w right.0 in
    let may : MayCome s list x = record { fresh = fresh.0; single = one.0; below = below.0; refers = names_right (named (after s list) x.operation) x.id here } in
    let more = has_more Any d (after s list) x.id x.operation one.0 (child_there d x.operation right.0.there) w in
    let has = has_then Any (done_one d x) (done_one (after s list) x) (after s (placed atom_before x list)) more (late_has s list x m may here) in
    (may, come s (placed atom_before x list) (done_one d x) xs (any_order s list x m may).made_of has right.1 one.1 rises.1 below.1 (fresh_with list x xs rises.0 fresh.1))

-- ---- in their places

none_back : (x : Atom) (list : List Atom) → AllByRecursion (λ y. id_lt x.id y.id ≡ true) list → AllByRecursion (λ y. atom_before y x ≡ false) list
none_back x list h = all_more (λ y. id_lt x.id y.id ≡ true) (λ y. atom_before y x ≡ false) (λ y l. lt_not_back x.id y.id l) list h

none_front : (x : Atom) (list : List Atom) → AllByRecursion (λ y. id_lt y.id x.id ≡ true) list → AllByRecursion (λ y. atom_before x y ≡ false) list
none_front x list h = all_more (λ y. id_lt y.id x.id ≡ true) (λ y. atom_before x y ≡ false) (λ y l. lt_not_back y.id x.id l) list h

filter_parts : (p : Atom → Bool) (xs ys : List Atom) → filter p (xs ++ ys) ≡ filter p xs ++ filter p ys
filter_parts p xs ys = filter-append p xs ys

placed_between : (front : List Atom) (x : Atom) (back : List Atom) → AllByRecursion (λ y. id_lt y.id x.id ≡ true) front → AllByRecursion (λ y. id_lt x.id y.id ≡ true) back → placed atom_before x (front ++ back) ≡ front ++ x ∷ back
placed_between front x back f b =
    let low : filter (λ y. atom_before y x) (front ++ back) ≡ front =
    filter_parts (λ y. atom_before y x) front back ∙ ap (λ l. l ++ filter (λ y. atom_before y x) back) (filter_all (λ y. atom_before y x) front f) ∙ ap (λ l. front ++ l) (filter_none (λ y. atom_before y x) back (none_back x back b)) ∙ append-nil front in
    let high : filter (λ y. atom_before x y) (front ++ back) ≡ back =
    filter_parts (λ y. atom_before x y) front back ∙ ap (λ l. l ++ filter (λ y. atom_before x y) back) (filter_none (λ y. atom_before x y) front (none_front x front f)) ∙ filter_all (λ y. atom_before x y) back b in
    λ i. low i ++ x ∷ high i

-- from each of the first to each of the second, and the other way round
turned : (xs ys : List Atom) → AllBefore xs ys → AllByRecursion (λ y. AllByRecursion (λ x. id_lt x.id y.id ≡ true) xs) ys
turned xs [] h = tt
turned xs (y ∷ ys) h =
    (all_more (λ x. AllByRecursion (λ z. id_lt x.id z.id ≡ true) (y ∷ ys)) (λ x. id_lt x.id y.id ≡ true) (λ x k. k.0) xs h, turned xs ys (all_more (λ x. AllByRecursion (λ z. id_lt x.id z.id ≡ true) (y ∷ ys)) (λ x. AllByRecursion (λ z. id_lt x.id z.id ≡ true) ys) (λ x k. k.1) xs h))

placed_all : (front xs back : List Atom) → AllByRecursion (λ x. AllByRecursion (λ y. id_lt y.id x.id ≡ true) front) xs → AllBefore xs back → Rises xs → all_placed xs (front ++ back) ≡ (front ++ xs) ++ back
placed_all front [] back f b r = ap (λ l. l ++ back) (sym (append-nil front))
placed_all front (x ∷ xs) back f b r =
    let grown : AllByRecursion (λ z. AllByRecursion (λ y. id_lt y.id z.id ≡ true) (front ++ x ∷ [])) xs =
    all_more (λ z. AllByRecursion (λ y. id_lt y.id z.id ≡ true) front × (id_lt x.id z.id ≡ true)) (λ z. AllByRecursion (λ y. id_lt y.id z.id ≡ true) (front ++ x ∷ []))
    (λ z k. all_append (λ y. id_lt y.id z.id ≡ true) front (x ∷ []) k.0 (k.1, tt)) xs (all_both (λ z. AllByRecursion (λ y. id_lt y.id z.id ≡ true) front) (λ z. id_lt x.id z.id ≡ true) xs f.1 r.0) in
    ap (all_placed xs) (placed_between front x back f.0 b.0 ∙ sym (append_assoc front (x ∷ []) back)) ∙ placed_all (front ++ x ∷ []) xs back grown b.1 r.1 ∙ ap (λ l. l ++ back) (append_assoc front (x ∷ []) xs)

-- ---- a change

order_back : (xs ys : List Change) → InOrder (xs ++ ys) → InOrder ys
order_back [] ys r = r
order_back (x ∷ xs) ys r = order_back xs ys r.1

module _ (n : ℕ) (early kept : List Change) (c : Change) (sound : Sound n (early ++ kept)) (among : IsAmong n c) (joins : Joins n (early ++ kept) c) (before : AllByRecursion (λ d. d.time < c.time) early) where
  abbrev front : List Change
  front = earlier c kept

  abbrev back : List Change
  back = later c kept

  order : InOrder kept
  order = order_back early kept (order_from (early ++ kept) sound.in_order)

  two : kept ≡ earlier c kept ++ later c kept
  two = in_two c kept order (all_back (λ d. d.member ≡ c.member → d.time < c.time) early kept (is_last (early ++ kept) c (order_from (early ++ kept) sound.in_order) (fitting n (held n (early ++ kept)) c joins.fitting).later))

  rises : Rises (atoms front ++ (change_atoms c ++ atoms back))
  rises =
      subst Rises (atoms-append front (c ∷ back))
      (Rises-atoms (front ++ c ∷ back) (to_order (front ++ c ∷ back) (rises_between c front back (order_kept (λ d. is_before d c) kept order) (all_pass (λ d. is_before d c) kept) (order_kept (λ d. is_before c d) kept order) (all_pass (λ d. is_before c d) kept))))

  front_first : AllBefore (atoms front) (change_atoms c ++ atoms back)
  front_first = rises_apart (atoms front) (change_atoms c ++ atoms back) rises

  behind : Rises (change_atoms c ++ atoms back)
  behind = rises_back (atoms front) (change_atoms c ++ atoms back) rises

  then_back : AllBefore (change_atoms c) (atoms back)
  then_back = rises_apart (change_atoms c) (atoms back) behind

  after_front : AllByRecursion (λ x. AllByRecursion (λ y. id_lt y.id x.id ≡ true) (atoms front)) (change_atoms c)
  after_front = all_front (λ x. AllByRecursion (λ y. id_lt y.id x.id ≡ true) (atoms front)) (change_atoms c) (atoms back) (turned (atoms front) (change_atoms c ++ atoms back) front_first)

  split : atoms kept ≡ atoms front ++ atoms back
  split = ap atoms two ∙ atoms-append front back

  fresh : AllFresh (atoms kept) (change_atoms c)
  fresh =
      all_more (λ x. AllByRecursion (λ y. id_lt y.id x.id ≡ true) (atoms front) × AllByRecursion (λ y. id_lt x.id y.id ≡ true) (atoms back)) (λ x. IsFresh (atoms kept) x.id)
      (λ x k. subst (λ l. IsFresh l x.id) (sym split)
      (all_append (λ a. id_eq a.id x.id ≡ false) (atoms front) (atoms back) (all_more (λ y. id_lt y.id x.id ≡ true) (λ y. id_eq y.id x.id ≡ false) (λ y l. lt_apart y.id x.id l) (atoms front) k.0)
      (all_more (λ y. id_lt x.id y.id ≡ true) (λ y. id_eq y.id x.id ≡ false) (λ y l. id_equiv.symm y.id x.id ∙ lt_apart x.id y.id l) (atoms back) k.1)))
      (change_atoms c) (all_both (λ x. AllByRecursion (λ y. id_lt y.id x.id ≡ true) (atoms front)) (λ x. AllByRecursion (λ y. id_lt x.id y.id ≡ true) (atoms back)) (change_atoms c) after_front then_back)

  early_each : EachAfter (Joins n) [] early
  early_each = EachAfter-front (Joins n) [] early kept sound.each

  below : AllByRecursion (λ x. AreBelow (replay early) x.id) (change_atoms c)
  below =
      all_more (IsFrom (change_stamp c) 0) (λ x. AreBelow (replay early) x.id)
      (λ x from. below_replay n early x.id early_each (let t = ap (λ (s : Stamp). s.time) from.stamp in all_more (λ d. d.time < c.time) (λ d. d.time < x.id.time) (λ d l. omega arith) early before))
      (change_atoms c) (all_from c.time c.member 0 c.operations)

  pub comes_in_turn : ComesInTurn (replay early) kept c
  comes_in_turn =
      let now : replay (early ++ kept) ≡ after (replay early) (atoms kept) = replay-append early kept in
      let right : RightAlong (replay (early ++ kept)) (change_atoms c) = whole_right (replay (early ++ kept)) (by_ids c.time c.member 0 c.operations) (joins_refers n (early ++ kept) c joins) in
      record {
        in_turn = come (replay early) (atoms kept) (after (replay early) (atoms kept)) (change_atoms c) (made_of n early kept sound) (has_itself Any (after (replay early) (atoms kept))) (subst (λ v. RightAlong v (change_atoms c)) now right)
            (change_single c) (rises_front (change_atoms c) (atoms back) behind) below fresh;
        placed = ap (all_placed (change_atoms c)) split ∙ placed_all (atoms front) (change_atoms c) (atoms back) after_front then_back (rises_front (change_atoms c) (atoms back) behind)
            ∙ append_assoc (atoms front) (change_atoms c) (atoms back) ∙ sym (atoms-append front (c ∷ back));
      }

-- ---- the laws

pub changes_come_in_turn : ChangesComeInTurn
changes_come_in_turn f h b c stands is among joins =
    let n = f.members in
    let T = stands.horizon in
    let whole = up_to-append-past T h stands.sound.in_order in
    let same : base_of n h T ≡ b = same_Some (base_of n h T) b (sym stands.base ∙ is) in
    let late = past_horizon n T h c stands.reached among.member (fitting n (held n h) c joins.fitting).later in
    let before = all_more (λ d. leb d.time T ≡ true) (λ d. d.time < c.time) (λ d e. let l = leb-true d.time T e in omega arith) (up_to T h) (all_pass (λ d. leb d.time T) h) in
    let comes = comes_in_turn n (up_to T h) (past T h) c (subst (Sound n) (sym whole) stands.sound) among (subst (λ l. Joins n l c) (sym whole) joins) before in
    subst (λ l. ComesInTurn b.state l c) (sym stands.kept) (subst (λ (x : Base). ComesInTurn x.state (past T h) c) same comes)

pub ledger_is_document : LedgerIsDocument
ledger_is_document n h sound = made_of n [] h sound
