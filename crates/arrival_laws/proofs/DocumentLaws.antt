-- A file that stands for a ledger is a document of the operations that it keeps.
use Rattle.std.proofs.Common.{◌≡◌, ℕ, ◌<◌, true, false, List, [], ◌∷◌, ◌++◌, sym, ap, subst, ◌∙◌}
use Rattle.std.specs.Prelude.{is_some}
use Rattle.std.specs.List.{AllByRecursion}
use Rattle.std.specs.FinMap.{get, get-empty, empty}
use Rattle.std.proofs.lemmas.Option.{same_Some}
use Rattle.std.specs.declared.cmp.Ordering.{Ordering}
use Rattle.std.specs.Ordering.{is_lt}
use Rattle.op_ids.specs.Order.{id_cmp, id_lt, stamp_lt, stamp_of}
use Rattle.op_ids.proofs.OrderLaws.{lt_from_stamps}
use Rattle.op_ids.specs.declared.OpId.{OpId}
use Rattle.model.specs.Base.{Base, base_of, up_to, past}
use Rattle.model.specs.Change.{EachAfter, change_stamp, Change}
use Rattle.model.specs.Ledger.{Sound, Joins}
use Rattle.model.specs.Operation.{Anchor}
use Rattle.model.specs.State.{change_atoms, Place, Character, Element, State, Atom, row_cmp, register_cmp, replay, atoms, empty_state, named}
use Rattle.model_laws.specs.Arrival.{Rises, AreBelow, IsMadeOf, ReferInTurn, writer_is_before}
use Rattle.arrival_laws.specs.Document.{FileIsDocument}
use Rattle.model_laws.proofs.ArrivalLaws.{done_one, all_done}
use Rattle.model_laws.proofs.ChangeLaws.{stamp_less}
use Rattle.model_laws.proofs.ListLaws.{all_append, all_front, all_back, all_more}
use Rattle.model_laws.proofs.Presence.{names_right, child_there, done_below}
use Rattle.arrival_laws.proofs.ReferLaws.{right_front, RightAlong, AllSingle, after_right, step_right}
use Rattle.model_laws.proofs.Rising.{IsFrom, Rises-atoms, all_from}
use Rattle.arrival_laws.proofs.SoundLaws.{Refers, each_more, joins_refers, right_along, atoms_single, atoms-append, back_of}
use Rattle.model_laws.proofs.TrimLaws.{up_to-append-past}

-- in the empty state there is nothing
nowhere : {Q : Type 0} {K : Type 0} (X : Type 0) (R : K → K → Ordering) (q : K) → is_some (get (empty {X = X} {R = R}) q) ≡ true → Q
nowhere X R q e = let n = ap is_some (get-empty {X = X} R q) in absurd (let c : true ≡ false = sym e ∙ n in cc)

pub empty_below : (i : OpId) → AreBelow empty_state i
empty_below i = record {
  nodes = λ q h. nowhere Place id_cmp q h;
  positions = λ o q h. nowhere Anchor row_cmp (o, q) h;
  registers = λ k. ap (λ w. writer_is_before w i) (get-empty register_cmp k);
  texts = λ o q h. nowhere Character row_cmp (o, q) h;
  list_positions = λ o q h. nowhere Anchor row_cmp (o, q) h;
  elements = λ o q h. nowhere Element row_cmp (o, q) h;
  shifts = λ k e h. nowhere Element row_cmp k (ap is_some h);
  sets = λ k e h. nowhere Element row_cmp k (ap is_some h);
}

pub below_right : (u : State) (i : OpId) (list : List Atom) → AllSingle list → AllByRecursion (λ a. id_lt a.id i ≡ true) list → RightAlong u list → AreBelow u i → AreBelow (all_done u list) i
below_right u i [] s l g b = b
below_right u i (a ∷ list) s l g b = below_right (done_one u a) i list s.1 l.1 g.1 (done_below u a.id i a.operation s.0 (child_there u a.operation g.0.there) l.0 b)

-- all ids of a ledger's document are smaller than a later one
atoms_before : (i : OpId) (h : List Change) → AllByRecursion (λ x. x.time < i.time) h → AllByRecursion (λ a. id_lt a.id i ≡ true) (atoms h)
atoms_before i [] l = tt
atoms_before i (c ∷ h) l =
    all_append (λ a. id_lt a.id i ≡ true) (change_atoms c) (atoms h)
    (all_more (IsFrom (change_stamp c) 0) (λ a. id_lt a.id i ≡ true) (λ a from. lt_from_stamps a.id i (ap (λ s. stamp_lt s (stamp_of i)) from.stamp ∙ ap is_lt (stamp_less (change_stamp c) (stamp_of i) l.0))) (change_atoms c) (all_from c.time c.member 0 c.operations))
    (atoms_before i h l.1)

pub below_replay : (n : ℕ) (h : List Change) (i : OpId) → EachAfter (Joins n) [] h → AllByRecursion (λ x. x.time < i.time) h → AreBelow (replay h) i
below_replay n h i each l =
    let right = right_along [] h (each_more (Joins n) Refers (joins_refers n) [] h each) in
    subst (λ u. AreBelow u i) (sym (after_right empty_state (atoms h) right)) (below_right empty_state i (atoms h) (atoms_single h) (atoms_before i h l) right (empty_below i))

refer_in_turn : (u : State) (list : List Atom) → RightAlong u list → ReferInTurn u list
refer_in_turn u [] g = tt
refer_in_turn u (a ∷ list) g = (names_right (named u a.operation) a.id g.0, subst (λ v. ReferInTurn v list) (sym (step_right u a g.0)) (refer_in_turn (done_one u a) list g.1))

-- ids in front are before each id behind
pub front_before : (front : List Atom) (x : Atom) (back : List Atom) → Rises (front ++ x ∷ back) → AllByRecursion (λ a. id_lt a.id x.id ≡ true) front
front_before [] x back r = tt
front_before (a ∷ front) x back r = ((all_back (λ b. id_lt a.id b.id ≡ true) front (x ∷ back) r.0).0, front_before front x back r.1)

pub rises_back : (front back : List Atom) → Rises (front ++ back) → Rises back
rises_back [] back r = r
rises_back (a ∷ front) back r = rises_back front back r.1

rises_one : (front : List Atom) (x : Atom) (back : List Atom) → Rises (front ++ x ∷ back) → Rises (front ++ back)
rises_one [] x back r = r.1
rises_one (a ∷ front) x back r = (all_append (λ b. id_lt a.id b.id ≡ true) front back (all_front (λ b. id_lt a.id b.id ≡ true) front (x ∷ back) r.0) (all_back (λ b. id_lt a.id b.id ≡ true) front (x ∷ back) r.0).1, rises_one front x back r.1)

pub each_below : (front back : List Atom) → AllSingle front → RightAlong empty_state front → Rises (front ++ back) → AllByRecursion (λ a. AreBelow (all_done empty_state front) a.id) back
each_below front [] s g r = tt
each_below front (x ∷ back) s g r = (below_right empty_state x.id front s (front_before front x back r) g (empty_below x.id), each_below front back s g (rises_one front x back r))

pub made_of : (n : ℕ) (early kept : List Change) → Sound n (early ++ kept) → IsMadeOf (replay early) (atoms kept)
made_of n early kept sound =
    let refers = each_more (Joins n) Refers (joins_refers n) [] (early ++ kept) sound.each in
    let whole = right_along [] (early ++ kept) refers in
    let split = atoms-append early kept in
    let rises : Rises (atoms early ++ atoms kept) = subst Rises split (Rises-atoms (early ++ kept) sound.in_order) in
    let front : RightAlong empty_state (atoms early) = right_front empty_state (atoms early) (atoms kept) (subst (RightAlong empty_state) split whole) in
    let state : replay early ≡ all_done empty_state (atoms early) = after_right empty_state (atoms early) front in
    record {
      rises = rises_back (atoms early) (atoms kept) rises;
      single = atoms_single kept;
      below = subst (λ u. AllByRecursion (λ a. AreBelow u a.id) (atoms kept)) (sym state) (each_below (atoms early) (atoms kept) (atoms_single early) front rises);
      refer = refer_in_turn (replay early) (atoms kept) (right_along early kept (back_of Refers [] early kept refers));
    }

pub file_is_document : FileIsDocument
file_is_document f h b stands is =
    let T = stands.horizon in
    let whole = up_to-append-past T h stands.sound.in_order in
    let same : base_of f.members h T ≡ b = same_Some (base_of f.members h T) b (sym stands.base ∙ is) in
    subst (λ l. IsMadeOf b.state (atoms l)) (sym stands.kept) (subst (λ (x : Base). IsMadeOf x.state (atoms (past T h))) same (made_of f.members (up_to T h) (past T h) (subst (Sound f.members) (sym whole) stands.sound)))
