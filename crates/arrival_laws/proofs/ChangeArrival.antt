-- A whole change arrives.
use Rattle.std.proofs.Common.{◌≡◌, ℕ, true, List, [], ◌∷◌, ◌++◌, refl, sym, ap, subst, ◌∙◌}
use Rattle.std.specs.Prelude.{fold}
use Rattle.std.specs.List.{AllByRecursion}
use Rattle.std.proofs.lemmas.List.{append_assoc}
use Rattle.op_ids.specs.Order.{id_lt}
use Rattle.model.specs.Change.{Change, EachAfter}
use Rattle.model.specs.Held.{held}
use Rattle.model.specs.Ledger.{Joins, Sound, add}
use Rattle.model.specs.State.{State, Atom, by_ids, change_atoms, atoms, replay, after, empty_state}
use Rattle.model_laws.specs.Arrival.{contents, late, nodes_moved, with_nodes, Rises, AreBelow}
use Rattle.arrival_laws.specs.Joining.{ChangesArrive}
use Rattle.arrival_laws.proofs.AddLaws.{earlier, later, in_two, order_from, is_last}
use Rattle.model_laws.proofs.ArrivalLaws.{after_done, Good, GoodAlong, done_one, all_done, all_late, below_next, good_more, contents_done, nodes_done, passes}
use Rattle.model_laws.proofs.Contents.{late_in_place}
use Rattle.arrival_laws.proofs.DocumentLaws.{each_below, rises_back}
use Rattle.model_laws.proofs.ListLaws.{all_front, all_back}
use Rattle.model_laws.proofs.Presence.{done_has, fits_contents}
use Rattle.arrival_laws.proofs.ReferLaws.{has_after, RightAlong, AllSingle, after_right, right_front, whole_right}
use Rattle.model_laws.proofs.Rising.{Rises-atoms}
use Rattle.arrival_laws.proofs.SoundLaws.{parts_of, stays_sound, refers_in_front, back_right, Refers, each_more, joins_refers, right_along, atoms_single, change_single, atoms-append, replay_done}
use Rattle.arrival_laws.proofs.StableLaws.{fitting}
use Rattle.model_laws.proofs.TrimLaws.{replay-append}

-- what refers right is good where all else is smaller
good_of_right : (u : State) (list : List Atom) → AllSingle list → Rises list → AllByRecursion (λ a. AreBelow u a.id) list → RightAlong u list → GoodAlong u list
good_of_right u [] s r b g = tt
good_of_right u (a ∷ list) s r b g =
    let good : Good u a = record { names = g.0.there; smaller = g.0.smaller; below = b.0; single = s.0 } in
    (good, good_of_right (done_one u a) list s.1 r.1 (below_next u a list good r.0 b.1) g.1)

-- each of these comes before each of those
abbrev pub AllBefore : List Atom → List Atom → Type 0
AllBefore xs ys = AllByRecursion (λ x. AllByRecursion (λ y. id_lt x.id y.id ≡ true) ys) xs

pub rises_apart : (xs ys : List Atom) → Rises (xs ++ ys) → AllBefore xs ys
rises_apart [] ys r = tt
rises_apart (x ∷ xs) ys r = (all_back (λ y. id_lt x.id y.id ≡ true) xs ys r.0, rises_apart xs ys r.1)

pub rises_front : (xs ys : List Atom) → Rises (xs ++ ys) → Rises xs
rises_front [] ys r = tt
rises_front (x ∷ xs) ys r = (all_front (λ y. id_lt x.id y.id ≡ true) xs ys r.0, rises_front xs ys r.1)

-- operations that come late one after the other
late_all : (v : State) (new old : List Atom) → GoodAlong v new → GoodAlong v old → Rises old → AllBefore new old → AllByRecursion (λ b. AreBelow v b.id) old
    → contents (all_done (all_done v new) old) ≡ fold late (contents (all_done v old)) new
late_all v [] old g k r l b = refl
late_all v (x ∷ new) old g k r l b =
    let u = done_one v x in
    let below = below_next v x old g.0 l.0 b in
    let more = good_more v u old (done_has v x.id x.operation g.0.single) below r k in
    let first : contents (all_done u old) ≡ late (contents (all_done v old)) x =
    contents_done u old ∙ ap (λ c. all_late c old) (late_in_place (contents v) x g.0.below.registers (record { shifts = g.0.below.shifts; sets = g.0.below.sets }))
    ∙ passes v (contents v) x old refl l.0 (fits_contents v x g.0.single g.0.below g.0.names) k ∙ ap (λ c. late c x) (sym (contents_done v old)) in
    late_all u new old g.1 more r l.1 below ∙ ap (λ c. fold late c new) first

-- those that come behind stay above what is done
below_along_all : (u : State) (new old : List Atom) → GoodAlong u new → AllBefore new old → AllByRecursion (λ b. AreBelow u b.id) old → AllByRecursion (λ b. AreBelow (all_done u new) b.id) old
below_along_all u [] old g l b = b
below_along_all u (x ∷ new) old g l b = below_along_all (done_one u x) new old g.1 l.1 (below_next u x old g.0 l.0 b)

-- the nodes of a ledger are moved by all its operations
nodes_of : (n : ℕ) (h : List Change) → Sound n h → (replay h).nodes ≡ nodes_moved empty_state.nodes (atoms h)
nodes_of n h sound =
    let right = right_along [] h (each_more (Joins n) Refers (joins_refers n) [] h sound.each) in
    ap (λ v. v.nodes) (after_right empty_state (atoms h) right) ∙ nodes_done empty_state (atoms h)

pub changes_arrive : ChangesArrive
changes_arrive n h c sound among joins =
    let front = earlier c h in
    let back = later c h in
    let parts = parts_of n h c sound among joins in
    let u = replay front in
    let new = change_atoms c in
    let old = atoms back in
    let r = order_from h sound.in_order in
    let two = in_two c h r (is_last h c r (fitting n (held n h) c joins.fitting).later) in
    let refers = refers_in_front n front back c parts in
    let new_right = whole_right u (by_ids c.time c.member 0 c.operations) refers in
    let old_right = back_right n front back c parts in
    let order = (stays_sound n h c sound among joins).in_order in
    let rises : Rises (atoms front ++ (new ++ old)) = subst Rises (atoms-append front (c ∷ back)) (Rises-atoms (front ++ c ∷ back) order) in
    let behind = rises_back (atoms front) (new ++ old) rises in
    let each = subst (λ l. EachAfter (Joins n) [] l) two sound.each in
    let whole = right_along [] (front ++ back) (each_more (Joins n) Refers (joins_refers n) [] (front ++ back) each) in
    let front_right : RightAlong empty_state (atoms front) = right_front empty_state (atoms front) old (subst (RightAlong empty_state) (atoms-append front back) whole) in
    let state : u ≡ all_done empty_state (atoms front) = after_right empty_state (atoms front) front_right in
    let below = subst (λ s. AllByRecursion (λ a. AreBelow s a.id) (new ++ old)) (sym state) (each_below (atoms front) (new ++ old) (atoms_single front) front_right rises) in
    let new_below = all_front (λ a. AreBelow u a.id) new old below in
    let old_below = all_back (λ a. AreBelow u a.id) new old below in
    let new_good = good_of_right u new (change_single c) (rises_front new old behind) new_below new_right in
    let old_good = good_of_right u old (atoms_single back) (rises_back new old behind) old_below old_right in
    let now : replay (add h c) ≡ after (all_done u new) old =
    ap replay (sym (append_assoc front (c ∷ []) back)) ∙ replay-append (front ++ c ∷ []) back ∙ ap (λ s. after s old) (replay_done front c refers) in
    let more = good_more u (all_done u new) old (has_after u new (change_single c)) (below_along_all u new old new_good (rises_apart new old behind) old_below) (rises_back new old behind) old_good in
    let before : replay h ≡ all_done u old = ap replay two ∙ replay-append front back ∙ after_right u old old_right in
    let nodes : (replay (add h c)).nodes ≡ nodes_moved empty_state.nodes (atoms (add h c)) = nodes_of n (add h c) (stays_sound n h c sound among joins) in
    let tables : contents (replay (add h c)) ≡ fold late (contents (replay h)) (change_atoms c) =
    ap contents (now ∙ after_done (all_done u new) old more) ∙ late_all u new old new_good old_good (rises_back new old behind) (rises_apart new old behind) old_below ∙ ap (λ s. fold late (contents s) new) (sym before) in
    record { contents_late = tables; nodes_anew = nodes; whole = λ i. with_nodes (nodes i) (tables i) }
