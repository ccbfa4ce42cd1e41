use Rattle.std.proofs.Common.{◌≡◌, ◌∙◌, ap, sym, subst, true, take, drop, length, ◌+◌, ◌≤◌, ◌-◌, ◌++◌, ◌∷◌, arith, is_some, List, get_or, length-drop}
use Rattle.std.proofs.lemmas.List.{take_rest, length-map}
use Rattle.std.specs.List.{AllByRecursion}
use Rattle.std.specs.FinMap as map
use Rattle.std.specs.FinSet as set
use Rattle.op_ids.specs.Order.{id_lt}
use Rattle.model_laws.specs.Tree.{Places}
use Rattle.tree_log.specs.declared.moves.TreeMove.{TreeMove}
use Rattle.tree_log.specs.declared.moves.Held.{Held}
use Rattle.tree_log.specs.Log.{IsLog, undone, steps}
use Rattle.tree_log.specs.Merge.{merged}
use Rattle.tree_log.specs.Moves.{Log, Rises, AllReferBack, IsFresh, has_place, places_now, later_count}
use Rattle.tree_log.proofs.LogLaws.{first_cons, early_moves, todo, all_moves, later_rise, joins_below, log_base, later_bound, worked_then, worked_within}
use Rattle.tree_log.proofs.SortLaws.{inserted_merged}
use Rattle.tree_log.proofs.log.TreeLog.insert.Goals as goal
use Rattle.tree_log.proofs.log.TreeLog.insert.Goals.{After-undo_from}

abbrev base : After-undo_from → Places
base c = undone c.self.inside.parents.places c.self.inside.held.items

places_are : (c : After-undo_from) → places_now c.args.self.now ≡ c.self.inside.parents.places
places_are c = ap places_now (sym c.self.view_is) ∙ c.self.invariant.log.is

steps_are : (c : After-undo_from) → c.args.self.now.moves ≡ steps c.self.inside.held.items
steps_are c = ap (λ (l : Log). l.moves) (sym c.self.view_is)

cons : (c : After-undo_from) → c.args.moves.now ≡ c.in-Some.first.now ∷ drop (0 + 1) c.args.moves.now
cons c = first_cons c.args.moves.now c.in-Some.first.now c.in-Some.ensures.item.3.0 (c.in-Some.ensures.item.3.1 _)

fresh : (c : After-undo_from) → AllByRecursion (λ y. IsFresh (steps c.self.inside.held.items) y.id) c.args.moves.now
fresh c = subst (λ ts. AllByRecursion (λ (y : TreeMove). IsFresh ts y.id) c.args.moves.now) (steps_are c) c.requires.fresh

joins : (c : After-undo_from) → AllReferBack (has_place c.self.inside.parents.places) c.args.moves.now
joins c = subst (λ m. AllReferBack (has_place m) c.args.moves.now) (places_are c) c.requires.refer

bound : (c : After-undo_from) → c.first_later-from.result ≤ length c.self.inside.held.items
bound c = subst (λ hs. c.first_later-from.result ≤ length hs) c.deref.ensures.value c.first_later-from.ensures.bound

early : (c : After-undo_from) → AllByRecursion (λ t. id_lt t.id c.in-Some.first.now.id ≡ true) (steps (take c.first_later-from.result c.self.inside.held.items))
early c =
    early_moves (base c) c.self.inside.parents.places c.self.inside.held.items c.first_later-from.result c.in-Some.first.now (drop (0 + 1) c.args.moves.now) c.self.invariant.log (bound c)
    (λ d pos. ap (λ hs. id_lt c.in-Some.first.now.id (get_or hs (c.first_later-from.result - 1) d).step.id) (sym c.deref.ensures.value) ∙ c.first_later-from.ensures.border d pos)
    (subst (AllByRecursion (λ y. IsFresh (steps c.self.inside.held.items) y.id)) (cons c) (fresh c))

later_are : (c : After-undo_from) → c.in_ok-later.later.items ≡ steps (drop c.first_later-from.result c.self.inside.held.items)
later_are c =
    c.in_ok-later.ensures ∙ ap steps (take_rest c.deref-2.result.now c.first_later-from.result)
    ∙ ap (λ hs. steps (drop c.first_later-from.result hs)) c.deref-2.ensures.value

front : (c : After-undo_from) → c.undo_from.new.held.items ≡ take c.first_later-from.result c.self.inside.held.items
front c = c.undo_from.ensures.held ∙ ap (take c.first_later-from.result) c.in_ok-reserve.ensures.items

-- the log between the undoing and the doing
middle : (c : After-undo_from) → IsLog (base c) c.undo_from.new.held.items c.undo_from.new.parents.places
middle c =
    subst (λ b. IsLog b c.undo_from.new.held.items c.undo_from.new.parents.places)
    (λ i. undone (c.in_ok-admit_new.ensures.places i) (c.in_ok-reserve.ensures.items i))
    c.undo_from.ensures.log

pub admit_new-requires-clause-below : goal.admit_new-requires-clause-below
admit_new-requires-clause-below c = joins_below _ c.args.moves.now c.requires.refer

pub redo-requires-clause-todo : goal.redo-requires-clause-todo
redo-requires-clause-todo c =
    let u = (goal.at.redo-requires-clause-todo c).After-undo_from in
    todo (base u) c.self.inside.parents.places c.undo_from.new.parents.places c.self.inside.held.items c.undo_from.new.held.items c.first_later-from.result c.deref-3.result.now c.args.moves.now c.in-Some.first.now c.undo_from.new.parents.admitted
    c.self.invariant.log (cons u) c.requires.rises (fresh u) (joins u) (early u) (c.deref-3.ensures.value ∙ later_are u) (front u) (middle u)
    (λ q e. ap (λ s. set.contains s q) c.undo_from.ensures.admitted ∙ c.in_ok-admit_new.ensures.tree.placed q (ap (λ m. is_some (map.get m q)) c.in_ok-admit_new.ensures.places ∙ e))
    (subst (λ (s : set.FinSet _). AllByRecursion (λ (t : TreeMove). set.contains s t.child ≡ true) c.args.moves.now) (sym c.undo_from.ensures.admitted) c.in_ok-admit_new.ensures.admitted)

pub redo-requires-clause-later_rises : goal.redo-requires-clause-later_rises
redo-requires-clause-later_rises c =
    let u = (goal.at.redo-requires-clause-later_rises c).After-undo_from in
    later_rise (base u) c.self.inside.parents.places c.undo_from.new.parents.places c.self.inside.held.items c.undo_from.new.held.items c.first_later-from.result c.deref-3.result.now c.args.moves.now c.in-Some.first.now c.undo_from.new.parents.admitted
    c.self.invariant.log (cons u) c.requires.rises (fresh u) (joins u) (early u) (c.deref-3.ensures.value ∙ later_are u) (front u) (middle u)

-- the log at the end
ended : (u : After-undo_from) (hs : List Held) (now : Places) → IsLog (undone u.undo_from.new.parents.places u.undo_from.new.held.items) hs now → IsLog (base u) hs now
ended u hs now l = subst (λ b. IsLog b hs now) (log_base (base u) u.undo_from.new.held.items u.undo_from.new.parents.places (middle u)) l

held_are : (c : After-undo_from) (later : List TreeMove) → later ≡ c.in_ok-later.later.items → steps c.undo_from.new.held.items ++ merged later c.args.moves.now ≡ merged c.args.self.now.moves c.args.moves.now
held_are c later e =
    all_moves (base c) c.self.inside.parents.places c.undo_from.new.parents.places c.self.inside.held.items c.undo_from.new.held.items c.first_later-from.result later c.args.moves.now c.in-Some.first.now c.undo_from.new.parents.admitted
    c.self.invariant.log (cons c) c.requires.rises (fresh c) (joins c) (early c) (e ∙ later_are c) (front c) (middle c)
    ∙ ap (λ ts. merged ts c.args.moves.now) (sym (steps_are c))

pub invariant_of-self-2 : goal.invariant_of-self-2
invariant_of-self-2 c =
    let u = (goal.at.invariant_of-self-2 c).After-undo_from in
    let l = ended u _ _ c.redo.ensures.log in
    record { log = subst (λ b. IsLog b c.redo.new.held.items c.redo.new.parents.places) (sym (log_base _ _ _ l)) l; tree = c.redo.ensures.tree }

pub returns-clause-base : goal.returns-clause-base
returns-clause-base c =
    log_base _ _ _ (ended (goal.at.returns-clause-base c).After-undo_from _ _ c.redo.ensures.log) ∙ ap (λ (l : Log). l.base) c.self.view_is

pub returns-clause-ok : goal.returns-clause-ok
returns-clause-ok c =
    let u = (goal.at.returns-clause-ok c).After-undo_from in
    c.redo.ensures.held ∙ held_are u c.deref-3.result.now c.deref-3.ensures.value
    ∙ sym (inserted_merged c.args.self.now.moves c.args.moves.now (subst Rises (sym (steps_are u)) c.self.invariant.log.rises) c.requires.rises c.requires.fresh)

pub returns-clause-tally : goal.returns-clause-tally
returns-clause-tally c =
    let u = (goal.at.returns-clause-tally c).After-undo_from in
    let k = c.first_later-from.result in
    let hs = c.self.inside.held.items in
    let count : length (drop k hs) ≤ later_count (steps hs) c.args.moves.now =
    subst (λ ms. length (drop k hs) ≤ later_count (steps hs) ms) (sym (cons u)) (later_bound c.in-Some.first.now (drop (0 + 1) c.args.moves.now) hs k
    (subst (λ (gs : List Held). AllByRecursion (λ (h : Held). id_lt c.in-Some.first.now.id h.step.id ≡ true) (drop k gs)) c.deref.ensures.value c.first_later-from.ensures.later)) in
    let moves = ap (λ ts. later_count ts c.args.moves.now) (steps_are u) in
    let later = ap length (c.deref-3.ensures.value ∙ later_are u) ∙ length-map (drop k hs) (λ (h : Held). h.step) in
    let dropped = length-drop k hs in
    let len = c.in_ok-reserve.ensures.len in
    let ok = c.self.inside.held.ok.0 in
    worked_within _ _ _ _ (worked_then _ _ _ _ _ c.undo_from.ensures.tally c.redo.ensures.tally) (omega arith)
