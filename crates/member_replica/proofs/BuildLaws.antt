-- Building a replica: the kept changes of a file, one after the other.
use Rattle.std.proofs.Common.{◌≡◌, ℕ, ◌+◌, ◌≤◌, true, false, List, [], ◌∷◌, ◌++◌, length, take, drop, sym, ap, subst, ◌∙◌}
use Rattle.std.specs.Prelude.{Option, Some, None, slice_get}
use Rattle.std.specs.List.{AllByRecursion}
use Rattle.std.proofs.lemmas.List.{drop_all, drop_more, take-append-drop, take_all, take_more}
use Rattle.std.proofs.lemmas.Option.{get_or_from_slice_get, slice_get_within}
use Rattle.model.specs.Base.{base_of}
use Rattle.model.specs.Change.{Change, EachAfter, IsChange, is_before}
use Rattle.model.specs.File.{File, IsNextBehind}
use Rattle.model.specs.Held as model
use Rattle.model.specs.Held.{first_unfit, held_behind, unfit, unless_unfit}
use Rattle.model.specs.Ledger.{Joins, add}
use Rattle.model.specs.Reading.{unfit_in}
use Rattle.model_laws.proofs.ChangeLaws.{EachAfter-at, EachAfter-push}
use Rattle.model_laws.proofs.ListLaws.{all_back, all_more, filter_all, filter_none}
use Rattle.arrival_laws.proofs.AddLaws as place
use Rattle.arrival_laws.proofs.AddLaws.{InOrder, before_not_back}
use Rattle.replica.specs.FaultText.{misfit_of}
use Rattle.replica.specs.declared.fault.Misfit.{Misfit}
use Rattle.holding.specs.Holds.{Holds, MayJoin}
use Rattle.holding.specs.declared.holding.Holding.{Holding}
use Rattle.holding.specs.Takes.{IsNext}
use Rattle.holding.proofs.GrowLaws.{ledgers_may_grow}
use Rattle.holding.proofs.TakeLaws.{later_ids_are_free}
use Rattle.member_replica.specs.Replicas.{refused_of}
use Rattle.member_replica.proofs.SoundLaws.{IsUntrimmed, each_next, front_is_sound, joins_if_fit, kept_rise, unfit_is}

-- ---- a change at its place

next_at : (kept : List Change) (i : ℕ) (c : Change) → slice_get kept i ≡ Some c → drop i kept ≡ c ∷ drop (i + 1) kept
next_at kept i c at = drop_more kept i c (slice_get_within kept i c at) ∙ ap (λ (d : Change). d ∷ drop (i + 1) kept) (get_or_from_slice_get kept i c c at)

split_at : (kept : List Change) (i : ℕ) (c : Change) → slice_get kept i ≡ Some c → kept ≡ take i kept ++ c ∷ drop (i + 1) kept
split_at kept i c at = sym (take-append-drop i kept) ∙ ap (λ l. take i kept ++ l) (next_at kept i c at)

take_next : (kept : List Change) (i : ℕ) (c : Change) → slice_get kept i ≡ Some c → take (i + 1) kept ≡ take i kept ++ c ∷ []
take_next kept i c at = take_more kept i c (slice_get_within kept i c at) ∙ ap (λ (d : Change). take i kept ++ d ∷ []) (get_or_from_slice_get kept i c c at)

all_before : (front : List Change) (c : Change) (more : List Change) → InOrder (front ++ c ∷ more) → AllByRecursion (λ d. is_before d c ≡ true) front
all_before [] c more rise = tt
all_before (a ∷ front) c more rise = ((all_back (λ d. is_before a d ≡ true) front (c ∷ more) rise.0).0, all_before front c more rise.1)

-- A change that is later than these is put behind them.
added_last : (h : List Change) (c : Change) → AllByRecursion (λ d. is_before d c ≡ true) h → add h c ≡ h ++ c ∷ []
added_last h c before =
    let front : place.earlier c h ≡ h = filter_all (λ d. is_before d c) h before in
    let back : place.later c h ≡ [] = filter_none (λ d. is_before c d) h (all_more (λ d. is_before d c ≡ true) (λ d. is_before c d ≡ false) (λ d b. before_not_back d c b) h before) in
    λ i. front i ++ c ∷ back i

-- ---- up to a place

-- The changes before this place are held and are a ledger, and what is unfit in the file is so from there on.
pub record IsBuilt (f : File) (i : ℕ) (h : Holding) : Type 0 where
  pub holds : Holds h f.members (base_of f.members [] 0) (take i f.kept)
  pub joins : EachAfter (Joins f.members) [] (take i f.kept)
  pub rest : unfit_in f ≡ first_unfit f.members (base_of f.members [] 0) (take i f.kept) (drop i f.kept)

pub built_none : (f : File) (h : Holding) → IsUntrimmed f → Holds h f.members (base_of f.members [] 0) [] → IsBuilt f 0 h
built_none f h is holds = record { holds = holds; joins = tt; rest = unfit_is f is }

-- why the change at the place is unfit behind those before it, if it is
abbrev pub unfit_at : File → ℕ → Change → Option model.Misfit
unfit_at f i c = unfit f.members (held_behind (base_of f.members [] 0) (take i f.kept)) c

-- what is unfit from the place on
rest_at : (f : File) (i : ℕ) (c : Change) (h : Holding) (o : Option model.Misfit) → IsBuilt f i h → slice_get f.kept i ≡ Some c → unfit_at f i c ≡ o → unfit_in f ≡ unless_unfit c o (first_unfit f.members (base_of f.members [] 0) (take i f.kept ++ c ∷ []) (drop (i + 1) f.kept))
rest_at f i c h o built at e =
    let b = base_of f.members [] 0 in
    built.rest ∙ ap (first_unfit f.members b (take i f.kept)) (next_at f.kept i c at) ∙ ap (λ (m : Option model.Misfit). unless_unfit c m (first_unfit f.members b (take i f.kept ++ c ∷ []) (drop (i + 1) f.kept))) e

pub change_at : (f : File) (i : ℕ) (c : Change) → IsUntrimmed f → slice_get f.kept i ≡ Some c → IsChange f.members c
change_at f i c is at = (all_back (IsChange f.members) (take i f.kept) (c ∷ drop (i + 1) f.kept) (subst (AllByRecursion (IsChange f.members)) (split_at f.kept i c at) is.is_file.kept)).0

-- One that is unfit is the first.
pub refused_at : (f : File) (i : ℕ) (c : Change) (h : Holding) (m : Misfit) → IsBuilt f i h → slice_get f.kept i ≡ Some c → unfit_at f i c ≡ Some (misfit_of m) → unfit_in f ≡ Some (refused_of c.member c.number m)
refused_at f i c h m built at e = rest_at f i c h (Some (misfit_of m)) built at e

-- ---- one more

joins_at : (f : File) (i : ℕ) (c : Change) (h : Holding) → IsUntrimmed f → IsBuilt f i h → slice_get f.kept i ≡ Some c → unfit_at f i c ≡ None → Joins f.members (take i f.kept) c
joins_at f i c h is built at fit =
    let n = f.members in
    let next = IsNextBehind (Some (base_of n [] 0)) in
    joins_if_fit n (take i f.kept) c built.joins (change_at f i c is at) (EachAfter-at next [] (take i f.kept) c (drop (i + 1) f.kept) (subst (EachAfter next []) (split_at f.kept i c at) (each_next f is))) fit

-- One that isn't unfit may join.
pub may_join_at : (f : File) (i : ℕ) (c : Change) (h : Holding) → IsUntrimmed f → IsBuilt f i h → slice_get f.kept i ≡ Some c → unfit_at f i c ≡ None → MayJoin f.members (base_of f.members [] 0) (take i f.kept) c
may_join_at f i c h is built at fit =
    let front = take i f.kept in
    ledgers_may_grow f.members front c (front_is_sound f front (c ∷ drop (i + 1) f.kept) is (split_at f.kept i c at) built.joins) (change_at f i c is at) (joins_at f i c h is built at fit)

pub is_next_at : (f : File) (i : ℕ) (c : Change) (h : Holding) → IsUntrimmed f → IsBuilt f i h → slice_get f.kept i ≡ Some c → IsNext f.members (base_of f.members [] 0) (take i f.kept) c
is_next_at f i c h is built at =
    record { is_change = change_at f i c is at; fresh = λ later. later_ids_are_free h f.members (take i f.kept) c built.holds later; joins = λ fit. may_join_at f i c h is built at fit }

pub built_more : (f : File) (i : ℕ) (c : Change) (h now : Holding) → IsUntrimmed f → IsBuilt f i h → slice_get f.kept i ≡ Some c → unfit_at f i c ≡ None → Holds now f.members (base_of f.members [] 0) (add (take i f.kept) c) → IsBuilt f (i + 1) now
built_more f i c h now is built at fit holds =
    let n = f.members in
    let b = base_of n [] 0 in
    let front = take i f.kept in
    let more = sym (take_next f.kept i c at) in
    let rise = subst InOrder (split_at f.kept i c at) (kept_rise [] f.kept is.is_file.kept_in_order) in
    let last = added_last front c (all_before front c (drop (i + 1) f.kept) rise) in
    record {
      holds = subst (Holds now n b) (last ∙ more) holds;
      joins = subst (EachAfter (Joins n) []) more (EachAfter-push (Joins n) [] front c built.joins (joins_at f i c h is built at fit));
      rest = rest_at f i c h None built at fit ∙ ap (λ (l : List Change). first_unfit n b l (drop (i + 1) f.kept)) more;
    }

-- ---- all of them

pub built_all : (f : File) (i : ℕ) (h : Holding) → IsBuilt f i h → length f.kept ≤ i → (unfit_in f ≡ None) × Holds h f.members (base_of f.members [] 0) f.kept
built_all f i h built past =
    let n = f.members in
    let b = base_of n [] 0 in (
      built.rest ∙ ap (first_unfit n b (take i f.kept)) (drop_all i f.kept past),
      subst (Holds h n b) (take_all i f.kept past) built.holds,
    )
