-- The change that an edit makes of a file whose kept changes fit.
use Rattle.std.proofs.Common.{◌≡◌, ℕ, ◌+◌, ◌<◌, ◌≤◌, ◌^◌, List, [], ◌∷◌, ◌++◌, length, map, max, refl, sym, ap, subst, ◌∙◌, arith}
use Rattle.std.specs.Prelude.{Some, None, Err, fold, slice_get}
use Rattle.std.specs.List.{AllByRecursion}
use Rattle.std.proofs.lemmas.List.{append-nil}
use Rattle.model.specs.Base.{Base, base_of}
use Rattle.model.specs.Change.{Change, IsChange}
use Rattle.model.specs.Command.{nobody, clocked, made_edit, one_made, planned, wrong}
use Rattle.model.specs.Edit.{Edit, WrongEdit, edit_fault, faults, plan}
use Rattle.model.specs.File.{File, HasBase, IsBase, Kind, bundle, member_file, snapshot}
use Rattle.model.specs.Held.{held_behind}
use Rattle.model.specs.Operation.{Operation}
use Rattle.model.specs.Reading.{held_in, state_in, unfit_in}
use Rattle.model.specs.State.{State, after, atoms, replay}
use Rattle.model.specs.Stands.{IsStored}
use Rattle.model_laws.proofs.ListLaws.{all_from_map, fold_max_each, nil_from_none}
use Rattle.keeping_laws.specs.Forms.{IsEdit}
use Rattle.keeping_laws.proofs.BaseLaws.{IsOn, base_formed, moved_on}
use Rattle.keeping_laws.proofs.EditForms.{ArePlanned, plan_is}
use Rattle.doc_store.specs.Edits.{Fails, fault_of}
use Rattle.doc_store.specs.declared.edit.PlanFault.{PlanFault}
use Rattle.doc_store.specs.declared.edit.PlanFault.TheVariants as reasons
use Rattle.replica.specs.Counts.{counts_behind, time_of_last}
use Rattle.replica.proofs.PartLaws.{all_at}
use Rattle.member_replica.specs.Making.{Makes, fault_by}
use Rattle.member_replica.specs.Makings.{IsMaking, clocked_by}
use Rattle.member_replica.specs.declared.made.Makings.{Makings}
use Rattle.member_replica.proofs.ClockLaws.{clocked_is}
use Rattle.member_replica.proofs.MadeLaws.{stored_few}
use Rattle.member_replica.proofs.SoundLaws.{IsUntrimmed, base_is, kept_are_sound, kept_rise}

-- a file that has a base has one that keeps the rules
base_kept : (n : ℕ) (k : Kind) (b : Base) → HasBase n k (Some b) → IsBase n b
base_kept n member_file b is = is
base_kept n bundle b is = absurd cc
base_kept n snapshot b is = is

-- Its document is that of its changes.
state_is : (f : File) → IsUntrimmed f → state_in f ≡ replay f.kept
state_is f is = ap (λ (b : Base). after b.state (atoms f.kept)) (base_is f is)

-- An edit without faults plans operations in form.
pub edit_planned : (f : File) (e : Edit) → IsUntrimmed f → unfit_in f ≡ None → IsEdit e → edit_fault (state_in f) e ≡ None → ArePlanned f.members (plan (state_in f) e)
edit_planned f e is fit form none =
    let n = f.members in
    let base : IsBase n (base_of n [] 0) = base_kept n f.kind (base_of n [] 0) (subst (HasBase n f.kind) is.base is.is_file.base) in
    let last : ℕ = fold max 0 (map (λ (c : Change). c.time) f.kept) in
    let by : AllByRecursion (λ (c : Change). c.time ≤ last) f.kept = all_from_map (λ t. t ≤ last) (λ (c : Change). c.time) f.kept (fold_max_each 0 (map (λ (c : Change). c.time) f.kept)) in
    let on : IsOn n last (replay f.kept) = moved_on n 0 last [] f.kept (omega arith) (kept_are_sound f is fit) (record { formed = base_formed n (base_of n [] 0) base; stand = base.stand }) is.is_file.kept by in
    let state = state_is f is in
    let no_fault : edit_fault (replay f.kept) e ≡ None = ap (λ (s : State). edit_fault s e) (sym state) ∙ none in
    subst (λ (s : State). ArePlanned n (plan s e)) (sym state) (plan_is n last (replay f.kept) is.is_file.header.members_some on e form (nil_from_none (faults (replay f.kept) e) no_fault))

-- ---- what an edit comes to

pub edited_by_nobody : (f : File) (e : Edit) → length f.mine ≡ 0 → made_edit f.members (held_in f) f.mine e ≡ Err nobody
edited_by_nobody f e none = no_one f.mine none
  where
    no_one : (mine : List ℕ) → length mine ≡ 0 → made_edit f.members (held_in f) mine e ≡ Err nobody
    no_one [] l = refl
    no_one (m ∷ ms) l = absurd (omega arith)

-- the least member makes it
edited_by : (f : File) (e : Edit) (m : ℕ) → slice_get f.mine 0 ≡ Some m → made_edit f.members (held_in f) f.mine e ≡ planned f.members (held_in f) m e (edit_fault (state_in f) e)
edited_by f e m first = least f.mine first
  where
    least : (mine : List ℕ) → slice_get mine 0 ≡ Some m → made_edit f.members (held_in f) mine e ≡ planned f.members (held_in f) m e (edit_fault (state_in f) e)
    least [] is = absurd cc
    least (k ∷ ks) is = (let same : k ≡ m = cc in ap (λ j. planned f.members (held_in f) j e (edit_fault (state_in f) e)) same)

pub wrongly_edited : (f : File) (e : Edit) (m : ℕ) (w : WrongEdit) → slice_get f.mine 0 ≡ Some m → edit_fault (state_in f) e ≡ Some w → made_edit f.members (held_in f) f.mine e ≡ Err (wrong w)
wrongly_edited f e m w first is = edited_by f e m first ∙ ap (planned f.members (held_in f) m e) is

-- Without a fault it is one change, if the clock goes on.
pub edited : (f : File) (e : Edit) (m : ℕ) → IsUntrimmed f → m < f.members → slice_get f.mine 0 ≡ Some m → edit_fault (state_in f) e ≡ None
    → made_edit f.members (held_in f) f.mine e ≡ one_made (clocked_by (time_of_last f.kept) (counts_behind f.members f.kept) m (plan (state_in f) e))
edited f e m is lt first none =
    let n = f.members in
    let os = plan (state_in f) e in
    edited_by f e m first
    ∙ ap (planned n (held_in f) m e) none
    ∙ ap (λ (b : Base). one_made (clocked n (held_behind b f.kept) m os)) (base_is f is)
    ∙ ap one_made (clocked_is n f.kept m os (kept_rise [] f.kept is.is_file.kept_in_order) (below f.kept is.is_file.kept) lt)
  where
    below : (cs : List Change) → AllByRecursion (IsChange f.members) cs → AllByRecursion (λ c. c.member < f.members) cs
    below [] are = tt
    below (c ∷ cs) are = (are.0.member, below cs are.1)

-- ---- as the code goes

-- A plan that is refused is what is wrong.
pub plan_refused : (f : File) (e : Edit) (m : ℕ) (s : State) (fault : PlanFault) → slice_get f.mine 0 ≡ Some m → s ≡ state_in f → Fails (faults s e) fault → Makes f (made_edit f.members (held_in f) f.mine e) (Err (fault_by fault))
plan_refused f e m s (reasons.Edit fault word) first state fails =
    wrongly_edited f e m (record { fault = fault_of fault; word = word }) first (ap (λ (t : State). edit_fault t e) (sym state) ∙ fails)
plan_refused f e m s reasons.NoMemory first state fails = tt

-- The least member edits with these operations.
pub record Edits (f : File) (e : Edit) (m : ℕ) (os : List Operation) : Type 0 where
  pub below : m < f.members
  pub planned : ArePlanned f.members os
  pub meant : made_edit f.members (held_in f) f.mine e ≡ one_made (clocked_by (time_of_last f.kept) (counts_behind f.members f.kept) m os)

pub edits_with : (f : File) (e : Edit) (m : ℕ) (os : List Operation) (s : State) → IsUntrimmed f → unfit_in f ≡ None → IsEdit e → slice_get f.mine 0 ≡ Some m → s ≡ state_in f → os ≡ plan s e → edit_fault s e ≡ None → Edits f e m os
edits_with f e m os s is fit form first state plans none =
    let n = f.members in
    let ops : plan (state_in f) e ≡ os = ap (λ (t : State). plan t e) (sym state) ∙ sym plans in
    let no_fault : edit_fault (state_in f) e ≡ None = ap (λ (t : State). edit_fault t e) (sym state) ∙ none in
    let lt : m < n = all_at (λ k. k < n) f.mine 0 m is.is_file.header.mine_below first in
    record {
      below = lt;
      planned = subst (ArePlanned n) ops (edit_planned f e is fit form no_fault);
      meant = edited f e m is lt first no_fault ∙ ap (λ l. one_made (clocked_by (time_of_last f.kept) (counts_behind n f.kept) m l)) ops;
    }

-- What is made first is what is meant.
pub edit_is : (f : File) (e : Edit) (m : ℕ) (os : List Operation) (makings : Makings) → Edits f e m os → IsMaking f [] makings → made_edit f.members (held_in f) f.mine e ≡ one_made (clocked_by makings.time makings.counts m os)
edit_is f e m os makings edits making =
    let none = append-nil f.kept in
    let time = ap time_of_last (sym none) ∙ sym making.time in
    let counts = ap (counts_behind f.members) (sym none) ∙ sym making.counts in
    edits.meant ∙ (λ i. one_made (clocked_by (time i) (counts i) m os))

pub edit_has_room : (bytes : List ℕ) (f : File) → IsStored bytes f → length (f.kept ++ []) + 1 < 2 ^ 32
edit_has_room bytes f stored = omega (arith, ap length (append-nil f.kept), stored_few bytes f stored)
