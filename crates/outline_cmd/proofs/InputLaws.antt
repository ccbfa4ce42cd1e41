-- What is made of the file that a command reads is what the command means over its bytes.
use Rattle.std.proofs.Common.{◌≡◌, ◌≢◌, ℕ, ◌≤◌, List, length, Some, None, Result, Ok, refl, sym, ap, subst, ◌∙◌}
use Rattle.std.specs.Prelude.{flat_map}
use Rattle.std.proofs.lemmas.Bool.{eq-eqb, ne_eqb}
use Rattle.model.specs.Change.{Change}
use Rattle.model.specs.Command.{Unmade, made_edit}
use Rattle.model.specs.Edit.{Edit}
use Rattle.model.specs.File.{File, Kind, file_limit, spell_file}
use Rattle.model.specs.Reading.{held_in, state_in, with_changes}
use Rattle.model.specs.Text.{made_line, show_text}
use Rattle.model.specs.View.{view}
use Rattle.doc_store.specs.Edits.{fault_of}
use Rattle.doc_store.specs.declared.edit.EditFault.{EditFault}
use Rattle.doc_store.specs.declared.edit.EditFault.TheVariants as fault
use Rattle.replica.specs.FaultText.{misfit_of}
use Rattle.replica.specs.declared.fault.Misfit.{Misfit}
use Rattle.replica.specs.declared.fault.Misfit.TheVariants as misfit
use Rattle.outline_cmd.specs.declared.answer.Answer.{Answer as AnswerStruct}
use Rattle.replica.specs.declared.fault.MemberFault.TheVariants.{Nobody}
use Rattle.outline_meaning.specs.declared.status.Status.{Status}
use Rattle.outline_meaning.specs.declared.status.Status.TheVariants as s
use Rattle.outline_meaning.specs.Meaning.{Meaning, ◌>>=◌, exactly, Roles, reads, Loaded, whole, read, opened, file_of, of_input, answered}
use Rattle.outline_meaning.specs.Outcome.{Outcome, misfit_told, edit_fault_told, told, held_by_some, fitting, with_made_lines, edited, shown}
use Rattle.outline_meaning.specs.Follows.{Refuses, Follows}
use Rattle.outline_cmd.specs.Stages.{answer_of}
use Rattle.outline_cmd.specs.Tasks.{over, answering}
use Rattle.outline_input.proofs.Loads.{read_held}
use Rattle.outline_meaning.proofs.StageLaws.{refuses_first, refuses_next, refuses_on, refuses_behind, follows_by}
use Rattle.outline_meaning.proofs.StepLaws.{on}

-- ---- faults

pub edit_fault_again : (e : EditFault) → edit_fault_told (fault_of e) ≡ e
edit_fault_again fault.NoNode = refl
edit_fault_again fault.NoIndex = refl
edit_fault_again fault.Cycle = refl
edit_fault_again fault.Fixed = refl
edit_fault_again fault.NoChars = refl
edit_fault_again fault.Empty = refl
edit_fault_again fault.TooLong = refl

pub misfit_again : (m : Misfit) → misfit_told (misfit_of m) ≡ m
misfit_again (misfit.A0 member cause count) = refl
misfit_again (misfit.A1 time last) = refl
misfit_again (misfit.A2 member cause before) = refl
misfit_again (misfit.A3 member cause_time time) = refl
misfit_again (misfit.A4 op id) = refl

-- ---- the input's file

file_refuses : (kinds : List Kind) (bytes : List ℕ) (refusal : Status) → length bytes ≤ file_limit → Refuses (opened 1 kinds bytes) refusal → Refuses (file_of 1 kinds (whole bytes)) refusal
file_refuses kinds bytes refusal short h = refuses_next (exactly (read 1 (whole bytes))) (opened 1 kinds) bytes refusal (read_held 1 bytes short) h

-- What isn't opened is refused so.
pub input_refuses : (r : Roles) (kinds : List Kind) (bytes : List ℕ) (second : Loaded) (made : File → Result Outcome Status) (refusal : Status) → length bytes ≤ file_limit
    → Refuses (opened 1 kinds bytes) refusal → Refuses (answering r (of_input kinds (over bytes second) made)) refusal
input_refuses r kinds bytes second made refusal short h =
    refuses_first (of_input kinds (over bytes second) made) _ refusal (refuses_first (file_of 1 kinds (whole bytes)) _ refusal (file_refuses kinds bytes refusal short h))

-- steps behind a first one that goes on
step_in : {A B C : Type 0} (first : Meaning A) (next : A → Meaning B) (last : B → Meaning C) (x : A) → first (Ok x) → (outcome : Result C Status) → (next x >>= last) outcome → ((first >>= next) >>= last) outcome
step_in first next last x goes outcome (step, is, rest) = (step, (Ok x, goes, is), rest)

-- What is made of the file that is opened is what is meant.
pub input_follows : (r : Roles) (kinds : List Kind) (bytes : List ℕ) (second : Loaded) (made : File → Result Outcome Status) (f : File) (result : Result AnswerStruct Status) → length bytes ≤ file_limit
    → opened 1 kinds bytes (Ok f) → Follows answer_of result (answering r (exactly (made f))) → Follows answer_of result (answering r (of_input kinds (over bytes second) made))
input_follows r kinds bytes second made f result short opens h =
    follows_by answer_of (answering r (exactly (made f))) (answering r (of_input kinds (over bytes second) made)) result
    (step_in (file_of 1 kinds (whole bytes)) (λ g. exactly (made g)) (λ o. exactly (Ok (answered r o))) f (Ok bytes, read_held 1 bytes short, opens)) h

-- ---- steps with one outcome each

-- what the first of some steps refuses
pub step_refuses : {A : Type 0} (r : Roles) (first : Result A Status) (next : A → Result Outcome Status) (refusal : Status) → Refuses (exactly first) refusal → Refuses (answering r (exactly (on first next))) refusal
step_refuses r first next refusal h = refuses_first (exactly (on first next)) _ refusal (refuses_on first next refusal h)

-- the same outcome otherwise
pub same_follows : (r : Roles) (o p : Result Outcome Status) (result : Result AnswerStruct Status) → o ≡ p → Follows answer_of result (answering r (exactly o)) → Follows answer_of result (answering r (exactly p))
same_follows r o p result e h = subst (λ (x : Result Outcome Status). Follows answer_of result (answering r (exactly x))) e h

-- ---- what is shown

pub show_means : (r : Roles) (f : File) (text : List ℕ) → Ok tt ≡ fitting 1 f → text ≡ show_text (view (state_in f)) → answering r (exactly (shown f)) (Ok (record { text = text; store = None }))
show_means r f text fits is =
    let shows : List ℕ → Outcome = λ t. record { text = t; stored = None } in
    let meant : Ok (shows text) ≡ shown f = ap (λ t. Ok (shows t)) is ∙ ap (λ p. on p (λ u. Ok (shows (show_text (view (state_in f)))))) fits in
    (Ok (shows text), meant, refl)

-- ---- what is made

-- what isn't made is refused
pub made_refuses : (r : Roles) (f : File) (meant : Result (List Change) Unmade) (refusal : Status) → Refuses (exactly (told meant)) refusal → Refuses (answering r (exactly (on (told meant) (with_made_lines f)))) refusal
made_refuses r f meant refusal h = step_refuses r (told meant) (with_made_lines f) refusal h

-- the file with the changes is stored, and their lines are printed
pub made_means : (name : List ℕ) (f : File) (meant : Result (List Change) Unmade) (cs : List Change) (text bytes : List ℕ) → meant ≡ Ok cs → text ≡ flat_map made_line cs → bytes ≡ spell_file (with_changes f cs)
    → answering (reads name) (exactly (on (told meant) (with_made_lines f))) (Ok (record { text = text; store = Some (record { word = 1; name = name; bytes = bytes }) }))
made_means name f meant cs text bytes is lines spells = (with_made_lines f cs, sym (ap (λ m. on (told m) (with_made_lines f)) is), λ i. Ok (record { text = lines i; store = Some (record { word = 1; name = name; bytes = spells i }) }))

-- ---- an edit

-- of a file that holds a member and whose changes fit
pub edit_is : (f : File) (e : Edit) → Ok tt ≡ held_by_some f → Ok tt ≡ fitting 1 f → on (told (made_edit f.members (held_in f) f.mine e)) (with_made_lines f) ≡ edited e f
edit_is f e some fits =
    let last : Result Outcome Status = on (told (made_edit f.members (held_in f) f.mine e)) (with_made_lines f) in
    ap (λ p. on p (λ v. last)) fits ∙ ap (λ p. on p (λ u. on (fitting 1 f) (λ v. last))) some

-- of one whose changes don't
pub edit_unfit : (r : Roles) (f : File) (e : Edit) (refusal : Status) → Ok tt ≡ held_by_some f → Refuses (exactly (fitting 1 f)) refusal → Refuses (answering r (exactly (edited e f))) refusal
edit_unfit r f e refusal some h =
    let last : Result Outcome Status = on (told (made_edit f.members (held_in f) f.mine e)) (with_made_lines f) in
    refuses_first (exactly (edited e f)) _ refusal (refuses_behind (held_by_some f) (λ u. on (fitting 1 f) (λ v. last)) tt refusal some (refuses_on (fitting 1 f) (λ v. last) refusal h))

-- one that holds no member edits nothing
pub edit_nobody : (r : Roles) (f : File) (e : Edit) → length f.mine ≡ 0 → Refuses (answering r (exactly (edited e f))) (s.Member Nobody)
edit_nobody r f e none =
    let last : Result Outcome Status = on (told (made_edit f.members (held_in f) f.mine e)) (with_made_lines f) in
    step_refuses r (held_by_some f) (λ u. on (fitting 1 f) (λ v. last)) (s.Member Nobody) (rw (eq-eqb (length f.mine) 0 none) refl)

pub edit_somebody : (f : File) → length f.mine ≢ 0 → Ok tt ≡ held_by_some f
edit_somebody f some = rw (ne_eqb (length f.mine) 0 some) refl
