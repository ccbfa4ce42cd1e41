-- The stages of a command, one after the other, answer what it means.
use Rattle.std.proofs.Common.{◌≡◌, ℕ, ◌≤◌, List, Option, Result, Ok, Err, sym, subst, ◌∙◌, arith}
use Rattle.outside.specs.Seen.{Seen}
use Rattle.outside.specs.Work.{Work}
use Rattle.outline_words.specs.Table.{Order}
use Rattle.outline_cmd.specs.declared.answer.Answer.{Answer as AnswerStruct}
use Rattle.outline_meaning.specs.declared.status.Status.{Status}
use Rattle.outline_input.specs.Input.{KeepsName}
use Rattle.outline_meaning.specs.Meaning.{Meaning, ◌>>=◌, exactly, Named, roles, Loaded, Loads, input_bytes, unused, Answer, sized, order_made, order_meaning}
use Rattle.outline_meaning.specs.Run.{AreLoads, IsLoadOf}
use Rattle.outline_meaning.specs.Scope.{taken_order}
use Rattle.outline_meaning.specs.Follows.{Refuses, Follows}
use Rattle.outline_cmd.specs.Stages.{answer_of}
use Rattle.outline_cmd.specs.Tasks.{order_made_of, over}
use Rattle.outline_meaning.specs.Works.{OrderWorks}
use Rattle.outline_cmd.proofs.LinkLaws.{made_means, refusal_means, second_read, unread_means}
use Rattle.outline_input.proofs.Loads.{some_load_for, quiet_later, earlier_load, name_kept}
use Rattle.outline_meaning.proofs.StageLaws.{refuses_first, refuses_by, follows_next}
use Rattle.outline_cmd.proofs.WorkLaws.{idle, loaded_work}

-- ---- the stages

-- what is meant over some loads of a command's files, and what is counted over them
abbrev pub IsMeant : Seen → Seen → Order → Work → Work → Result AnswerStruct Status → Type 0
IsMeant old new order before now result = (loads : Loads) × AreLoads old new (roles order) loads × Follows answer_of result (order_meaning loads order) × OrderWorks order loads before now

-- its file isn't read
pub input_refused : (old new : Seen) (order : Order) (work : Work) (at : Option Named) (load : Loaded) (status : Status) → at ≡ (roles order).input → IsLoadOf old new at load
    → Refuses (exactly (input_bytes at load)) status → IsMeant old new order work work (Err status)
input_refused old new order work at load status named is refuses =
    let other = some_load_for old new (roles order).second in
    let new_load = some_load_for old new (roles order).new in
    let loads : Loads = record { input = load; second = other.0; new = new_load.0 } in (
      loads,
      record { input = subst (λ (n : Option Named). IsLoadOf old new n load) named is; second = other.1; new_file = new_load.1 },
      refuses_first (order_made loads order) _ status
          (refuses_by (exactly (input_bytes (roles order).input load)) (order_made loads order) status
          (λ (e : Err status ≡ input_bytes (roles order).input load). unread_means order loads status (sym e))
          (subst (λ (n : Option Named). Refuses (exactly (input_bytes n load)) status) named refuses)),
      idle order loads work,
    )

-- The first file was read, and this was loaded of the second, if there is one.
pub record AreLoaded (old new : Seen) (order : Order) (bytes : List ℕ) (second : Loaded) : Type 0 where
  pub load : Loaded
  pub input : IsLoadOf old new (roles order).input load
  pub reads : input_bytes (roles order).input load ≡ Ok bytes
  pub other : IsLoadOf old new (roles order).second second
  pub files : new.files ≡ old.files
  pub count : old.load_faults ≤ new.load_faults
  pub name : (b : List ℕ) → Ok b ≡ input_bytes (roles order).second second → new.last_failed ≡ old.last_failed

-- one load after the other
pub are_loaded : {X : Type 0} (view : X → List ℕ) (old mid new : Seen) (order : Order) (at at2 : Option Named) (load load2 : Loaded) (bytes : List ℕ) (result : Result X Status) → at ≡ (roles order).input → at2 ≡ (roles order).second
    → IsLoadOf old mid at load → Ok bytes ≡ input_bytes at load → mid.files ≡ old.files → old.load_faults ≤ mid.load_faults → mid.last_failed ≡ old.last_failed
    → IsLoadOf mid new at2 load2 → Follows view result (exactly (input_bytes at2 load2)) → new.files ≡ mid.files → mid.load_faults ≤ new.load_faults → KeepsName result mid.last_failed new.last_failed → AreLoaded old new order bytes load2
are_loaded view old mid new order at at2 load load2 bytes result named named2 is read files count name is2 follows files2 count2 keeps = record {
  load = load;
  input = subst (λ (n : Option Named). IsLoadOf old new n load) named (quiet_later old mid new at load bytes read is);
  reads = sym (subst (λ (n : Option Named). Ok bytes ≡ input_bytes n load) named read);
  other = subst (λ (n : Option Named). IsLoadOf old new n load2) named2 (earlier_load old mid new at2 load2 files count name is2);
  files = files2 ∙ files;
  count = omega arith;
  name = λ b goes. name_kept view result at2 load2 b mid.last_failed new.last_failed (subst (λ (n : Option Named). Ok b ≡ input_bytes n load2) (sym named2) goes) follows keeps ∙ name;
}

-- nothing is made of them
pub make_refused : (old new : Seen) (order : Order) (before now : Work) (second : Loaded) (bytes : List ℕ) (status : Status) → taken_order order ≡ Ok tt → AreLoaded old new order bytes second → Refuses (order_made_of order bytes second) status
    → OrderWorks order (over bytes second) before now → IsMeant old new order before now (Err status)
make_refused old new order before now second bytes status taken are refuses works =
    let new_load = some_load_for old new (roles order).new in
    let loads : Loads = record { input = are.load; second = second; new = new_load.0 } in (
      loads,
      record { input = are.input; second = are.other; new_file = new_load.1 },
      refuses_first (order_made loads order) _ status
          (refuses_by (order_made_of order bytes second) (order_made loads order) status (λ (e : order_made_of order bytes second (Err status)). refusal_means order loads bytes are.reads taken status e) refuses),
      loaded_work order loads bytes before now are.reads works,
    )

-- What is left of a command behind what it makes.
abbrev pub ends_with : Option Named → Loaded → Answer → Meaning Answer
ends_with at load a = exactly (unused at load) >>= λ u. exactly (sized a)

-- its answer is made, and its new name and the size of its file are looked at
pub made_ends : (old mid new : Seen) (order : Order) (before now : Work) (at : Option Named) (second load : Loaded) (bytes : List ℕ) (a : Answer) (result : Result AnswerStruct Status) → at ≡ (roles order).new → taken_order order ≡ Ok tt
    → AreLoaded old mid order bytes second → order_made_of order bytes second (Ok a) → OrderWorks order (over bytes second) before now → IsLoadOf mid new at load → Follows answer_of result (ends_with at load a)
    → IsMeant old new order before now result
made_ends old mid new order before now at second load bytes a result named taken are made works is follows =
    let loads : Loads = record { input = are.load; second = second; new = load } in
    let (o, means, same) = made_means order loads bytes are.reads taken a made in
    let (b, goes) = second_read order loads o means in (
      loads,
      record {
        input = quiet_later old mid new (roles order).input are.load bytes (sym are.reads) are.input;
        second = quiet_later old mid new (roles order).second second b goes are.other;
        new_file = subst (λ (n : Option Named). IsLoadOf old new n load) named (earlier_load old mid new at load are.files are.count (are.name b goes) is);
      },
      follows_next answer_of (order_made loads order) _ o result means
          (subst (λ (c : Answer). Follows answer_of result (ends_with (roles order).new load c)) (sym same) (subst (λ (n : Option Named). Follows answer_of result (ends_with n load a)) named follows)),
      loaded_work order loads bytes before now are.reads works,
    )
