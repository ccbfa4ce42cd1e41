-- Loads one after the other bring a front of the file, and at its end all of it.
use Rattle.std.proofs.Common.{◌≡◌, ℕ, ◌<◌, ◌≤◌, List, [], ◌++◌, length, take, drop, Option, None, Some, Result, Ok, Err, ◌+◌, refl, sym, ap, subst, ◌∙◌, append_assoc, arith, length-append}
use Rattle.std.proofs.lemmas.List.{append-nil, nil_from_length, take-append-drop}
use Rattle.std.proofs.Math.Seq.{drop-append_seam}
use Rattle.std.proofs.lemmas.Bool.{le-leb, lt-leb}
use Rattle.outside.specs.declared.keeper.Load.{Load}
use Rattle.outside.specs.declared.keeper.Load.TheVariants as loads
use Rattle.outside.specs.Keeper.{LoadsAs}
use Rattle.outside.specs.Files.{Files, file_at}
use Rattle.model.specs.File.{file_limit}
use Rattle.outline_meaning.specs.declared.status.Status.TheVariants as s
use Rattle.outline_input.specs.Input.{IsFrontOf, KeepsName}
use Rattle.outside.specs.Faults.{Rose}
use Rattle.std.specs.Option.{option_map}
use Rattle.outline_meaning.specs.Meaning.{Loaded, missing, failed, whole, read, input_bytes, exactly}
use Rattle.outline_meaning.specs.Follows.{Follows}
use Rattle.outline_meaning.specs.declared.status.Status.{Status}
use Rattle.outline_meaning.specs.Run.{Brings, BringsOf, IsLoad, IsLoadOf}
use Rattle.outside.specs.Seen.{Seen}
use Rattle.outline_meaning.proofs.MeaningLaws.{read_is}

pub front_is_whole : (held : Option (List ℕ)) (front into : List ℕ) (at : ℕ) → at ≡ length front → 0 < length into → IsFrontOf held front → LoadsAs held at into (loads.Got 0) → held ≡ Some front
front_is_whole None front into at e room f got = absurd got
front_is_whole (Some file) front into at e room f got =
    let ends : length file ≤ at = got.at_end refl room in
    let none : length f.0 ≡ 0 = omega (arith, ap length f.1, length-append front f.0) in
    ap Some (f.1 ∙ ap (λ (r : List ℕ). front ++ r) (nil_from_length f.0 none) ∙ append-nil front)

pub front_grows : (held : Option (List ℕ)) (front into : List ℕ) (at n : ℕ) → at ≡ length front → IsFrontOf held front → LoadsAs held at into (loads.Got n) → IsFrontOf held (front ++ take n into)
front_grows None front into at n e f got = absurd got
front_grows (Some file) front into at n e f got =
    let behind : drop at file ≡ f.0 = rw (e, f.1) (drop-append_seam front f.0) in
    let piece : take n into ≡ take n f.0 = got.piece ∙ ap (take n) behind in
    (drop n f.0, f.1 ∙ ap (λ (r : List ℕ). front ++ r) (sym (take-append-drop n f.0)) ∙ ap (λ (p : List ℕ). front ++ (p ++ drop n f.0)) (sym piece) ∙ sym (append_assoc front (take n into) (drop n f.0)))

pub whole_at_end : (held : Option (List ℕ)) (front into : List ℕ) (at n : ℕ) (load : Load) → load ≡ loads.Got n → n ≡ 0 → at ≡ length front → 0 < length into → IsFrontOf held front → LoadsAs held at into load → held ≡ Some front
whole_at_end held front into at n load is none e room f got =
    front_is_whole held front into at e room f (subst (λ (k : ℕ). LoadsAs held at into (loads.Got k)) none (subst (LoadsAs held at into) is got))

pub front_and_load : (held : Option (List ℕ)) (front into after : List ℕ) (at n : ℕ) (load : Load) → load ≡ loads.Got n → at ≡ length front → after ≡ front ++ take n into → IsFrontOf held front → LoadsAs held at into load → IsFrontOf held after
front_and_load held front into after at n load is e a f got =
    subst (IsFrontOf held) (sym a) (front_grows held front into at n e f (subst (LoadsAs held at into) is got))

-- no bytes stand at the front of any file
pub no_front : (held : Option (List ℕ)) (front : List ℕ) → front ≡ [] → IsFrontOf held front
no_front None front e = e
no_front (Some file) front e = (file, sym (ap (λ (r : List ℕ). r ++ file) e))

pub front_too_long : (held : Option (List ℕ)) (front : List ℕ) (limit : ℕ) → limit < length front → IsFrontOf held front → (file : List ℕ) × (held ≡ Some file) × (limit < length file)
front_too_long None front limit long f = absurd (omega (arith, ap length f))
front_too_long (Some file) front limit long f = (file, refl, omega (arith, ap length f.1, length-append front f.0))

-- ---- what was loaded

-- a load that did not fail is one where the files are told so
pub quiet_load : (old new : Seen) (name : List ℕ) (load : Loaded) → (load ≡ failed → ⊥) → ((files : Files) → old.files ≡ Some files → Brings (file_at files name) load) → IsLoad old new name load
quiet_load old new name load quiet told = record { told = told; fault = λ e. absurd (quiet e) }

load_of : (old new : Seen) (name : List ℕ) (files : Files) (there : Option (List ℕ)) → old.files ≡ Some files → file_at files name ≡ there → (load : Loaded) × IsLoad old new name load
load_of old new name files None told is = (missing, quiet_load old new name missing (λ e. cc) (λ fs also. let same : fs ≡ files = cc in rw same is))
load_of old new name files (Some bytes) told is = (whole bytes, quiet_load old new name (whole bytes) (λ e. cc) (λ fs also. let same : fs ≡ files = cc in rw same is))

some_load_at : (old new : Seen) (name : List ℕ) (told : Option Files) → old.files ≡ told → (load : Loaded) × IsLoad old new name load
some_load_at old new name None is = (missing, quiet_load old new name missing (λ e. cc) (λ files told. absurd cc))
some_load_at old new name (Some files) is = load_of old new name files (file_at files name) is refl

-- Whatever a keeper tells, its file may be loaded.
pub some_load : (old new : Seen) (name : List ℕ) → (load : Loaded) × IsLoad old new name load
some_load old new name = some_load_at old new name old.files refl

pub some_load_for : (old new : Seen) (at : Option (ℕ × List ℕ)) → (load : Loaded) × IsLoadOf old new at load
some_load_for old new None = (missing, tt)
some_load_for old new (Some at) = some_load old new at.1

has_bytes_of : (old new : Seen) (name : List ℕ) (files : Files) (there : Option (List ℕ)) → old.files ≡ Some files → file_at files name ≡ there → (there ≡ None → ⊥) → (bytes : List ℕ) × IsLoad old new name (whole bytes)
has_bytes_of old new name files None told is some = absurd (some refl)
has_bytes_of old new name files (Some bytes) told is some = (bytes, quiet_load old new name (whole bytes) (λ e. cc) (λ fs also. let same : fs ≡ files = cc in rw same is))

has_bytes_at : (old new : Seen) (name : List ℕ) (told : Option Files) → old.files ≡ told → ((files : Files) → old.files ≡ Some files → file_at files name ≡ None → ⊥) → (bytes : List ℕ) × IsLoad old new name (whole bytes)
has_bytes_at old new name None is some = ([], quiet_load old new name (whole []) (λ e. cc) (λ files told. absurd cc))
has_bytes_at old new name (Some files) is some = has_bytes_of old new name files (file_at files name) is refl (some files is)

not_missing : (there : Option (List ℕ)) (at n : ℕ) (into : List ℕ) (load : Load) → load ≡ loads.Got n → LoadsAs there at into load → there ≡ None → ⊥
not_missing None at n into load is got none = subst (LoadsAs None at into) is got
not_missing (Some file) at n into load is got none = cc

-- a load of a file that is there
pub has_bytes : (old new : Seen) (name : List ℕ) (at n : ℕ) (into : List ℕ) (load : Load) → load ≡ loads.Got n → ((files : Files) → old.files ≡ Some files → LoadsAs (file_at files name) at into load) → (bytes : List ℕ) × IsLoad old new name (whole bytes)
has_bytes old new name at n into load is answers =
    has_bytes_at old new name old.files refl (λ files told. not_missing (file_at files name) at n into load is (answers files told))

-- a file that is too long
pub record IsTooLong (old new : Seen) (word : ℕ) (name : List ℕ) : Type 0 where
  pub load : Loaded
  pub is : IsLoad old new name load
  pub reads : read word load ≡ Err (s.TooLarge word (file_limit + 1))

too_long_at : (old new : Seen) (word : ℕ) (name front : List ℕ) (told : Option Files) → old.files ≡ told → file_limit < length front → ((files : Files) → old.files ≡ Some files → IsFrontOf (file_at files name) front) → IsTooLong old new word name
too_long_at old new word name front None is long fronts =
    record { load = whole front; is = quiet_load old new name (whole front) (λ e. cc) (λ files told. absurd cc); reads = rw (lt-leb (length front) file_limit long) refl }
too_long_at old new word name front (Some files) is long fronts =
    let file = front_too_long (file_at files name) front file_limit long (fronts files is) in
    record {
      load = whole file.0;
      is = quiet_load old new name (whole file.0) (λ e. cc) (λ fs told. let same : fs ≡ files = cc in rw same file.1);
      reads = rw (lt-leb (length file.0) file_limit file.2) refl;
    }

pub too_long : (old new : Seen) (word : ℕ) (name front : List ℕ) → file_limit < length front → ((files : Files) → old.files ≡ Some files → IsFrontOf (file_at files name) front) → IsTooLong old new word name
too_long old new word name front long fronts = too_long_at old new word name front old.files refl long fronts

-- what isn't too long is read
pub read_held : (word : ℕ) (bytes : List ℕ) → length bytes ≤ file_limit → Ok bytes ≡ read word (whole bytes)
read_held word bytes short = rw (le-leb (length bytes) file_limit short) refl

-- ---- one keeper after the other

-- A load stays one where later calls count no more failed loads.
pub later_load : (old mid new : Seen) (at : Option (ℕ × List ℕ)) (load : Loaded) → new.load_faults ≡ mid.load_faults → new.last_failed ≡ mid.last_failed → IsLoadOf old mid at load → IsLoadOf old new at load
later_load old mid new None load count name is = tt
later_load old mid new (Some at) load count name is =
    record { told = is.told; fault = λ e. let f = is.fault e in record { rose = subst (Rose old.load_faults) (sym count) f.rose; named = name ∙ f.named } }

-- A load that didn't fail stays one.
pub quiet_later : (old mid new : Seen) (at : Option (ℕ × List ℕ)) (load : Loaded) (bytes : List ℕ) → Ok bytes ≡ input_bytes at load → IsLoadOf old mid at load → IsLoadOf old new at load
quiet_later old mid new None load bytes goes is = tt
quiet_later old mid new (Some at) load bytes goes is =
    quiet_load old new at.1 load (λ e. let same : load ≡ whole bytes = (read_is at.0 load bytes goes).0 in absurd cc) is.told

-- A load of a keeper that stands as an older one stood, but for its counts, is one of the older.
pub earlier_load : (old mid new : Seen) (at : Option (ℕ × List ℕ)) (load : Loaded) → mid.files ≡ old.files → old.load_faults ≤ mid.load_faults → mid.last_failed ≡ old.last_failed → IsLoadOf mid new at load → IsLoadOf old new at load
earlier_load old mid new None load files count name is = tt
earlier_load old mid new (Some at) load files count name is =
    record {
      told = λ fs e. is.told fs (files ∙ e);
      fault = λ e. let f = is.fault e in let rose = f.rose in record { rose = omega (arith, rose); named = f.named ∙ ap (option_map (λ _. Some at.1)) name };
    }

name_by : {X : Type 0} (view : X → List ℕ) (result : Result X Status) (read : Result (List ℕ) Status) (bytes : List ℕ) (old new : Option (Option (List ℕ))) → Ok bytes ≡ read → Follows view result (exactly read) → KeepsName result old new → new ≡ old
name_by view (Err (s.ReadFault word)) read bytes old new goes is keeps = absurd cc
name_by view _ read bytes old new goes is keeps = keeps

-- A load that didn't fail leaves the name of the one that did.
pub name_kept : {X : Type 0} (view : X → List ℕ) (result : Result X Status) (at : Option (ℕ × List ℕ)) (load : Loaded) (bytes : List ℕ) (old new : Option (Option (List ℕ))) → Ok bytes ≡ input_bytes at load → Follows view result (exactly (input_bytes at load)) → KeepsName result old new → new ≡ old
name_kept view result at load bytes old new goes is keeps = name_by view result (input_bytes at load) bytes old new goes is keeps

-- what is loaded brings what the files hold that are told
pub of_load : (old new : Seen) (files : Files) (at : Option (ℕ × List ℕ)) (load : Loaded) → old.files ≡ Some files → IsLoadOf old new at load → BringsOf files at load
of_load old new files None load told is = tt
of_load old new files (Some at) load told is = is.told files told
