-- What a run answers, and what it prints and leaves.
use Rattle.std.specs.Prelude.{◌≡◌, ◌⊎◌, ◌≤◌, ℕ, List, take, Option, None, Some, IsSome, Ok, Err}
use Rattle.std.specs.Option.{option_map}
use Rattle.outside.specs.Faults.{Rose}
use Rattle.outside.specs.Files.{Files, file_at, stored}
use Rattle.outside.specs.Seen.{Seen, LoadFailed}
use Rattle.outside.specs.Sink.{appended}
use Rattle.outline_words.specs.Table.{Order}
use Rattle.outline_meaning.specs.declared.status.Status.{Status}
use Rattle.outline_meaning.specs.declared.status.Status.TheVariants.{NoMemory}
use Rattle.outline_meaning.specs.Ending.{Ending, ending, done, unstored, unprinted, no_memory, refused}
use Rattle.outline_meaning.specs.Meaning.{Meaning, Answer, Store, Named, Roles, roles, Loaded, missing, failed, whole, Loads, ordered, meaning}

-- ---- what is seen of the outside

-- what a sink was given, if it tells, and how often it failed
pub record Given : Type 0 where
  pub written : Option (List ℕ)
  pub faults : ℕ

-- the same of a sink of any type, by the members of its trait
abbrev pub given_by : {S : Type 0} → (S → Option (List ℕ)) → (S → ℕ) → S → Given
given_by written faults sink = record { written = written sink; faults = faults sink }

-- a keeper and a sink
pub record Outside : Type 0 where
  pub keeper : Seen
  pub sink : Given

abbrev pub outside_by : Seen → Given → Outside
outside_by keeper sink = record { keeper = keeper; sink = sink }

-- ---- loads

-- what is held under a name brings this load, where it doesn't fail
abbrev pub Brings : Option (List ℕ) → Loaded → Type 0
Brings held missing = held ≡ None
Brings held failed = Unit {0}
Brings held (whole bytes) = held ≡ Some bytes

abbrev pub BringsOf : Files → Option Named → Loaded → Type 0
BringsOf files None load = Unit {0}
BringsOf files (Some at) load = Brings (file_at files at.1) load

-- The files bring these loads, where they don't fail.
pub record AreOf (files : Files) (r : Roles) (loads : Loads) : Type 0 where
  pub input : BringsOf files r.input loads.input
  pub second : BringsOf files r.second loads.second
  pub new_file : BringsOf files r.new loads.new

-- This is the load of the file with this name: where the files are told, it brings what the file holds, and where it failed, the keeper counted it.
pub record IsLoad (old new : Seen) (name : List ℕ) (load : Loaded) : Type 0 where
  pub told : (files : Files) → old.files ≡ Some files → Brings (file_at files name) load
  pub fault : load ≡ failed → LoadFailed name old new

abbrev pub IsLoadOf : Seen → Seen → Option Named → Loaded → Type 0
IsLoadOf old new None load = Unit {0}
IsLoadOf old new (Some at) load = IsLoad old new at.1 load

-- The loads of a command's files.
pub record AreLoads (old new : Seen) (r : Roles) (loads : Loads) : Type 0 where
  pub input : IsLoadOf old new r.input loads.input
  pub second : IsLoadOf old new r.second loads.second
  pub new_file : IsLoadOf old new r.new loads.new

-- ---- answers

-- the files with what is to be stored among them
abbrev pub with_store : Option Store → Files → Files
with_store None files = files
with_store (Some store) files = stored files store.name store.bytes

abbrev pub with_store_told : Option Store → Option Files → Option Files
with_store_told store told = option_map (with_store store) told

-- The files hold what is stored, and are else as they were, where they are told.
abbrev pub Stored : Option Store → Outside → Outside → Type 0
Stored store before after = after.keeper.files ≡ with_store_told store before.keeper.files

abbrev pub Printed : List ℕ → Option (List ℕ) → Option (List ℕ) → Type 0
Printed text before after = after ≡ appended before text

abbrev pub Unchanged : Outside → Outside → Type 0
Unchanged before after = (after.keeper.files ≡ before.keeper.files) × (after.sink.written ≡ before.sink.written)

-- All, or nothing. After SinkFault the store stands, and a front of the text was printed.
abbrev pub AnswersAs : Ending → Status → Meaning Answer → Outside → Outside → Type 0
AnswersAs done status meant before after = (a : Answer) × meant (Ok a) × Stored a.store before after × Printed a.text before.sink.written after.sink.written
AnswersAs unstored status meant before after =
    ((a : Answer) × meant (Ok a) × IsSome a.store) × Unchanged before after × Rose before.keeper.store_faults after.keeper.store_faults
AnswersAs unprinted status meant before after =
    (a : Answer) × meant (Ok a) × Stored a.store before after × ((len : ℕ) × Printed (take len a.text) before.sink.written after.sink.written) × Rose before.sink.faults after.sink.faults
AnswersAs no_memory status meant before after = Unchanged before after
AnswersAs refused status meant before after = meant (Err status) × Unchanged before after

-- what the status says of what is meant, and what was stored and printed
abbrev pub Answers : Status → Meaning Answer → Outside → Outside → Type 0
Answers status = AnswersAs (ending status) status

-- counts of faults don't fall
pub record Later (before after : Outside) : Type 0 where
  pub loads : before.keeper.load_faults ≤ after.keeper.load_faults
  pub stores : before.keeper.store_faults ≤ after.keeper.store_faults
  pub puts : before.sink.faults ≤ after.sink.faults

-- A command line was run: the status, the store and the text are those that are meant over what was loaded. Memory was wanting only for
-- words that give a command, and no store failed but where one is meant.
pub record Runs (status : Status) (line : ℕ) (words : List (List ℕ)) (before after : Outside) : Type 0 where
  pub loads : Loads
  pub loaded : (order : Order) → ordered line words (Ok order) → AreLoads before.keeper after.keeper (roles order) loads
  pub answers : Answers status (meaning loads line words) before after
  pub worded : status ≡ NoMemory → (order : Order) × ordered line words (Ok order)
  pub tried : (after.keeper.store_faults ≡ before.keeper.store_faults) ⊎ ((a : Answer) × meaning loads line words (Ok a) × IsSome a.store)
  pub later : Later before after
