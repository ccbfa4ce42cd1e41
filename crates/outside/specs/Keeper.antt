-- What the calls of a keeper answer and change.
use Rattle.std.specs.Prelude.{◌≡◌, ℕ, ◌-◌, ◌<◌, ◌≤◌, List, length, take, drop, Option, None, Some, Result, Ok, Err, IfOk}
use Rattle.std.specs.Option.{option_map}
use Rattle.outside.specs.declared.keeper.Load.{Load}
use Rattle.outside.specs.declared.keeper.Load.TheVariants as loads
use Rattle.outside.specs.declared.keeper.KeeperFault.{KeeperFault}
use Rattle.outside.specs.declared.keeper.KeeperFault.TheVariants as faults
use Rattle.outside.specs.Files.{Files, file_at, stored}

-- the first n bytes of the buffer are those of the file from `at` on, and none only past its end or without room
pub record GotFrom (bytes : List ℕ) (at n : ℕ) (into : List ℕ) : Type 0 where
  pub piece : take n into ≡ take n (drop at bytes)
  pub within : n ≤ length bytes - at
  pub at_end : n ≡ 0 → 0 < length into → length bytes ≤ at

-- what a load answers for a file, if it is there, and leaves in the buffer
abbrev pub LoadsAs : Option (List ℕ) → ℕ → List ℕ → Load → Type 0
LoadsAs None at into loads.Missing = Unit {0}
LoadsAs None at into (loads.Got n) = ⊥
LoadsAs (Some bytes) at into loads.Missing = ⊥
LoadsAs (Some bytes) at into (loads.Got n) = GotFrom bytes at n into

-- where the keeper tells its files, a load that did not fail gave what they hold
abbrev pub Loads : Option Files → List ℕ → ℕ → List ℕ → Result Load KeeperFault → Type 0
Loads told name at into result = (files : Files) → told ≡ Some files → IfOk result (LoadsAs (file_at files name) at into)

-- a load writes the front of the buffer that it counts, and nothing behind it
abbrev pub FillsFront : List ℕ → List ℕ → Load → Type 0
FillsFront old new loads.Missing = new ≡ old
FillsFront old new (loads.Got n) = (n ≤ length old) × (drop n new ≡ drop n old)

-- the name of the load that failed now, or what was known before
abbrev pub failed_name : {T : Type 0} → Option (Option (List ℕ)) → List ℕ → Result T KeeperFault → Option (Option (List ℕ))
failed_name told name (Ok load) = told
failed_name told name (Err faults.Failed) = option_map (λ _. Some name) told
failed_name told name (Err faults.NoMemory) = told

-- the files after a store
abbrev pub files_after : {T : Type 0} → Option Files → List ℕ → List ℕ → Result T KeeperFault → Option Files
files_after told name bytes (Ok done) = option_map (λ files. stored files name bytes) told
files_after told name bytes (Err fault) = told

-- what a run of loads leaves of a keeper, by what it tells of its files and by its counts of faults
pub record OnlyLoaded {K : Type 0} (files : K → Option Files) (load_faults store_faults : K → ℕ) (old new : K) : Type 0 where
  pub same_files : files new ≡ files old
  pub same_stores : store_faults new ≡ store_faults old
  pub later : load_faults old ≤ load_faults new
