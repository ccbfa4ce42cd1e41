-- What can be seen of a keeper from outside: what it tells, and its counts.
use Rattle.std.specs.Prelude.{◌≡◌, ℕ, List, Option, Some}
use Rattle.std.specs.Option.{option_map}
use Rattle.outside.specs.Faults.{Rose}
use Rattle.outside.specs.Files.{Files}

-- A keeper of any type, as a contract over it speaks of it: its files, if it tells them; how often loads and stores
-- have failed; and the name of the last load that failed, if any has and the keeper tells it.
pub record Seen : Type 0 where
  pub files : Option Files
  pub load_faults : ℕ
  pub store_faults : ℕ
  pub last_failed : Option (Option (List ℕ))

-- the same of a keeper, by the members of its trait
abbrev pub seen_by : {K : Type 0} → (K → Option Files) → (K → ℕ) → (K → ℕ) → (K → Option (Option (List ℕ))) → K → Seen
seen_by files load_faults store_faults last_failed keeper =
    record {
      files = files keeper;
      load_faults = load_faults keeper;
      store_faults = store_faults keeper;
      last_failed = last_failed keeper;
    }

-- A load of the file with this name failed: the keeper counted it, and where it tells the name, it is this one.
pub record LoadFailed (name : List ℕ) (old new : Seen) : Type 0 where
  pub rose : Rose old.load_faults new.load_faults
  pub named : new.last_failed ≡ option_map (λ _. Some name) old.last_failed
