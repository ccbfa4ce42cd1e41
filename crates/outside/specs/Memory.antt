-- What a keeper in memory holds.
use Rattle.std.specs.Prelude.{ℕ, ◌-◌, List, length, min, Option, None, Some, Result, Ok, Err, refl}
use Rattle.std.specs.Coded.{Coded, code_by, coded×, coded_ℕ, coded_list, coded_option}
use Rattle.outside.specs.declared.keeper.Load.{Load}
use Rattle.outside.specs.declared.keeper.Load.TheVariants as found
use Rattle.outside.specs.declared.keeper.KeeperFault.{KeeperFault}
use Rattle.outside.specs.declared.keeper.KeeperFault.TheVariants as faults
use Rattle.outside.specs.Files.{Files, stored}
use Rattle.outside.specs.Plan.{Plan, new_plan, passed, failed}
use Rattle.std.specs.FinMap as map

pub record Memory : Type 0 where
  pub files : Files
  -- which loads are to fail
  pub loads : Plan
  -- which stores are to fail
  pub stores : Plan
  -- the name of the last load that failed, if any has
  pub failed_load : Option (List ℕ)

-- a plan is told apart by its fields, and so is a keeper
abbrev pub plan_code : Coded Plan
plan_code =
    code_by (List ℕ × (ℕ × ℕ)) (coded× (coded_list coded_ℕ) (coded× coded_ℕ coded_ℕ))
    (λ p. (p.failing, (p.next, p.faults)))
    (λ c. record { failing = c.0; next = c.1.0; faults = c.1.1 })
    (λ _. refl)

abbrev pub memory_code : Coded Memory
memory_code =
    code_by ((Files × Option (List ℕ)) × (Plan × Plan))
    (coded× (coded× (map.code (coded_list coded_ℕ) (coded_list coded_ℕ)) (coded_option (coded_list coded_ℕ))) (coded× plan_code plan_code))
    (λ m. ((m.files, m.failed_load), (m.loads, m.stores)))
    (λ c. record { files = c.0.0; loads = c.1.0; stores = c.1.1; failed_load = c.0.1 })
    (λ _. refl)

-- no files yet, and which loads and stores are to fail
abbrev pub new_memory : List ℕ → List ℕ → Memory
new_memory fail_loads fail_stores =
    record { files = map.empty; loads = new_plan fail_loads; stores = new_plan fail_stores; failed_load = None }

-- what a load from a place finds: as many bytes as there are and fit
abbrev pub load_of : Option (List ℕ) → ℕ → ℕ → Load
load_of None at room = found.Missing
load_of (Some bytes) at room = found.Got (min room (length bytes - at))

-- after a load
abbrev pub after_load : {T : Type 0} → Memory → List ℕ → Result T KeeperFault → Memory
after_load m name (Ok load) = record m { loads = passed m.loads }
after_load m name (Err faults.Failed) = record m { loads = failed m.loads; failed_load = Some name }
after_load m name (Err faults.NoMemory) = record m { loads = passed m.loads }

-- after a store
abbrev pub after_store : {T : Type 0} → Memory → List ℕ → List ℕ → Result T KeeperFault → Memory
after_store m name bytes (Ok done) = record m { files = stored m.files name bytes; stores = passed m.stores }
after_store m name bytes (Err faults.Failed) = record m { stores = failed m.stores }
after_store m name bytes (Err faults.NoMemory) = record m { stores = passed m.stores }
