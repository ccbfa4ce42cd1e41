-- A plan of faults: which calls of one kind are to fail, and how far the calls have come.
use Rattle.std.specs.Prelude.{ℕ, List, Contains}
use Rattle.outside.specs.Faults.{raised}

-- The calls are numbered from 0, and a number at the end of 64 bits stands still.
pub record Plan : Type 0 where
  -- the numbers of the calls that are to fail
  pub failing : List ℕ
  -- the number of the next call
  pub next : ℕ
  -- how many calls have failed
  pub faults : ℕ

-- before the first call
abbrev pub new_plan : List ℕ → Plan
new_plan failing = record { failing = failing; next = 0; faults = 0 }

-- the next call is to fail
abbrev pub FailsNext : Plan → Type 0
FailsNext plan = Contains plan.failing plan.next

-- after a call that counts as no fault
abbrev pub passed : Plan → Plan
passed plan = record plan { next = raised plan.next }

-- after a call that counts as a fault
abbrev pub failed : Plan → Plan
failed plan = record plan { next = raised plan.next; faults = raised plan.faults }
