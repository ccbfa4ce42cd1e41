-- What a sink in memory holds.
use Rattle.std.specs.Prelude.{ℕ, ◌≤◌, List, ◌++◌, length, take, ◌⊎◌, Result, Ok, Err}
use Rattle.outside.specs.Plan.{Plan, FailsNext, passed, failed}

pub record Printed : Type 0 where
  pub bytes : List ℕ
  -- how many bytes it may hold
  pub room : ℕ
  -- which puts are to fail
  pub puts : Plan

-- the next put fails: it is to fail, or there is no room
abbrev pub RefusesNext : Printed → Type 0
RefusesNext p = FailsNext p.puts ⊎ (p.room ≤ length p.bytes)

-- after a put
abbrev pub after_put : {E : Type 0} → Printed → List ℕ → Result ℕ E → Printed
after_put p piece (Ok n) = record p { bytes = p.bytes ++ take n piece; puts = passed p.puts }
after_put p piece (Err fault) = record p { puts = failed p.puts }
