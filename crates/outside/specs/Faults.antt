-- Counts of faults, which have 64 bits: one at its end stands still.
use Rattle.std.specs.Prelude.{ℕ, ◌+◌, ◌-◌, ◌^◌, ◌≤◌, max, min, Result, Ok, Err, IsErrOf}

-- one more, or the same where the count stands at its end
abbrev pub raised : ℕ → ℕ
raised n = max n (min (n + 1) (2 ^ 64 - 1))

-- a count of faults rose, or stands at its end
abbrev pub Rose : ℕ → ℕ → Type 0
Rose before now = min (before + 1) (2 ^ 64 - 1) ≤ now

-- a count never falls, and the answer `fault` comes only where it rose
pub record HasCause {T E : Type 0} (fault : E) (before now : ℕ) (result : Result T E) : Type 0 where
  pub later : before ≤ now
  pub failed : IsErrOf result fault → Rose before now

-- a count of faults after a call: each error raises it
abbrev pub counted : {T E : Type 0} → ℕ → Result T E → ℕ
counted n (Ok x) = n
counted n (Err e) = raised n
