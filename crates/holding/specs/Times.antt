-- The times of changes of one member, in the order in which it made them.
use Rattle.std.specs.Prelude.{ℕ, ◌-◌, List, cond, nat_lt, reverse, slice_get, unwrap_or}

-- the time that comes so many before the last, or 0
abbrev pub back : List ℕ → ℕ → ℕ
back times before = unwrap_or (slice_get (reverse times) before) 0

-- the time of the change of this number, where the last has that one, or 0
abbrev pub time_at : List ℕ → ℕ → ℕ → ℕ
time_at times last number = cond (nat_lt last number) 0 (back times (last - number))
