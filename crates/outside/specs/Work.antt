-- Counts of work done.
use Rattle.std.specs.Prelude.{ℕ}

pub record Work : Type 0 where
  pub moves : ℕ
  pub decoded : ℕ

-- none yet
abbrev pub no_work : Work
no_work = record { moves = 0; decoded = 0 }
