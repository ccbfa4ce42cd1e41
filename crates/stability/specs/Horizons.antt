-- How far a ledger may be trimmed, by its changes one after the other.
use Rattle.std.specs.Prelude.{◌≡◌, ℕ, List, map}
use Rattle.model.specs.Base.{members}
use Rattle.model.specs.Change.{Change}
use Rattle.model.specs.Held.{Held}
use Rattle.model.specs.Stability.{stable_of, horizon_among}
use Rattle.stability.specs.declared.horizon.Horizon.{Horizon}

-- This is known to all n members of what is held, and of these changes the horizon is this.
pub record IsHorizon (n : ℕ) (past : Held) (h : List Change) (z : Horizon) : Type 0 where
  pub stable : z.stable ≡ map (stable_of n past) (members n)
  pub time : z.time ≡ horizon_among n past h
