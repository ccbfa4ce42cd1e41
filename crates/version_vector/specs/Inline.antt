-- What every version vector keeps of how its counts are stored.
use Rattle.std.specs.Prelude.{◌≡◌, ℕ, ◌<◌, ◌≤◌}
use Rattle.smallvec.specs.SmallVec.{SmallVec, small_vec_len}

-- 1 to 32 counts, in the value itself and not in an allocation
pub record IsInline (counts : SmallVec ℕ) : Type 0 where
  pub some : 0 < small_vec_len counts
  pub few : small_vec_len counts ≤ 32
  pub in_place : counts.capacity ≡ 32
