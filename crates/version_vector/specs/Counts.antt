-- The counts of version vectors: how they compare, and the one word that spells them.
use Rattle.std.specs.Prelude.{ℕ, ◌<◌, ◌≤◌, ◌^◌, min, All, List, length, map, slice_index}
use Rattle.std.specs.List.{join_with_byte, zip}
use Rattle.std.specs.Fmt.{decimal}

-- 1 to 32 counts of 32 bits
pub record IsCounts (counts : List ℕ) : Type 0 where
  pub some : 0 < length counts
  pub few : length counts ≤ 32
  pub in_range : All (λ n. n < 2 ^ 32) counts

-- no count of the first is below that of the second
abbrev pub AtLeast : List ℕ → List ℕ → Type 0
AtLeast counts others = (m : ℕ) → m < length others → slice_index others m ≤ slice_index counts m

-- of each two counts the less
abbrev pub least_counts : List ℕ → List ℕ → List ℕ
least_counts counts others = map (λ both. min both.0 both.1) (zip counts others)

-- the counts in decimal, with a comma between each two
abbrev pub counts_word : List ℕ → List ℕ
counts_word counts = join_with_byte 44 (map decimal counts)
