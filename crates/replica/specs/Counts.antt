-- How many changes there are of each member.
use Rattle.std.specs.Prelude.{◌≡◌, ◌≢◌, ℕ, ◌<◌, List, length, map, slice_index, None}
use Rattle.std.specs.Option.{option_map_or}
use Rattle.std.specs.List.{last_or}
use Rattle.model.specs.Base.{members}
use Rattle.model.specs.Change.{Change}
use Rattle.model.specs.Held.{row_behind}
use Rattle.replica.specs.Empty.{empty_base}
use Rattle.replica.specs.declared.head.FileHead.{FileHead}

-- of a member, behind the base of no changes
abbrev pub count_behind : ℕ → List Change → ℕ → ℕ
count_behind n kept m = (row_behind (empty_base n) kept m).count

-- of all members
abbrev pub counts_behind : ℕ → List Change → List ℕ
counts_behind n kept = map (count_behind n kept) (members n)

-- These are the counts of all members; of a bundle, which has no base, nothing is asked.
pub record IsCounted (h : FileHead) (kept : List Change) (counts : List ℕ) : Type 0 where
  pub each : length counts ≡ h.doc.n
  pub are : h.kind ≢ 1 → (m : ℕ) → m < h.doc.n → slice_index counts m ≡ count_behind h.doc.n kept m

-- the time of the last of these, or 0
abbrev pub time_of_last : List Change → ℕ
time_of_last kept = option_map_or (λ c. c.time) (last_or None kept) 0
