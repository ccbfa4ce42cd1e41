-- What is held, told by counts alone, and who of the ready ones comes first.
use Rattle.std.specs.Prelude.{◌≡◌, ℕ, ◌<◌, Bool, if◌then◌else◌, List, [], length, slice_index, Option, Some, None}
use Rattle.std.specs.List.{AllByRecursion}
use Rattle.op_ids.specs.Order.{stamp_lt}
use Rattle.model.specs.State.{empty_state}
use Rattle.model.specs.Change.{Change, IsChange, change_stamp}
use Rattle.model.specs.Held.{Held, is_ready}
use Rattle.model.specs.Settle.{Settling, begun, offered_one, least_ready}
use Rattle.causal_inbox.specs.declared.ready.Candidate.{Candidate}

-- A reading of what is held that counts so many changes of each member. Which changes are known, and which are ready, is told by these counts alone.
abbrev pub counted : List ℕ → Held
counted counts = record { row = λ m. record { count = slice_index counts m; last = 0; known = [] }; time = λ _. 0; state = empty_state }

abbrev pub IsReady : List ℕ → Change → Bool
IsReady held c = is_ready (length held) (counted held) c

-- the least ready change of those that wait
abbrev pub first_ready : List ℕ → List Change → Option Change
first_ready held pool = least_ready (length held) (counted held) pool

-- a ready change by its place in the order, and its number
abbrev pub candidate_of : Change → Candidate
candidate_of c = record { stamp = change_stamp c; number = c.number }

abbrev pub lesser_of : Option Candidate → Option Candidate → Option Candidate
lesser_of None b = b
lesser_of (Some a) None = Some a
lesser_of (Some a) (Some b) = Some (if stamp_lt b.stamp a.stamp then b else a)

-- The counts are those of what is held.
abbrev pub Counts : Held → List ℕ → Type 0
Counts past counts = (m : ℕ) → m < length counts → (past.row m).count ≡ slice_index counts m

-- So receiving may ask the counts in place of what is held, in each of its steps.
pub record AskCounts (past : Held) (counts : List ℕ) : Type 0 where
  pub begins : (h waiting : List Change) → AllByRecursion (IsChange (length counts)) waiting → begun past h waiting ≡ begun (counted counts) h waiting
  pub offers : (kept : List Change) (s : Settling) (c : Change) → IsChange (length counts) c → offered_one past kept s c ≡ offered_one (counted counts) kept s c
  pub ready : (pool : List Change) → AllByRecursion (IsChange (length counts)) pool → least_ready (length counts) past pool ≡ first_ready counts pool

abbrev pub CountsSuffice : Type 0
CountsSuffice = (past : Held) (counts : List ℕ) → Counts past counts → AskCounts past counts
