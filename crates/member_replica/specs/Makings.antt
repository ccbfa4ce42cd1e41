-- Changes in the making, one after the other. Private contracts alone cite this.
use Rattle.std.specs.Prelude.{◌≡◌, ℕ, ◌+◌, ◌^◌, ◌++◌, ◌∷◌, [], ◌&&◌, nat_lt, max, if◌then◌else◌, List, map, slice_index, slice_set, Some, Result, Ok, Err}
use Rattle.cbor_det.specs.Item.{spell}
use Rattle.model.specs.Base.{base_of}
use Rattle.model.specs.Change.{Change, change_item}
use Rattle.model.specs.Command.{Unmade, clock_full}
use Rattle.model.specs.File.{File, IsFile, spell_changes}
use Rattle.model.specs.Operation.{Operation}
use Rattle.op_grammar.specs.Changes.{change_of}
use Rattle.op_grammar.specs.declared.head.Head.{Head}
use Rattle.replica.specs.Counts.{counts_behind, time_of_last}
use Rattle.member_replica.specs.Making.{note_of}
use Rattle.member_replica.specs.declared.made.Makings.{Makings}
use Rattle.member_replica.specs.declared.made.MakeFault.{MakeFault}
use Rattle.member_replica.specs.declared.made.MakeFault.TheVariants as faults

-- The change that a member makes of these operations who counts so many changes of each member, the last of them at this time.
abbrev pub next_by : ℕ → List ℕ → ℕ → List Operation → Change
next_by time counts m operations = record { member = m; number = slice_index counts m + 1; time = time + 1; causes = counts; operations = operations }

-- the same, unless its time or its number would pass its end
abbrev pub clocked_by : ℕ → List ℕ → ℕ → List Operation → Result Change Unmade
clocked_by time counts m operations =
    let c = next_by time counts m operations in
    if nat_lt c.time (2 ^ 48) && nat_lt c.number (2 ^ 32) then Ok c else Err (clock_full time m (slice_index counts m))

-- The clock is full, or memory ran out.
abbrev pub Stops : Result Change Unmade → MakeFault → Type 0
Stops meant (faults.ClockFull time member number) = meant ≡ Err (clock_full time member number)
Stops meant faults.NoMemory = Unit {0}
Stops meant _ = ⊥

-- With these operations the head is that of the change that is meant.
abbrev pub MakesHead : Result Change Unmade → List Operation → Result Head MakeFault → Type 0
MakesHead meant operations (Ok head) = meant ≡ Ok (change_of head operations)
MakesHead meant operations (Err fault) = Stops meant fault

-- This change is made too.
pub record HasMore (old : Makings) (c : Change) (new : Makings) : Type 0 where
  pub counts : new.counts ≡ slice_set old.counts c.member (max (slice_index old.counts c.member) c.number)
  pub time : new.time ≡ c.time
  pub spelled : new.spelled.items ≡ old.spelled.items ++ spell (change_item c)
  pub notes : new.notes.items ≡ old.notes.items ++ note_of c ∷ []

abbrev pub MakesOne : Result Change Unmade → Makings → Makings → Result (Unit {0}) MakeFault → Type 0
MakesOne meant old new (Ok _) = (c : Change) × (meant ≡ Ok c) × HasMore old c new
MakesOne meant old new (Err fault) = Stops meant fault

-- With these changes, which were made, a file that was never trimmed keeps the rules. Told are its counts and its greatest time, what
-- spells the changes, and a note of each.
pub record IsMaking (f : File) (cs : List Change) (m : Makings) : Type 0 where
  pub untrimmed : f.base ≡ Some (base_of f.members [] 0)
  pub is_file : IsFile (record f { kept = f.kept ++ cs })
  pub counts : m.counts ≡ counts_behind f.members (f.kept ++ cs)
  pub time : m.time ≡ time_of_last (f.kept ++ cs)
  pub spelled : m.spelled.items ≡ spell_changes cs
  pub notes : m.notes.items ≡ map note_of cs
