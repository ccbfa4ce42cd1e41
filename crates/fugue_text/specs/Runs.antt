-- The characters of a node as rows by rising ids, and as they are kept, in runs.
use Rattle.std.specs.Prelude.{◌≡◌, ℕ, ◌+◌, ◌<◌, ◌≤◌, ◌^◌, not, cond, Bool, true, false, Option, Some, None, List, [], ◌∷◌, length, map, filter, flat_map}
use Rattle.std.specs.List.{AllByRecursion}
use Rattle.std.specs.Map.{lookup}
use Rattle.std.specs.Option.{option_map}
use Rattle.std.specs.Ordering.{eq_by_cmp}
use Rattle.std.specs.BTreeSet.{BTreeSet}
use Rattle.std.specs.FinMap.{find, put}
use Rattle.op_ids.specs.declared.OpId.{OpId}
use Rattle.op_ids.specs.declared.Side.{Side}
use Rattle.op_ids.specs.declared.Side.TheVariants.{Left, Right}
use Rattle.op_ids.specs.Order.{id_cmp, id_plus}
use Rattle.model.specs.Operation.{Anchor}
use Rattle.model.specs.State.{Character, right_of, run_of}
use Rattle.model.specs.View.{is_live}
use Rattle.model.specs.Walk.{Rows, walk}
use Rattle.walk_laws.specs.Insertion.{anchor_of, IsInsertionTree}
use Rattle.fugue_tree.specs.declared.children.Child.{Child}
use Rattle.fugue_tree.specs.Tree.{AreChildren}
use Rattle.fugue_text.specs.declared.run.Letter.{Letter}
use Rattle.fugue_text.specs.declared.run.Run.{Run}
use Rattle.fugue_text.specs.declared.run.Spot.{Spot}

-- ---- rows

-- the characters of a node by rising ids
abbrev pub TextRows : Type 0
TextRows = List (OpId × Character)

-- where they hang
abbrev pub places : TextRows → Rows
places rows = map (λ e. (e.0, e.1.at)) rows

abbrev pub edit_one : OpId → (Character → Character) → OpId × Character → OpId × Character
edit_one id f e = (e.0, cond (eq_by_cmp id_cmp id e.0) (f e.1) e.1)

-- the rows, with what f makes of the one with this id
abbrev pub edited : TextRows → OpId → (Character → Character) → TextRows
edited rows id f = map (edit_one id f) rows

-- the ids of the characters that aren't erased, in the order of the walk
abbrev pub live_ids : TextRows → List OpId
live_ids rows = filter (λ id. is_live (find id_cmp id rows)) (walk (places rows))

abbrev pub character_in : TextRows → OpId → Option ℕ
character_in rows id = option_map (λ c. c.character) (find id_cmp id rows)

-- ---- runs

-- a character that hangs there
abbrev pub letter_at : Anchor → Letter → Character
letter_at at l = record { at = at; character = l.character; dead = l.dead }

abbrev pub letter_of : Character → Letter
letter_of c = record { character = c.character; dead = c.dead }

abbrev pub dead_letter : Letter → Letter
dead_letter l = record l { dead = true }

-- what a read of letters has past their end
abbrev pub no_letter : Letter
no_letter = record { character = 0; dead = false }

-- characters with ids from this one on: the first hangs there, and each later one right of the one before
abbrev pub run_rows : OpId → Anchor → List Letter → TextRows
run_rows id at [] = []
run_rows id at (l ∷ ls) = (id, letter_at at l) ∷ run_rows (id_plus id 1) (right_of id) ls

-- the rows with these more, each put in its place
abbrev pub with_letters : TextRows → OpId → Anchor → List Letter → TextRows
with_letters rows id at [] = rows
with_letters rows id at (l ∷ ls) = with_letters (put id_cmp id (letter_at at l) rows) (id_plus id 1) (right_of id) ls

-- no row has one of so many ids from this one on
abbrev pub AreFree : TextRows → OpId → ℕ → Type 0
AreFree rows id count = AllByRecursion (λ q. find id_cmp q rows ≡ None) (run_of id count)

abbrev pub alive_letter : ℕ → Letter
alive_letter c = record { character = c; dead = false }

abbrev pub run_anchor : Run → Anchor
run_anchor r = record { on = r.anchor; side = r.side }

abbrev pub rows_of_run : OpId × Run → TextRows
rows_of_run e = run_rows e.0 (run_anchor e.1) e.1.letters.items

abbrev pub rows_in : List (OpId × Run) → TextRows
rows_in runs = flat_map rows_of_run runs

-- the first rows of the runs
abbrev pub starts : List (OpId × Run) → Rows
starts runs = map (λ e. (e.0, run_anchor e.1)) runs

-- A run has a row, and ids for all that it has.
pub record IsFilled (e : OpId × Run) : Type 0 where
  pub some : 0 < length e.1.letters.items
  pub fits : e.0.index + length e.1.letters.items ≤ 2 ^ 32

abbrev pub AreFilled : List (OpId × Run) → Type 0
AreFilled runs = AllByRecursion IsFilled runs

-- The row is in the run with this first id, so many rows behind the first.
pub record IsIn (runs : List (OpId × Run)) (id first : OpId) (offset : ℕ) : Type 0 where
  pub run : Run
  pub there : lookup (eq_by_cmp id_cmp first) runs ≡ Some run
  pub within : offset < length run.letters.items
  pub is : id ≡ id_plus first offset

abbrev pub IsSpot : List (OpId × Run) → OpId → Option Spot → Type 0
IsSpot runs id None = find id_cmp id (rows_in runs) ≡ None
IsSpot runs id (Some s) = IsIn runs id s.first s.offset

-- The row continues the run of its anchor, which is there, as the right child with the next id.
abbrev pub Continues : List (OpId × Run) → OpId → Anchor → Option Spot → Type 0
Continues runs id at None = Unit {0}
Continues runs id at (Some s) = (id ≡ id_plus at.on 1) × (at ≡ right_of at.on) × IsIn runs at.on s.first s.offset

-- n is the row that follows in the run; without one, no row that begins no run hangs right of this one
abbrev pub IsNext : List (OpId × Run) → OpId → Option OpId → Type 0
IsNext runs id None = (q : OpId) → anchor_of (places (rows_in runs)) q ≡ Some (right_of id) → anchor_of (starts runs) q ≡ Some (right_of id)
IsNext runs id (Some n) = (n ≡ id_plus id 1) × (anchor_of (places (rows_in runs)) n ≡ Some (right_of id)) × (anchor_of (starts runs) n ≡ None)

-- the same of what hangs on a side; nothing follows on the left
abbrev pub IsNextBeside : List (OpId × Run) → OpId → Side → Option OpId → Type 0
IsNextBeside runs id Left o = o ≡ None
IsNextBeside runs id Right o = IsNext runs id o

abbrev pub is_alive : OpId × Character → Bool
is_alive e = not e.1.dead

-- how many alive ones a character counts for
abbrev pub weight_of : Bool → ℕ
weight_of dead = cond dead 0 1

-- The runs have rows of an insertion tree, the index has the first rows of the runs, and so many are alive.
pub record IsText (runs : List (OpId × Run)) (children : BTreeSet Child) (live : ℕ) : Type 0 where
  pub tree : IsInsertionTree (places (rows_in runs))
  pub index : AreChildren (starts runs) children
  pub filled : AreFilled runs
  pub counted : live ≡ length (filter is_alive (rows_in runs))
