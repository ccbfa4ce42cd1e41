-- A text that is read in pieces of its runs.
use Rattle.std.specs.Prelude.{◌≡◌, ℕ, zero, suc, ◌+◌, ◌<◌, ◌≤◌, ◌⊎◌, not, cond, Option, Some, None, false, List, [], ◌∷◌, ◌++◌, length, map, filter, flat_map, take, drop, slice_get}
use Rattle.std.specs.Option.{option_map}
use Rattle.std.specs.BTreeSet.{BTreeSet, contains}
use Rattle.std.specs.FinMap.{find}
use Rattle.op_ids.specs.declared.OpId.{OpId}
use Rattle.op_ids.specs.declared.Side.{Side}
use Rattle.op_ids.specs.declared.Side.TheVariants.{Left, Right}
use Rattle.op_ids.specs.Order.{id_cmp, id_plus}
use Rattle.model.specs.State.{run_of}
use Rattle.model.specs.Walk.{hanging}
use Rattle.walk_laws.specs.Insertion.{anchor_of}
use Rattle.fugue_tree.specs.declared.children.Child.{Child}
use Rattle.fugue_tree.specs.Tree.{at, child_cmp}
use Rattle.fugue_text.specs.declared.run.Letter.{Letter}
use Rattle.fugue_text.specs.declared.run.Run.{Run}
use Rattle.fugue_text.specs.declared.pieces.Piece.{Piece}
use Rattle.fugue_text.specs.declared.pieces.Step.{Step}
use Rattle.fugue_text.specs.declared.pieces.Step.TheVariants.{Visit, Give}
use Rattle.fugue_text.specs.declared.pieces.Window.{Window}
use Rattle.fugue_text.specs.Runs.{IsIn, IsNext, letter_of, places, rows_in, starts}

-- the ids of the rows of pieces
abbrev pub ids_in : List Piece → List OpId
ids_in ps = flat_map (λ p. run_of p.id p.count) ps

-- ---- letters

-- The letters are those of a row and of the rows behind it in its run.
pub record AreBehind (runs : List (OpId × Run)) (id : OpId) (letters : List Letter) : Type 0 where
  pub first : OpId
  pub offset : ℕ
  pub is_in : IsIn runs id first offset
  pub rest : letters ≡ drop offset is_in.run.letters.items

-- the same, or none where the row isn't there
abbrev pub AreFrom : List (OpId × Run) → OpId → List Letter → Type 0
AreFrom runs id letters = ((find id_cmp id (rows_in runs) ≡ None) × (letters ≡ [])) ⊎ AreBehind runs id letters

-- So many rows from this one on are in one run.
pub record AreTogether (runs : List (OpId × Run)) (id : OpId) (count : ℕ) : Type 0 where
  pub first : OpId
  pub offset : ℕ
  pub is_in : IsIn runs id first offset
  pub within : offset + count ≤ length is_in.run.letters.items

-- A piece of more than one row is part of a run.
abbrev pub IsPiece : List (OpId × Run) → Piece → Type 0
IsPiece runs p = (p.count ≤ 1) ⊎ AreTogether runs p.id p.count

-- The rows of the piece that are there have these letters.
pub record AreLettersOf (runs : List (OpId × Run)) (p : Piece) (letters : List Letter) : Type 0 where
  pub most : length letters ≤ p.count
  pub each : (k : ℕ) → k < p.count → option_map letter_of (find id_cmp (id_plus p.id k) (rows_in runs)) ≡ slice_get letters k

abbrev pub alive_characters : List Letter → List ℕ
alive_characters letters = map (λ l. l.character) (filter (λ l. not l.dead) letters)

-- the ids of those that aren't erased, where the first has this id
abbrev pub alive_ids : OpId → List Letter → List OpId
alive_ids id [] = []
alive_ids id (l ∷ ls) = cond l.dead (alive_ids (id_plus id 1) ls) (id ∷ alive_ids (id_plus id 1) ls)

-- what the window has once it has read these ids too
abbrev pub still_in : Window → List OpId → List OpId
still_in w rest = w.ids.items ++ take w.left (drop w.skip rest)

-- ---- the walk

-- None of so many rows from this one on has a child; of no number, none of its change.
abbrev pub IsBare : BTreeSet Child → OpId → Option ℕ → Type 0
IsBare children id None = (k : ℕ) (side : Side) (q : OpId) → contains child_cmp children (at (id_plus id k) side q) ≡ false
IsBare children id (Some n) = (k : ℕ) → k < n → (side : Side) (q : OpId) → contains child_cmp children (at (id_plus id k) side q) ≡ false

-- So many rows from this one on have a next row in their run, and nothing else hangs on them.
pub record IsFree (runs : List (OpId × Run)) (id : OpId) (count : ℕ) : Type 0 where
  pub piece : (count ≡ 0) ⊎ AreTogether runs id count
  pub next : (k : ℕ) → k < count → IsNext runs (id_plus id k) (Some (id_plus (id_plus id k) 1))
  pub bare : (k : ℕ) → k < count → (side : Side) (q : OpId) → anchor_of (starts runs) q ≡ Some (record { on = id_plus id k; side = side }) → ⊥

abbrev pub piece_steps : OpId → ℕ → List Step
piece_steps id zero = []
piece_steps id (suc n) = Give (record { id = id; count = suc n }) ∷ []

-- What is left to do for a row: the rows from it on that are read one after the other, and what hangs on the next one, with that in its place.
abbrev pub steps_of : List (OpId × Run) → OpId → ℕ → List Step
steps_of runs id n =
    let next = id_plus id n in
    let rows = places (rows_in runs) in
    ((piece_steps id n ++ map Visit (hanging rows next Left)) ++ piece_steps next 1) ++ map Visit (hanging rows next Right)

-- The stack has what is left to do for a row.
pub record IsVisited (runs : List (OpId × Run)) (id : OpId) (old new : List Step) : Type 0 where
  pub count : ℕ
  pub free : IsFree runs id count
  pub steps : new ≡ old ++ steps_of runs id count
