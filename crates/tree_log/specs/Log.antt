-- How a log keeps its moves: each with the place that its child had before it.
use Rattle.std.specs.Prelude.{◌≡◌, Bool, true, false, ◌||◌, ◌⊎◌, List, [], ◌∷◌, map}
use Rattle.std.specs.FinMap.{get}
use Rattle.op_ids.specs.declared.OpId.{OpId}
use Rattle.model.specs.State.{is_fixed}
use Rattle.model_laws.specs.Tree.{Places, IsTree}
use Rattle.tree_move.specs.Parents.{Nodes, IsTreeOfAdmitted, with_place, place_if}
use Rattle.tree_log.specs.declared.moves.TreeMove.{TreeMove}
use Rattle.tree_log.specs.declared.moves.Held.{Held}
use Rattle.tree_log.specs.Moves.{after_move, after_moves, Rises, has_place, with_child, Log}

-- a move of one of the nodes, or that makes its child one, below root, trash or one of the nodes
pub record IsMoveIn (nodes : OpId → Bool) (t : TreeMove) : Type 0 where
  pub parent : (is_fixed t.parent || nodes t.parent) ≡ true
  pub child : (t.child ≡ t.id) ⊎ (nodes t.child ≡ true)
  pub below : is_fixed t.child ≡ false

-- each is a move in the nodes and those that the moves before it make
abbrev pub AreMovesIn : (OpId → Bool) → List TreeMove → Type 0
AreMovesIn nodes [] = Unit {0}
AreMovesIn nodes (t ∷ ts) = IsMoveIn nodes t × AreMovesIn (with_child nodes t.child) ts

abbrev pub steps : List Held → List TreeMove
steps hs = map (λ h. h.step) hs

-- each move is kept with the place that its child had
abbrev pub Recorded : Places → List Held → Type 0
Recorded m [] = Unit {0}
Recorded m (h ∷ hs) = (place_if h.before ≡ get m h.step.child) × Recorded (after_move m h.step) hs

-- the places with the moves undone, from the last to the first
abbrev pub undone : Places → List Held → Places
undone m [] = m
undone m (h ∷ hs) = with_place (undone m hs) h.step.child (place_if h.before)

-- the moves held over the places begun from, and the places now
pub record IsLog (base : Places) (hs : List Held) (now : Places) : Type 0 where
  pub tree : IsTree base
  pub fits : AreMovesIn (has_place base) (steps hs)
  pub rises : Rises (steps hs)
  pub recorded : Recorded base hs
  pub is : after_moves base (steps hs) ≡ now

-- the log of the places now and the moves with what they changed
abbrev pub log_of : Places → List Held → Log
log_of now hs = record { base = undone now hs; moves = steps hs }

-- what a log keeps
pub record IsKept (parents : Nodes) (hs : List Held) : Type 0 where
  pub log : IsLog (undone parents.places hs) hs parents.places
  pub tree : IsTreeOfAdmitted parents
