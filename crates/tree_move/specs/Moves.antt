-- Laws of places, their rows and moves.
use Rattle.std.specs.Prelude.{◌≡◌, false, Some, map}
use Rattle.std.specs.List.Sorted.{IsStrictlySortedBy}
use Rattle.std.specs.FinMap.{get, entries, from_entries}
use Rattle.op_ids.specs.Order.{id_cmp}
use Rattle.op_ids.specs.declared.OpId.{OpId}
use Rattle.model.specs.State.{Place, is_above, moved}
use Rattle.model_laws.specs.Tree.{Places, IsTree}
use Rattle.tree_move.specs.Parents.{with_place, row_of, entry_of}

-- To give the child of a move the place that it had gives back all places as they were.
abbrev pub UndoGivesBack : Type 0
UndoGivesBack = (m : Places) (child : OpId) (to : Place) → with_place (moved m child to) child (get m child) ≡ m

-- No node is above its own parent.
abbrev pub HasNoCycle : Type 0
HasNoCycle = (m : Places) → IsTree m → (child : OpId) (place : Place) → get m child ≡ Some place → is_above m child place.parent ≡ false

-- The rows of places are in order, and make the same places again.
pub record ComeBack (m : Places) : Type 0 where
  pub rising : IsStrictlySortedBy id_cmp (map (λ r. r.id) (map row_of (entries m)))
  pub same : from_entries (map entry_of (map row_of (entries m))) ≡ m

abbrev pub RowsComeBack : Type 0
RowsComeBack = (m : Places) → ComeBack m
