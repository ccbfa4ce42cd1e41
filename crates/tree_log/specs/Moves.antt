-- Moves by their ids, and the places after them.
use Rattle.std.specs.Prelude.{◌≡◌, ℕ, Bool, true, false, ◌||◌, ◌⊎◌, is_some, List, [], ◌∷◌, ◌++◌, ◌+◌, ◌≤◌, fold, count_by, refl}
use Rattle.std.specs.List.{AllByRecursion, list_any}
use Rattle.std.specs.List.Sorted.{IsPermutation}
use Rattle.std.specs.Coded.{Coded, code_by, coded×, coded_list}
use Rattle.std.specs.FinMap.{get, code as map_code}
use Rattle.op_ids.specs.declared.OpId.{OpId}
use Rattle.op_ids.specs.Order.{id_eq, id_lt}
use Rattle.op_ids.specs.Codes.{id_code}
use Rattle.model.specs.Change.{placed}
use Rattle.model.specs.State.{Place, is_fixed, moved}
use Rattle.model_laws.specs.Tree.{Places}
use Rattle.outside.specs.Work.{Work}
use Rattle.tree_move.specs.Parents.{place_code}
use Rattle.tree_log.specs.declared.moves.TreeMove.{TreeMove}

-- ---- places after moves

-- where a move puts its child: at the position with the move's id
abbrev pub place_by : TreeMove → Place
place_by t = record { parent = t.parent; position = t.id }

abbrev pub after_move : Places → TreeMove → Places
after_move m t = moved m t.child (place_by t)

-- the places after the moves, in turn
abbrev pub after_moves : Places → List TreeMove → Places
after_moves m ts = fold after_move m ts

-- ---- moves by their ids

abbrev pub move_before : TreeMove → TreeMove → Bool
move_before t u = id_lt t.id u.id

abbrev pub Rises : List TreeMove → Type 0
Rises [] = Unit {0}
Rises (t ∷ ts) = AllByRecursion (λ u. move_before t u ≡ true) ts × Rises ts

-- the moves with each of the new ones in its place
abbrev pub inserted : List TreeMove → List TreeMove → List TreeMove
inserted ts xs = fold (λ us x. placed move_before x us) ts xs

-- no move of the list has the id
abbrev pub IsFresh : List TreeMove → OpId → Type 0
IsFresh ts id = AllByRecursion (λ t. id_eq t.id id ≡ false) ts

-- how many of the moves come after one of the new ones
abbrev pub later_count : List TreeMove → List TreeMove → ℕ
later_count ts xs = count_by (λ t. list_any (λ x. move_before x t) xs) ts

-- ---- what a move may refer to

abbrev pub has_place : Places → OpId → Bool
has_place m q = is_some (get m q)

-- these nodes and one more
abbrev pub with_child : (OpId → Bool) → OpId → OpId → Bool
with_child nodes child q = nodes q || id_eq q child

-- A move refers back: its parent is root, trash or one of the nodes, with a lesser id than the move's. Its child is such a node, or is made by it.
pub record RefersBack (nodes : OpId → Bool) (t : TreeMove) : Type 0 where
  pub parent : (is_fixed t.parent ≡ true) ⊎ ((nodes t.parent ≡ true) × (id_lt t.parent t.id ≡ true))
  pub child : (t.child ≡ t.id) ⊎ ((nodes t.child ≡ true) × (id_lt t.child t.id ≡ true))
  pub below : is_fixed t.child ≡ false

-- each refers back to the nodes and those that the moves before it make
abbrev pub AllReferBack : (OpId → Bool) → List TreeMove → Type 0
AllReferBack nodes [] = Unit {0}
AllReferBack nodes (t ∷ ts) = RefersBack nodes t × AllReferBack (with_child nodes t.child) ts

-- ---- a log

-- the places that it began from, and the moves that it holds, by their ids
pub record Log : Type 0 where
  pub base : Places
  pub moves : List TreeMove

abbrev pub move_code : Coded TreeMove
move_code =
    code_by (OpId × (OpId × OpId)) (coded× id_code (coded× id_code id_code)) (λ t. (t.id, (t.child, t.parent))) (λ p. record { id = p.0; child = p.1.0; parent = p.1.1 }) (λ _. refl)

abbrev pub log_code : Coded Log
log_code = code_by (Places × List TreeMove) (coded× (map_code id_code place_code) (coded_list move_code)) (λ l. (l.base, l.moves)) (λ p. record { base = p.0; moves = p.1 }) (λ _. refl)

-- the places after all moves that are held
abbrev pub places_now : Log → Places
places_now l = after_moves l.base l.moves

-- so many moves were counted at most, and nothing else
pub record Worked (before now : Work) (moves : ℕ) : Type 0 where
  pub rose : before.moves ≤ now.moves
  pub bound : now.moves ≤ before.moves + moves
  pub decoded : now.decoded ≡ before.decoded

-- ---- laws

-- Moves that come in are put into the order of their ids, and none is lost.
pub record AreInOrder (ts xs : List TreeMove) : Type 0 where
  pub rises : Rises (inserted ts xs)
  pub all : IsPermutation (ts ++ xs) (inserted ts xs)

abbrev pub InsertionSorts : Type 0
InsertionSorts = (ts xs : List TreeMove) → Rises ts → Rises xs → AllByRecursion (λ x. IsFresh ts x.id) xs → AreInOrder ts xs

-- The same moves have one order by rising ids.
abbrev pub OneOrder : Type 0
OneOrder = (ts us : List TreeMove) → Rises ts → Rises us → IsPermutation ts us → ts ≡ us
