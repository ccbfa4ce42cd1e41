-- The moves of a document's operations, and that they make its nodes.
use Rattle.std.specs.Prelude.{◌≡◌, false, Option, Some, None, List, [], ◌∷◌, filter_map}
use Rattle.op_ids.specs.declared.OpId.{OpId}
use Rattle.model.specs.Change.{placed}
use Rattle.model.specs.Operation.{Operation, new_node, move_node}
use Rattle.model.specs.State.{Atom, node_step}
use Rattle.model_laws.specs.Arrival.{atom_before, nodes_moved, IsFresh, Rises}
use Rattle.model_laws.specs.Tree.{Places, IsTree}
use Rattle.tree_log.specs.declared.moves.TreeMove.{TreeMove}
use Rattle.tree_log.specs.Moves.{after_moves, has_place, inserted}
use Rattle.tree_log.specs.Log.{AreMovesIn}

-- the move that an operation is, if it is one: a new node is moved to where it begins
abbrev pub move_by : OpId → Operation → Option TreeMove
move_by id (new_node parent at) = Some (record { id = id; child = id; parent = parent })
move_by id (move_node child parent at) = Some (record { id = id; child = child; parent = parent })
move_by id _ = None

abbrev pub moves_of : List Atom → List TreeMove
moves_of atoms = filter_map (λ a. move_by a.id a.operation) atoms

-- a node that an operation makes is new
abbrev pub IsNewIn : Places → OpId → Operation → Type 0
IsNewIn m id (new_node parent at) = has_place m id ≡ false
IsNewIn m id _ = Unit {0}

abbrev pub AreNew : Places → List Atom → Type 0
AreNew m [] = Unit {0}
AreNew m (a ∷ atoms) = IsNewIn m a.id a.operation × AreNew (node_step m a.id a.operation) atoms

-- What the operations make of the nodes, their moves make of the places.
abbrev pub NodeStepsAreMoves : Type 0
NodeStepsAreMoves = (m : Places) (atoms : List Atom) → IsTree m → AreMovesIn (has_place m) (moves_of atoms) → AreNew m atoms → nodes_moved m atoms ≡ after_moves m (moves_of atoms)

-- An operation in its place among others is its move, if it is one, in its place among theirs.
abbrev pub MovesArrive : Type 0
MovesArrive = (list : List Atom) (x : Atom) → Rises list → IsFresh list x.id → moves_of (placed atom_before x list) ≡ inserted (moves_of list) (moves_of (x ∷ []))
