-- The places of nodes: as contracts see them, and as the code keeps them.
use Rattle.std.specs.Prelude.{◌≡◌, Bool, true, false, cond, ◌||◌, Option, Some, None, is_some, List, [], ◌∷◌, map, refl}
use Rattle.std.specs.FinMap.{get, insert, remove, empty, code as map_code}
use Rattle.std.specs.FinSet.{FinSet, contains, from_list, code as set_code}
use Rattle.std.specs.Coded.{Coded, code_by, coded×}
use Rattle.op_ids.specs.declared.OpId.{OpId}
use Rattle.op_ids.specs.Order.{id_cmp, id_eq}
use Rattle.op_ids.specs.Codes.{id_code}
use Rattle.model.specs.State.{Place, is_fixed}
use Rattle.model_laws.specs.Tree.{Places, IsTree}
use Rattle.tree_move.specs.declared.places.NodeRow.{NodeRow}
use Rattle.tree_move.specs.declared.places.Place as code

-- ---- places and rows of the code, as the model has them

abbrev pub place_of : code.Place → Place
place_of p = record { parent = p.parent; position = p.position }

-- the place, if there is one
abbrev pub place_if : Option code.Place → Option Place
place_if None = None
place_if (Some p) = Some (place_of p)

-- a place of the model, if there is one, as the code keeps it
abbrev pub kept_place : Option Place → Option code.Place
kept_place None = None
kept_place (Some p) = Some (record { parent = p.parent; position = p.position })

abbrev pub entry_of : NodeRow → OpId × Place
entry_of r = (r.id, record { parent = r.parent; position = r.position })

abbrev pub row_of : OpId × Place → NodeRow
row_of e = record { id = e.0; parent = e.1.parent; position = e.1.position }

-- a child of the parent, behind its position
abbrev pub child_of : OpId → OpId × Place → Option (OpId × OpId)
child_of parent e = cond (id_eq e.1.parent parent) (Some (e.1.position, e.0)) None

-- ---- places

-- root, trash or a node with a place
abbrev pub is_node : Places → OpId → Bool
is_node m b = is_fixed b || is_some (get m b)

-- the places, but that this node has this one, or none
abbrev pub with_place : Places → OpId → Option Place → Places
with_place m child (Some p) = insert m child p
with_place m child None = remove m child

-- the nodes that may have a place, and the places of those that have one
pub record Nodes : Type 0 where
  pub places : Places
  pub admitted : FinSet id_cmp

abbrev pub place_code : Coded Place
place_code =
    code_by (OpId × OpId) (coded× id_code id_code) (λ p. (p.parent, p.position)) (λ t. record { parent = t.0; position = t.1 }) (λ _. refl)

abbrev pub nodes_code : Coded Nodes
nodes_code =
    code_by (Places × FinSet id_cmp) (coded× (map_code id_code place_code) (set_code id_code)) (λ k. (k.places, k.admitted)) (λ t. record { places = t.0; admitted = t.1 }) (λ _. refl)

-- From each node with a place the parents lead to root or trash, and it is admitted, which root and trash are not.
pub record IsTreeOfAdmitted (k : Nodes) : Type 0 where
  pub tree : IsTree k.places
  pub below : (q : OpId) → contains k.admitted q ≡ true → is_fixed q ≡ false
  pub placed : (q : OpId) → is_some (get k.places q) ≡ true → contains k.admitted q ≡ true

-- ---- slots: the admitted nodes, each with its place if it has one

abbrev pub Slot : Type 0
Slot = OpId × Option code.Place

abbrev pub places_of : List Slot → Places
places_of [] = empty
places_of (e ∷ es) = with_place (places_of es) e.0 (place_if e.1)

abbrev pub nodes_of : List Slot → Nodes
nodes_of es = record { places = places_of es; admitted = from_list (map (λ e. e.0) es) }

abbrev pub slot_entry : Slot → Option (OpId × Place)
slot_entry (id, None) = None
slot_entry (id, Some p) = Some (id, place_of p)

abbrev pub slot_row : Slot → Option NodeRow
slot_row (id, None) = None
slot_row (id, Some p) = Some (record { id = id; parent = p.parent; position = p.position })

abbrev pub slot_child : OpId → Slot → Option (OpId × OpId)
slot_child parent (id, None) = None
slot_child parent (id, Some p) = cond (id_eq p.parent parent) (Some (p.position, id)) None
