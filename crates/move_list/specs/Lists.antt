-- Lists of nodes as their contracts see them.
use Rattle.std.specs.Prelude.{◌≡◌, true, false, Option, Some, None, is_some, ◌⊎◌, List, map, refl}
use Rattle.std.specs.FinMap.{FinMap, get, empty, from_entries, code as map_code}
use Rattle.std.specs.Coded.{Coded, code_by, coded×}
use Rattle.op_ids.specs.declared.OpId.{OpId}
use Rattle.op_ids.specs.Order.{id_lt, root_id}
use Rattle.op_ids.specs.Codes.{id_code}
use Rattle.model.specs.Value.{Value}
use Rattle.model.specs.Operation.{Anchor, Operation}
use Rattle.model.specs.State.{RowKey, row_cmp, Element, State, right_of, list_position_step}
use Rattle.model_laws.specs.Arrival.{late_element}
use Rattle.fugue_tree.specs.declared.tree.PlaceRow.{PlaceRow}
use Rattle.op_grammar.specs.declared.value.OwnValue.{OwnValue}
use Rattle.op_grammar.specs.Values.{own_value_of}
use Rattle.move_list.specs.declared.lists.ElementRow.{ElementRow}
use Rattle.move_list.specs.Codes.{anchor_code, element_code}

-- the positions of all lists, and the elements
pub record ListTables : Type 0 where
  pub positions : FinMap row_cmp Anchor
  pub elements : FinMap row_cmp Element

abbrev pub tables_code : Coded ListTables
tables_code =
    code_by (FinMap row_cmp Anchor × FinMap row_cmp Element) (coded× (map_code (coded× id_code id_code) anchor_code) (map_code (coded× id_code id_code) element_code))
    (λ t. (t.positions, t.elements)) (λ p. record { positions = p.0; elements = p.1 }) (λ _. refl)

-- a document that has these lists and nothing else
abbrev pub document_of : ListTables → State
document_of t = record { nodes = empty; positions = empty; registers = empty; texts = empty; list_positions = t.positions; elements = t.elements }

-- what an operation makes of them, whether it comes late or not
abbrev pub lists_after : ListTables → OpId → Operation → ListTables
lists_after t id o = record { positions = list_position_step t.positions id o; elements = late_element t.elements id o }

-- It hangs right of the head, or on a position of the node with a smaller id.
abbrev pub HangsIn : FinMap row_cmp Anchor → OpId → OpId → Anchor → Type 0
HangsIn positions node id at = (at ≡ right_of root_id) ⊎ ((is_some (get positions (node, at.on)) ≡ true) × (id_lt at.on id ≡ true))

-- The positions of each node are an insertion tree, and each element is at a position of its node that no other element has.
pub record AreLists (t : ListTables) : Type 0 where
  pub head : (node : OpId) → get t.positions (node, root_id) ≡ None
  pub anchors : (node id : OpId) (at : Anchor) → get t.positions (node, id) ≡ Some at → HangsIn t.positions node id at
  pub position : (node id : OpId) (e : Element) → get t.elements (node, id) ≡ Some e → is_some (get t.positions (node, e.position)) ≡ true
  pub own_position : (node id other : OpId) (e f : Element) → get t.elements (node, id) ≡ Some e → get t.elements (node, other) ≡ Some f
      → e.position ≡ f.position → id ≡ other

-- ---- rows

abbrev pub place_entry : PlaceRow → RowKey × Anchor
place_entry r = ((r.owner, r.id), record { on = r.anchor; side = r.side })

abbrev pub place_entries : List PlaceRow → List (RowKey × Anchor)
place_entries rows = map place_entry rows

abbrev pub element_entry : ElementRow → RowKey × Element
element_entry r = ((r.node, r.id), record { position = r.position; writer = r.writer; value = own_value_of r.value; dropped = r.dropped })

abbrev pub element_entries : List ElementRow → List (RowKey × Element)
element_entries rows = map element_entry rows

abbrev pub tables_of_rows : List PlaceRow → List ElementRow → ListTables
tables_of_rows places elements = record { positions = from_entries (place_entries places); elements = from_entries (element_entries elements) }

-- elements that are handed out, each with its value
abbrev pub handed : List (OpId × OwnValue) → List (OpId × Value)
handed items = map (λ item. (item.0, own_value_of item.1)) items

abbrev pub ids_of : List (OpId × OwnValue) → List OpId
ids_of items = map (λ item. item.0) items

abbrev pub values_of : List (OpId × OwnValue) → List Value
values_of items = map (λ item. own_value_of item.1) items
