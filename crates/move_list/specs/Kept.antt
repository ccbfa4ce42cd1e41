-- Lists as they are kept: node by node.
use Rattle.std.specs.Prelude.{◌≡◌, ◌&&◌, not, Bool, true, false, Option, Some, None, is_some, List, [], ◌∷◌, ◌++◌, map, filter_map, find, refl}
use Rattle.std.specs.Option.{option_map}
use Rattle.std.specs.List.{AllByRecursion}
use Rattle.std.specs.FinMap.{FinMap, get, insert, entries, from_entries, code as map_code}
use Rattle.std.specs.Coded.{Coded, code_by, coded×, coded_list}
use Rattle.op_ids.specs.declared.OpId.{OpId}
use Rattle.op_ids.specs.Order.{id_cmp, id_eq}
use Rattle.op_ids.specs.Codes.{id_code}
use Rattle.model.specs.Operation.{Anchor}
use Rattle.model.specs.Value.{Value}
use Rattle.model.specs.State.{RowKey, Element}
use Rattle.model.specs.Walk.{Rows, walk}
use Rattle.walk_laws.specs.Insertion.{IsInsertionTree, is_row}
use Rattle.fugue_tree.specs.Tree.{OwnedRows}
use Rattle.move_list.specs.declared.item.Item.{Item}
use Rattle.move_list.specs.Codes.{anchor_code, element_code}
use Rattle.move_list.specs.Items.{items_of}
use Rattle.move_list.specs.Lists.{ListTables}

-- ---- a list

-- whose it is, its positions by rising ids, and its elements
pub record NodeRows : Type 0 where
  pub owner : OpId
  pub positions : Rows
  pub elements : FinMap id_cmp Element

abbrev pub node_code : Coded NodeRows
node_code =
    code_by (OpId × (Rows × FinMap id_cmp Element)) (coded× id_code (coded× (coded_list (coded× id_code anchor_code)) (map_code id_code element_code)))
    (λ l. (l.owner, (l.positions, l.elements))) (λ p. record { owner = p.0; positions = p.1.0; elements = p.1.1 }) (λ _. refl)

abbrev pub node_rows : OwnedRows → List (OpId × Item) → NodeRows
node_rows tree es = record { owner = tree.owner; positions = tree.rows; elements = items_of es }

-- Each element is at a position that is there, and no other is there too.
pub record AreAt (positions : Rows) (elements : FinMap id_cmp Element) : Type 0 where
  pub position : (id : OpId) (e : Element) → get elements id ≡ Some e → is_row positions e.position ≡ true
  pub own_position : (id other : OpId) (e f : Element) → get elements id ≡ Some e → get elements other ≡ Some f → e.position ≡ f.position → id ≡ other

pub record IsList (l : NodeRows) : Type 0 where
  pub tree : IsInsertionTree l.positions
  pub items : AreAt l.positions l.elements

-- the element at a position, if one is that isn't dropped
abbrev pub is_shown_at : OpId → OpId × Element → Bool
is_shown_at position e = id_eq e.1.position position && not e.1.dropped

abbrev pub shown_at : List (OpId × Element) → OpId → Option OpId
shown_at es position = option_map (λ e. e.0) (find (is_shown_at position) es)

-- the elements that aren't dropped, in the order of the walk
abbrev pub shown : NodeRows → List OpId
shown l = filter_map (shown_at (entries l.elements)) (walk l.positions)

-- No two of these are at one position.
abbrev pub OwnPositions : List (OpId × Element) → Type 0
OwnPositions [] = Unit {0}
OwnPositions (e ∷ es) = AllByRecursion (λ f. id_eq e.1.position f.1.position ≡ false) es × OwnPositions es

-- an element with its value, if it is there
abbrev pub item_at : FinMap id_cmp Element → OpId → Option (OpId × Value)
item_at elements id = option_map (λ e. (id, e.value)) (get elements id)

-- ---- all lists

-- the rows of a node, each with the node
abbrev pub tagged : {X : Type 0} → OpId → List (OpId × X) → List (RowKey × X)
tagged node es = map (λ e. ((node, e.0), e.1)) es

-- the rows of all nodes
abbrev pub all_rows : {V X : Type 0} → (V → List (OpId × X)) → List (OpId × V) → List (RowKey × X)
all_rows rows [] = []
all_rows rows (e ∷ es) = tagged e.0 (rows e.1) ++ all_rows rows es

abbrev pub places_in : NodeRows → Rows
places_in l = l.positions

abbrev pub items_in : NodeRows → List (OpId × Element)
items_in l = entries l.elements

abbrev pub tables_of : List (OpId × NodeRows) → ListTables
tables_of es = record { positions = from_entries (all_rows places_in es); elements = from_entries (all_rows items_in es) }

pub record IsListOf (node : OpId) (l : NodeRows) : Type 0 where
  pub owner : l.owner ≡ node
  pub list : IsList l

abbrev pub AreListsOf : List (OpId × NodeRows) → Type 0
AreListsOf es = AllByRecursion (λ e. IsListOf e.0 e.1) es
