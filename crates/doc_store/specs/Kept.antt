-- What a document keeps: its tables but that of nodes, and the log of moves.
use Rattle.std.specs.Prelude.{◌≡◌, ◌≢◌, ◌+◌, ◌<◌, ◌≤◌, ◌^◌, ℕ, true, None, is_some, List, length, refl}
use Rattle.std.specs.List.{AllByRecursion}
use Rattle.std.specs.FinMap.{FinMap, get, code as map_code}
use Rattle.std.specs.Coded.{Coded, code_by, coded×}
use Rattle.op_ids.specs.declared.OpId.{OpId}
use Rattle.op_ids.specs.Codes.{id_code}
use Rattle.op_ids.specs.Order.{root_id}
use Rattle.model.specs.Operation.{Anchor, Operation, new_node, move_node, put_key, type_text, erase_text, add_item, shift_item, set_item, drop_item}
use Rattle.model.specs.State.{row_cmp, register_cmp, Written, Character, Element, State}
use Rattle.model_laws.specs.Arrival.{Contents, with_nodes}
use Rattle.fugue_text.specs.Codes.{table_code as texts_code}
use Rattle.fugue_text.specs.Texts.{AreNew, HangsIn}
use Rattle.move_list.specs.Codes.{element_code}
use Rattle.move_list.specs.Lists.{ListTables}
use Rattle.lww_map.specs.Keys.{table_code as registers_code}
use Rattle.tree_log.specs.Moves.{Log, log_code, places_now}
use Rattle.tree_log.specs.Open.{Open, open_code, whole}
use Rattle.tree_log.specs.declared.moves.TreeMove.{TreeMove}
use Rattle.fugue_tree.specs.Trees.{Table, table_code, MayHang}

pub record Kept : Type 0 where
  pub contents : Contents
  pub log : Log

-- the state that it makes up
abbrev pub state_of : Kept → State
state_of d = with_nodes (places_now d.log) d.contents

-- the same where moves may still have to be done
pub record Drafted : Type 0 where
  pub contents : Contents
  pub moves : Open

-- what it is when all moves are done
abbrev pub document_of : Drafted → Kept
document_of d = record { contents = d.contents; log = whole d.moves }

-- ---- codes

abbrev pub ContentParts : Type 0
ContentParts = Table × (FinMap register_cmp Written × (FinMap row_cmp Character × (Table × FinMap row_cmp Element)))

abbrev pub contents_code : Coded Contents
contents_code =
    code_by ContentParts (coded× table_code (coded× registers_code (coded× texts_code (coded× table_code (map_code (coded× id_code id_code) element_code)))))
    (λ c. (c.positions, (c.registers, (c.texts, (c.list_positions, c.elements))))) (λ p. record { positions = p.0; registers = p.1.0; texts = p.1.1.0; list_positions = p.1.1.1.0; elements = p.1.1.1.1 }) (λ _. refl)

abbrev pub kept_code : Coded Kept
kept_code = code_by (Contents × Log) (coded× contents_code log_code) (λ d. (d.contents, d.log)) (λ p. record { contents = p.0; log = p.1 }) (λ _. refl)

abbrev pub drafted_code : Coded Drafted
drafted_code = code_by (Contents × Open) (coded× contents_code open_code) (λ d. (d.contents, d.moves)) (λ p. record { contents = p.0; moves = p.1 }) (λ _. refl)

-- ---- what the code keeps

-- the tables together
abbrev pub contents_of : Table → FinMap register_cmp Written → FinMap row_cmp Character → ListTables → Contents
contents_of positions registers texts lists = record { positions = positions; registers = registers; texts = texts; list_positions = lists.positions; elements = lists.elements }

-- Each move that is held has its position.
abbrev pub HavePositions : Table → List TreeMove → Type 0
HavePositions positions moves = AllByRecursion (λ t. is_some (get positions (t.parent, t.id)) ≡ true) moves

-- ---- one operation

-- New characters may be typed there: the node has none of their ids, and the first hangs right of the head, or on a character
-- of the node with a lesser id.
pub record MayType (texts : FinMap row_cmp Character) (node id : OpId) (at : Anchor) (count : ℕ) : Type 0 where
  pub new : AreNew texts node id count
  pub no_head : id ≢ root_id
  pub hangs : HangsIn texts node id at
  pub in_range : id.index + count < 2 ^ 32

-- What is there of the tables lets the operation be done with this id.
abbrev pub MayBeDone : Contents → OpId → Operation → Type 0
MayBeDone c id (new_node parent at) = MayHang c.positions parent id at
MayBeDone c id (move_node child parent at) = MayHang c.positions parent id at
MayBeDone c id (put_key node key value) = Unit {0}
MayBeDone c id (type_text node at characters) = MayType c.texts node id at (length characters)
MayBeDone c id (erase_text node first count) = first.index + count ≤ 2 ^ 32
MayBeDone c id (add_item node at value) = MayHang c.list_positions node id at × (get c.elements (node, id) ≡ None)
MayBeDone c id (shift_item node element at) = MayHang c.list_positions node id at × (is_some (get c.elements (node, element)) ≡ true)
MayBeDone c id (set_item node element value) = is_some (get c.elements (node, element)) ≡ true
MayBeDone c id (drop_item node element) = is_some (get c.elements (node, element)) ≡ true
