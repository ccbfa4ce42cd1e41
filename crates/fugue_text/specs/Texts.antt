-- The texts of all nodes as their contracts see them.
use Rattle.std.specs.Prelude.{◌≡◌, true, Some, None, is_some, ◌⊎◌, ℕ, ◌≤◌, length, take, List, map}
use Rattle.std.specs.List.{AllByRecursion}
use Rattle.std.specs.FinMap.{FinMap, get, empty, from_entries}
use Rattle.op_ids.specs.declared.OpId.{OpId}
use Rattle.op_ids.specs.Order.{id_lt, root_id}
use Rattle.model.specs.Operation.{Anchor}
use Rattle.model.specs.State.{RowKey, row_cmp, Character, State, right_of, typed, run_of}
use Rattle.walk_laws.specs.Insertion.{IsInsertionTree}
use Rattle.move_list.specs.Kept.{all_rows}
use Rattle.fugue_text.specs.declared.texts.TextRow.{TextRow}
use Rattle.fugue_text.specs.Runs.{TextRows, places}

abbrev pub Table : Type 0
Table = FinMap row_cmp Character

-- a document that has these texts and nothing else
abbrev pub document_of : Table → State
document_of t = record { nodes = empty; positions = empty; registers = empty; texts = t; list_positions = empty; elements = empty }

-- It hangs right of the head, or on a character of the node with a smaller id.
abbrev pub HangsIn : Table → OpId → OpId → Anchor → Type 0
HangsIn texts node id at = (at ≡ right_of root_id) ⊎ ((is_some (get texts (node, at.on)) ≡ true) × (id_lt at.on id ≡ true))

-- The characters of each node are an insertion tree.
pub record AreTexts (texts : Table) : Type 0 where
  pub head : (node : OpId) → get texts (node, root_id) ≡ None
  pub anchors : (node id : OpId) (c : Character) → get texts (node, id) ≡ Some c → HangsIn texts node id c.at

-- None of the ids of a run is there.
abbrev pub AreNew : Table → OpId → OpId → ℕ → Type 0
AreNew texts node first count = AllByRecursion (λ id. get texts (node, id) ≡ None) (run_of first count)

-- The table has some of the characters more, from the first on.
pub record IsPartTyped (old new : Table) (node first : OpId) (at : Anchor) (characters : List ℕ) : Type 0 where
  pub count : ℕ
  pub some : count ≤ length characters
  pub now : new ≡ typed old node first at (take count characters)

-- ---- rows

abbrev pub text_entry : TextRow → RowKey × Character
text_entry r = ((r.node, r.id), record { at = record { on = r.anchor; side = r.side }; character = r.character; dead = r.dead })

abbrev pub text_entries : List TextRow → List (RowKey × Character)
text_entries rows = map text_entry rows

-- ---- what is kept

-- the rows of a node are what is kept of it
abbrev pub own_rows : TextRows → TextRows
own_rows rows = rows

abbrev pub table_of : List (OpId × TextRows) → Table
table_of es = from_entries (all_rows own_rows es)

abbrev pub AreTrees : List (OpId × TextRows) → Type 0
AreTrees es = AllByRecursion (λ e. IsInsertionTree (places e.1)) es
