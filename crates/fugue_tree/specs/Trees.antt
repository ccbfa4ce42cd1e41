-- The rows of many owners as their contracts see them, and as they are kept.
use Rattle.std.specs.Prelude.{◌≡◌, ◌≢◌, Bool, true, ◌⊎◌, None, is_some, List, map, filter}
use Rattle.std.specs.Ordering.{ordering_then, eq_by_cmp}
use Rattle.std.specs.declared.cmp.Ordering.{Ordering}
use Rattle.std.specs.BTreeSet.{BTreeSet}
use Rattle.std.specs.FinMap.{FinMap, get, from_entries, code as map_code}
use Rattle.std.specs.Coded.{Coded, coded×}
use Rattle.op_ids.specs.declared.OpId.{OpId}
use Rattle.op_ids.specs.declared.Side.{Side}
use Rattle.op_ids.specs.Order.{id_cmp, id_lt, root_id}
use Rattle.op_ids.specs.Codes.{id_code}
use Rattle.model.specs.Operation.{Anchor}
use Rattle.model.specs.State.{RowKey, row_cmp, right_of}
use Rattle.model.specs.Walk.{rows_of}
use Rattle.walk_laws.specs.Insertion.{IsInsertionTree}
use Rattle.fugue_tree.specs.declared.tree.Anchor as code
use Rattle.fugue_tree.specs.declared.tree.PlaceRow.{PlaceRow}
use Rattle.fugue_tree.specs.declared.children.Child.{Child}
use Rattle.fugue_tree.specs.declared.owned.OwnedChild.{OwnedChild}
use Rattle.fugue_tree.specs.Tree.{IsKept, anchor_code, at, child_cmp, is_child_of, kept_anchor}

-- where each row of each owner hangs
abbrev pub Table : Type 0
Table = FinMap row_cmp Anchor

abbrev pub table_code : Coded Table
table_code = map_code (coded× id_code id_code) anchor_code

-- A new row may hang there: its owner has no such row, and it hangs right of the head, or on a row of the owner with a lesser id.
pub record MayHang (table : Table) (owner id : OpId) (at : Anchor) : Type 0 where
  pub fresh : get table (owner, id) ≡ None
  pub no_head : id ≢ root_id
  pub hangs : (at ≡ right_of root_id) ⊎ ((is_some (get table (owner, at.on)) ≡ true) × (id_lt at.on id ≡ true))

-- The rows of each owner are an insertion tree.
abbrev pub AreTrees : Table → Type 0
AreTrees table = (owner : OpId) → IsInsertionTree (rows_of (λ at. at) table owner)

-- a row as it is handed out
abbrev pub place_row : RowKey × Anchor → PlaceRow
place_row e = record { owner = e.0.0; id = e.0.1; anchor = e.1.on; side = e.1.side }

-- ---- what is kept

abbrev pub kept_list : List (RowKey × code.Anchor) → List (RowKey × Anchor)
kept_list es = map (λ e. (e.0, kept_anchor e.1)) es

abbrev pub table_of : List (RowKey × code.Anchor) → Table
table_of es = from_entries (kept_list es)

-- by the owner, then as the children of one
abbrev pub owned_cmp : OwnedChild → OwnedChild → Ordering
owned_cmp a b = ordering_then (id_cmp a.owner b.owner) (child_cmp a.child b.child)

abbrev pub owned_at : OpId → OpId → Side → OpId → OwnedChild
owned_at owner on side id = record { owner = owner; child = at on side id }

abbrev pub is_of : OpId → OwnedChild → Bool
is_of owner c = eq_by_cmp id_cmp owner c.owner

-- the children of an owner
abbrev pub children_of : BTreeSet OwnedChild → OpId → BTreeSet Child
children_of s owner = record { keys = map (λ c. c.child) (filter (is_of owner) s.keys) }

-- The children are the rows of an insertion tree for each owner.
abbrev pub AreKept : Table → BTreeSet OwnedChild → Type 0
AreKept table s = (owner : OpId) → IsKept (rows_of (λ at. at) table owner) (children_of s owner)
