-- An insertion tree as its contracts see it, and as it is kept.
use Rattle.std.specs.Prelude.{◌≡◌, Bool, true, false, Option, Some, None, List, [], ◌∷◌, ◌++◌, map, filter, refl}
use Rattle.std.specs.Ordering.{ordering_then, bool_cmp, eq_by_cmp}
use Rattle.std.specs.declared.cmp.Ordering.{Ordering}
use Rattle.std.specs.BTreeSet.{BTreeSet, contains}
use Rattle.std.specs.Coded.{Coded, code_by, coded×, coded_list}
use Rattle.op_ids.specs.declared.OpId.{OpId}
use Rattle.op_ids.specs.declared.Side.{Side}
use Rattle.op_ids.specs.declared.Side.TheVariants.{Left, Right}
use Rattle.op_ids.specs.Order.{id_cmp, id_lt}
use Rattle.op_ids.specs.Codes.{id_code, side_code}
use Rattle.model.specs.Operation.{Anchor}
use Rattle.model.specs.Walk.{Rows, hanging}
use Rattle.walk_laws.specs.Insertion.{anchor_of, IsInsertionTree, LeastChild}
use Rattle.fugue_tree.specs.declared.tree.Anchor as code
use Rattle.fugue_tree.specs.declared.tree.PlaceRow.{PlaceRow}
use Rattle.fugue_tree.specs.declared.children.Child.{Child}
use Rattle.fugue_tree.specs.declared.walking.Task.{Task}
use Rattle.fugue_tree.specs.declared.walking.Task.TheVariants.{Visit, Give}

-- the rows of a tree by rising ids, and whose they are
pub record OwnedRows : Type 0 where
  pub owner : OpId
  pub rows : Rows

abbrev pub anchor_code : Coded Anchor
anchor_code = code_by (OpId × Side) (coded× id_code side_code) (λ a. (a.on, a.side)) (λ p. record { on = p.0; side = p.1 }) (λ _. refl)

abbrev pub owned_code : Coded OwnedRows
owned_code = code_by (OpId × Rows) (coded× id_code (coded_list (coded× id_code anchor_code))) (λ t. (t.owner, t.rows)) (λ p. record { owner = p.0; rows = p.1 }) (λ _. refl)

-- a row as it is handed out
abbrev pub row_of : OpId → OpId × Anchor → PlaceRow
row_of owner e = record { owner = owner; id = e.0; anchor = e.1.on; side = e.1.side }

-- a row that was handed out, by its id
abbrev pub entry_of : PlaceRow → OpId × Anchor
entry_of r = (r.id, record { on = r.anchor; side = r.side })

-- The least row that hangs there, if any does.
abbrev pub IsFirstChild : Rows → OpId → Side → Option OpId → Type 0
IsFirstChild rows on side None = (q : OpId) → anchor_of rows q ≡ Some (record { on = on; side = side }) → ⊥
IsFirstChild rows on side (Some c) = LeastChild rows on side c

-- What is left to do for a row: its left children, the row, its right children.
abbrev pub tasks_of : Rows → OpId → List Task
tasks_of rows id = (map Visit (hanging rows id Left) ++ Give id ∷ []) ++ map Visit (hanging rows id Right)

-- ---- what is kept

abbrev pub kept_anchor : code.Anchor → Anchor
kept_anchor a = record { on = a.on; side = a.side }

abbrev pub kept_entry : OpId × code.Anchor → OpId × Anchor
kept_entry e = (e.0, kept_anchor e.1)

abbrev pub kept_rows : List (OpId × code.Anchor) → Rows
kept_rows es = map kept_entry es

abbrev pub owned_rows : OpId → List (OpId × code.Anchor) → OwnedRows
owned_rows owner es = record { owner = owner; rows = kept_rows es }

abbrev pub right_side : Side → Bool
right_side Left = false
right_side Right = true

-- by what they hang on, then by the side, then by the id
abbrev pub child_cmp : Child → Child → Ordering
child_cmp a b = ordering_then (id_cmp a.anchor b.anchor) (ordering_then (bool_cmp a.is_right b.is_right) (id_cmp a.id b.id))

abbrev pub child_eq : Child → Child → Bool
child_eq = eq_by_cmp child_cmp

abbrev pub at : OpId → Side → OpId → Child
at on side id = record { anchor = on; is_right = right_side side; id = id }

abbrev pub is_child_of : OpId → Side → Child → Bool
is_child_of on side c = child_eq (at on side c.id) c

abbrev pub hangs_so : Option Anchor → Child → Bool
hangs_so None c = false
hangs_so (Some a) c = is_child_of a.on a.side c

-- The children are these rows, by what they hang on.
abbrev pub AreChildren : Rows → BTreeSet Child → Type 0
AreChildren rows children = (c : Child) → contains child_cmp children c ≡ hangs_so (anchor_of rows c.id) c

-- The children are the rows of an insertion tree.
pub record IsKept (rows : Rows) (children : BTreeSet Child) : Type 0 where
  pub tree : IsInsertionTree rows
  pub same : AreChildren rows children

-- the children that hang there, by rising ids
abbrev pub children_at : BTreeSet Child → OpId → Side → List OpId
children_at s on side = map (λ c. c.id) (filter (is_child_of on side) s.keys)

-- what hangs there with the least id, if anything does
abbrev pub IsFirstAt : BTreeSet Child → OpId → Side → Option OpId → Type 0
IsFirstAt s on side None = (q : OpId) → contains child_cmp s (at on side q) ≡ false
IsFirstAt s on side (Some c) = (contains child_cmp s (at on side c) ≡ true) × ((q : OpId) → contains child_cmp s (at on side q) ≡ true → id_lt q c ≡ false)
