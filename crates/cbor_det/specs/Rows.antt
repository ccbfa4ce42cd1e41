-- Rows: lists whose items are the fields of one thing, in their order. What a read of one field, of several
-- fields and of a whole row answers, told by items alone.
--
-- In all of them view sees the value that is read as one of the definitions, item gives the item of such a
-- value (items those of its fields), and Is says which values there are.
use Rattle.std.specs.Prelude.{◌≡◌, ◌≢◌, ◌≤◌, ℕ, List, ◌++◌, length, flat_map, Option, None, Some, IfSome}
use Rattle.std.specs.List.{AllByRecursion}
use Rattle.cbor_det.specs.Item.{Item, spell, row, IsItem}
use Rattle.cbor_det.specs.Unread.{Unread, Took}

-- At this item, which these bytes follow, a read gives the value whose item it is, and goes past it; or it
-- gives none, where it is the item of no value.
abbrev pub FieldAnswer : {X Y : Type 0} → (X → Y) → (Y → Item) → (Y → Type 0) → Unread → Option X → Item → List ℕ → Type 0
FieldAnswer view item Is new (Some v) x more = (x ≡ item (view v)) × Is (view v) × (new.rest ≡ more)
FieldAnswer {X} {Y} view item Is new None x more = (y : Y) → x ≡ item y → Is y → ⊥

-- A read of one field, from the place old to the place new: so it answers whatever item stands there.
abbrev pub ReadsField : {X Y : Type 0} → (X → Y) → (Y → Item) → (Y → Type 0) → Unread → Unread → Option X → Type 0
ReadsField view item Is old new result = (x : Item) (more : List ℕ) → IsItem x → old.rest ≡ spell x ++ more → FieldAnswer view item Is new result x more

-- The same of the fields that stand first among these items: those behind them are left to read.
abbrev pub FieldsAnswer : {X Y : Type 0} → (X → Y) → (Y → List Item) → (Y → Type 0) → Unread → Option X → List Item → List ℕ → Type 0
FieldsAnswer view items Is new (Some v) fields more = (left : List Item) × (fields ≡ items (view v) ++ left) × Is (view v) × (new.rest ≡ flat_map spell left ++ more)
FieldsAnswer {X} {Y} view items Is new None fields more = (y : Y) (left : List Item) → fields ≡ items y ++ left → Is y → ⊥

-- A read of fields that are so many items: so it answers wherever at least so many stand, and fields that are
-- read were spelled there.
pub record ReadsFields {X Y : Type 0} (count : ℕ) (view : X → Y) (items : Y → List Item) (Is : Y → Type 0) (old new : Unread) (result : Option X) : Type 0 where
  pub answers : (fields : List Item) (more : List ℕ) → count ≤ length fields → AllByRecursion IsItem fields → old.rest ≡ flat_map spell fields ++ more → FieldsAnswer view items Is new result fields more
  pub found : IfSome result (λ v. Is (view v) × Took (flat_map spell (items (view v))) old new)

-- At this item a read of a row's head gives the number of its fields, which are left to read; or none, where
-- it is no row.
abbrev pub RowAnswer : Unread → Option ℕ → Item → List ℕ → Type 0
RowAnswer new (Some n) x more = (fields : List Item) × (x ≡ row fields) × AllByRecursion IsItem fields × (length fields ≡ n) × (new.rest ≡ flat_map spell fields ++ more)
RowAnswer new None x more = (fields : List Item) → x ≢ row fields

-- A read of a row's head: so it answers whatever item stands there.
abbrev pub ReadsRow : Unread → Unread → Option ℕ → Type 0
ReadsRow old new result = (x : Item) (more : List ℕ) → IsItem x → old.rest ≡ spell x ++ more → RowAnswer new result x more
