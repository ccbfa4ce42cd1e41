-- Operations without where they lie in memory, and what a read of one answers.
use Rattle.std.specs.Prelude.{◌≡◌, ◌≢◌, ℕ, List, [], ◌∷◌, ◌++◌, length, flat_map, map, Option, None, Some, Result, Ok, Err, IfSome}
use Rattle.std.specs.List.{AllByRecursion}
use Rattle.std.specs.Str.{chars}
use Rattle.std.specs.Borrow.{Bor}
use Rattle.op_ids.specs.Order.{root_id, trash_id}
use Rattle.op_ids.specs.declared.OpId.{OpId}
use Rattle.op_ids.specs.declared.Side.{Side}
use Rattle.cbor_det.specs.Item as cbor
use Rattle.cbor_det.specs.Item.{Item, spell, IsItem, IsSpelled}
use Rattle.cbor_det.specs.Unread.{Unread, Took}
use Rattle.cbor_det.specs.FieldFaults.{FlawedHere}
use Rattle.model.specs.Value as model
use Rattle.model.specs.Value.{row}
use Rattle.model.specs.Operation as model_ops
use Rattle.model.specs.Operation.{Operation, Anchor, IsOperation, operation_item, IsAnchor, IsKey, IsRun, side_item}
use Rattle.model.specs.Value.{id_item, IsOpId, IsValue, value_item}
use Rattle.op_grammar.specs.Values.{value_of}
use Rattle.op_grammar.specs.declared.value.Value.{Value}
use Rattle.op_grammar.specs.declared.operation.OpRef.{OpRef}
use Rattle.op_grammar.specs.declared.operation.OpRef.TheVariants as ops
use Rattle.op_grammar.specs.declared.reading.OpFault.{OpFault}
use Rattle.op_grammar.specs.declared.reading.OpFault.TheVariants.{Cbor, Shape}

abbrev pub anchor_of : OpId × Side → Anchor
anchor_of a = record { on = a.0; side = a.1 }

abbrev pub anchor_items : Anchor → List Item
anchor_items at = id_item at.on ∷ side_item at.side ∷ []

-- two ids
abbrev pub two_ids : OpId × OpId → List Item
two_ids p = id_item p.0 ∷ id_item p.1 ∷ []

abbrev pub AreTwoIds : ℕ → OpId × OpId → Type 0
AreTwoIds n p = IsOpId n p.0 × IsOpId n p.1

-- an id, and where something hangs
abbrev pub id_anchor_of : OpId × (OpId × Side) → OpId × Anchor
id_anchor_of p = (p.0, anchor_of p.1)

abbrev pub id_and_anchor : OpId × Anchor → List Item
id_and_anchor p = id_item p.0 ∷ anchor_items p.1

abbrev pub AreIdAndAnchor : ℕ → OpId × Anchor → Type 0
AreIdAndAnchor n p = IsOpId n p.0 × IsAnchor n p.1

-- a child that can be moved
abbrev pub IsChild : ℕ → OpId → Type 0
IsChild n id = IsOpId n id × (id ≢ root_id) × (id ≢ trash_id)

-- a row of ids of one change
abbrev pub id_and_count : OpId × ℕ → List Item
id_and_count p = id_item p.0 ∷ cbor.unsigned p.1 ∷ []

abbrev pub AreRun : ℕ → OpId × ℕ → Type 0
AreRun n p = IsOpId n p.0 × IsRun p.0 p.1

-- a key and a value
abbrev pub key_value_of : Bor (List ℕ) × Value → List ℕ × model.Value
key_value_of p = (p.0.now, value_of p.1)

abbrev pub key_and_value : List ℕ × model.Value → List Item
key_and_value p = cbor.text p.0 ∷ value_item p.1 ∷ []

abbrev pub AreKeyAndValue : List ℕ × model.Value → Type 0
AreKeyAndValue p = IsKey p.0 × IsValue p.1

abbrev pub operation_of : OpRef → Operation
operation_of (ops.NewNode parent anchor side) = model_ops.new_node parent (anchor_of (anchor, side))
operation_of (ops.MoveNode child parent anchor side) = model_ops.move_node child parent (anchor_of (anchor, side))
operation_of (ops.PutKey node key value) = model_ops.put_key node key.now (value_of value)
operation_of (ops.TypeText node anchor side text) = model_ops.type_text node (anchor_of (anchor, side)) (chars text.now)
operation_of (ops.EraseText node first count) = model_ops.erase_text node first count
operation_of (ops.AddItem node anchor side value) = model_ops.add_item node (anchor_of (anchor, side)) (value_of value)
operation_of (ops.ShiftItem node element anchor side) = model_ops.shift_item node element (anchor_of (anchor, side))
operation_of (ops.SetItem node element value) = model_ops.set_item node element (value_of value)
operation_of (ops.DropItem node element) = model_ops.drop_item node element

abbrev pub operations_of : List OpRef → List Operation
operations_of os = map operation_of os

-- Behind its kind the row has the fields of the operation that is read, or of none.
abbrev pub KindAnswer : ℕ → ℕ → Unread → Option OpRef → List Item → List ℕ → Type 0
KindAnswer n kind new (Some op) fields more = (row (cbor.unsigned kind ∷ fields) ≡ operation_item (operation_of op)) × IsOperation n (operation_of op) × (new.rest ≡ more)
KindAnswer n kind new None fields more = (o : Operation) → row (cbor.unsigned kind ∷ fields) ≡ operation_item o → IsOperation n o → ⊥

-- Behind the kind so many fields of the operation that is read were spelled.
abbrev pub KindFound : ℕ → ℕ → ℕ → Unread → Unread → OpRef → Type 0
KindFound n kind count old new op =
    (fields : List Item) × (length fields ≡ count) × (row (cbor.unsigned kind ∷ fields) ≡ operation_item (operation_of op)) × IsOperation n (operation_of op) × Took (flat_map spell fields) old new

-- A read of the fields behind a kind: so it answers where they are so many, and fields that are read were spelled there.
pub record ReadsKind (n kind count : ℕ) (old new : Unread) (result : Option OpRef) : Type 0 where
  pub answers : (fields : List Item) (more : List ℕ) → length fields ≡ count → AllByRecursion IsItem fields → old.rest ≡ flat_map spell fields ++ more → KindAnswer n kind new result fields more
  pub found : IfSome result (KindFound n kind count old new)

-- how many fields stand behind each kind
abbrev pub field_counts : List ℕ
field_counts = 3 ∷ 4 ∷ 3 ∷ 4 ∷ 3 ∷ 4 ∷ 4 ∷ 3 ∷ 2 ∷ []

-- What a read of the operation that is spelled first answers. Cbor is the flaw of the first item, and Shape stands for an item that is spelled right and is no operation's.
abbrev pub OpAnswer : ℕ → List ℕ → Result (OpRef × Bor (List ℕ)) OpFault → Type 0
OpAnswer n bytes (Ok p) = (bytes ≡ spell (operation_item (operation_of p.0)) ++ p.1.now) × IsOperation n (operation_of p.0)
OpAnswer n bytes (Err (Cbor f)) = FlawedHere (record { len = length bytes; rest = bytes }) f
OpAnswer n bytes (Err Shape) = (x : Item) × (more : List ℕ) × IsSpelled x × (bytes ≡ spell x ++ more) × ((o : Operation) → x ≡ operation_item o → IsOperation n o → ⊥)
