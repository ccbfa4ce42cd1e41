-- How many bytes the operations of an edit have.
use Rattle.std.proofs.Common.{ℕ, ◌+◌, ◌*◌, ◌≤◌, ◌^◌, true, false, Bool, cond, ltb, List, [], ◌∷◌, length, ap, arith, inl, inr}
use Rattle.std.specs.Prelude.{flat_map, pos, negsuc, encode_utf8}
use Rattle.std.specs.List.{AllByRecursion}
use Rattle.std.proofs.lemmas.Bool.{cases_lt}
use Rattle.std.proofs.lemmas.List.{length-append}
use Rattle.std.proofs.lemmas.Str.{length-encode}
use Rattle.op_ids.specs.declared.OpId.{OpId}
use Rattle.op_ids.specs.declared.Side.{Side}
use Rattle.op_ids.specs.declared.Side.TheVariants.{Left, Right}
use Rattle.cbor_det.specs.Head.{head}
use Rattle.cbor_det.specs.Item as cbor
use Rattle.cbor_det.specs.Item.{Item, spell}
use Rattle.cbor_det.proofs.HeadLaws.{head_5, head_8, head_16, head_32, head_64}
use Rattle.cbor_det.proofs.ItemLaws.{spell-list}
use Rattle.model.specs.Value.{Value, IsValue, null, truth, integer, text, bytes, id_item, row, value_item}
use Rattle.model.specs.Operation.{Anchor, Operation, IsOperation, IsKey, operation_item, side_item, utf8, new_node, move_node, put_key, type_text, erase_text, add_item, shift_item, set_item, drop_item}
use Rattle.model.specs.Change.{body}

head_most : (major n : ℕ) → length (head major n) ≤ 9
head_most major n =
    elim (cases_lt n 24) [
      | inl a ↦ omega (arith, ap length (head_5 major n a))
      | inr a ↦ elim (cases_lt n (2 ^ 8)) [
        | inl b ↦ omega (arith, ap length (head_8 major n a b))
        | inr b ↦ elim (cases_lt n (2 ^ 16)) [
          | inl d ↦ omega (arith, ap length (head_16 major n b d))
          | inr d ↦ elim (cases_lt n (2 ^ 32)) [
            | inl f ↦ omega (arith, ap length (head_32 major n d f))
            | inr f ↦ omega (arith, ap length (head_64 major n f))
          ]
        ]
      ]
    ]

-- items that are no longer than this together
abbrev Together : List Item → ℕ → Type 0
Together xs most = length (flat_map spell xs) ≤ most

with_one : (x : Item) (xs : List Item) (k most : ℕ) → length (spell x) ≤ k → Together xs most → Together (x ∷ xs) (k + most)
with_one x xs k most l t = omega (arith, length-append (spell x) (flat_map spell xs))

row_most : (xs : List Item) (most : ℕ) → Together xs most → length (spell (row xs)) ≤ 9 + most
row_most xs most t = omega (arith, ap length (spell-list xs), length-append (head 4 (length xs)) (flat_map spell xs), head_most 4 (length xs))

number_most : (n : ℕ) → length (spell (cbor.unsigned n)) ≤ 9
number_most n = head_most 0 n

none : Together [] 0
none = omega arith

id_most : (id : OpId) → length (spell (id_item id)) ≤ 36
id_most id =
    row_most (cbor.unsigned id.time ∷ cbor.unsigned id.member ∷ cbor.unsigned id.index ∷ []) 27
    (with_one (cbor.unsigned id.time) (cbor.unsigned id.member ∷ cbor.unsigned id.index ∷ []) 9 18 (number_most id.time)
    (with_one (cbor.unsigned id.member) (cbor.unsigned id.index ∷ []) 9 9 (number_most id.member) (with_one (cbor.unsigned id.index) [] 9 0 (number_most id.index) none)))

side_most : (s : Side) → length (spell (side_item s)) ≤ 9
side_most Left = head_most 0 0
side_most Right = head_most 0 1

value_most : (v : Value) → IsValue v → length (spell (value_item v)) ≤ 65545
value_most null h = omega (arith, head_most 7 22)
value_most (truth false) h = omega (arith, head_most 7 20)
value_most (truth true) h = omega (arith, head_most 7 21)
value_most (integer (pos n)) h = omega (arith, head_most 0 n)
value_most (integer (negsuc n)) h = omega (arith, head_most 1 n)
value_most (text t) h = omega (arith, head_most 3 (length t), length-append (head 3 (length t)) t, h.1)
value_most (bytes b) h = omega (arith, head_most 2 (length b), length-append (head 2 (length b)) b, h.1)

key_most : (key : List ℕ) → IsKey key → length (spell (cbor.text key)) ≤ 265
key_most key h = omega (arith, head_most 3 (length key), length-append (head 3 (length key)) key, h.most)

least_of : (a b c : Bool) → cond a 1 (cond b 2 (cond c 3 4)) ≤ 4
least_of true b c = omega arith
least_of false true c = omega arith
least_of false false true = omega arith
least_of false false false = omega arith

character_most : (c : ℕ) → length (encode_utf8 c) ≤ 4
character_most c = let l = least_of (ltb c 128) (ltb c 2048) (ltb c 65536) in omega (arith, length-encode c)

characters_most : (cs : List ℕ) → length (utf8 cs) ≤ 4 * length cs
characters_most [] = omega arith
characters_most (c ∷ cs) = omega (arith, length-append (encode_utf8 c) (utf8 cs), character_most c, characters_most cs)

typed_most : (cs : List ℕ) → length cs ≤ 4096 → length (spell (cbor.text (utf8 cs))) ≤ 16393
typed_most cs l = omega (arith, head_most 3 (length (utf8 cs)), length-append (head 3 (length (utf8 cs))) (utf8 cs), characters_most cs)

kind_first : (k : ℕ) (xs : List Item) (most : ℕ) → Together xs most → length (spell (row (cbor.unsigned k ∷ xs))) ≤ 18 + most
kind_first k xs most t = omega (arith, row_most (cbor.unsigned k ∷ xs) (9 + most) (with_one (cbor.unsigned k) xs 9 most (number_most k) t))

erase_most : (node first : OpId) (count : ℕ) → length (spell (operation_item (erase_text node first count))) ≤ 99
erase_most node first count =
    kind_first 4 (id_item node ∷ id_item first ∷ cbor.unsigned count ∷ []) 81
    (with_one (id_item node) (id_item first ∷ cbor.unsigned count ∷ []) 36 45 (id_most node) (with_one (id_item first) (cbor.unsigned count ∷ []) 36 9 (id_most first) (with_one (cbor.unsigned count) [] 9 0 (number_most count) none)))

at_most : (at : Anchor) (xs : List Item) (most : ℕ) → Together xs most → Together (id_item at.on ∷ side_item at.side ∷ xs) (45 + most)
at_most at xs most t = omega (arith, with_one (id_item at.on) (side_item at.side ∷ xs) 36 (9 + most) (id_most at.on) (with_one (side_item at.side) xs 9 most (side_most at.side) t))

ids_most : (a : OpId) (xs : List Item) (most : ℕ) → Together xs most → Together (id_item a ∷ xs) (36 + most)
ids_most a xs most t = with_one (id_item a) xs 36 most (id_most a) t

pub operation_most : (n : ℕ) (o : Operation) → IsOperation n o → length (spell (operation_item o)) ≤ 1048576
operation_most n (new_node parent at) h = omega (arith, kind_first 0 (id_item parent ∷ id_item at.on ∷ side_item at.side ∷ []) 81 (ids_most parent (id_item at.on ∷ side_item at.side ∷ []) 45 (at_most at [] 0 none)))
operation_most n (move_node child parent at) h =
    omega (
      arith,
      kind_first 1 (id_item child ∷ id_item parent ∷ id_item at.on ∷ side_item at.side ∷ []) 117
          (ids_most child (id_item parent ∷ id_item at.on ∷ side_item at.side ∷ []) 81 (ids_most parent (id_item at.on ∷ side_item at.side ∷ []) 45 (at_most at [] 0 none))),
    )
operation_most n (put_key node key value) h =
    omega (
      arith,
      kind_first 2 (id_item node ∷ cbor.text key ∷ value_item value ∷ []) 65846
          (ids_most node (cbor.text key ∷ value_item value ∷ []) 65810 (with_one (cbor.text key) (value_item value ∷ []) 265 65545 (key_most key h.1) (with_one (value_item value) [] 65545 0 (value_most value h.2) none))),
    )
operation_most n (type_text node at cs) h =
    omega (
      arith,
      kind_first 3 (id_item node ∷ id_item at.on ∷ side_item at.side ∷ cbor.text (utf8 cs) ∷ []) 16474
          (ids_most node (id_item at.on ∷ side_item at.side ∷ cbor.text (utf8 cs) ∷ []) 16438 (at_most at (cbor.text (utf8 cs) ∷ []) 16393 (with_one (cbor.text (utf8 cs)) [] 16393 0 (typed_most cs h.2.most) none))),
    )
operation_most n (erase_text node first count) h = omega (arith, erase_most node first count)
operation_most n (add_item node at value) h =
    omega (
      arith,
      kind_first 5 (id_item node ∷ id_item at.on ∷ side_item at.side ∷ value_item value ∷ []) 65626
          (ids_most node (id_item at.on ∷ side_item at.side ∷ value_item value ∷ []) 65590 (at_most at (value_item value ∷ []) 65545 (with_one (value_item value) [] 65545 0 (value_most value h.2) none))),
    )
operation_most n (shift_item node element at) h =
    omega (
      arith,
      kind_first 6 (id_item node ∷ id_item element ∷ id_item at.on ∷ side_item at.side ∷ []) 117
          (ids_most node (id_item element ∷ id_item at.on ∷ side_item at.side ∷ []) 81 (ids_most element (id_item at.on ∷ side_item at.side ∷ []) 45 (at_most at [] 0 none))),
    )
operation_most n (set_item node element value) h =
    omega (
      arith,
      kind_first 7 (id_item node ∷ id_item element ∷ value_item value ∷ []) 65617
          (ids_most node (id_item element ∷ value_item value ∷ []) 65581 (ids_most element (value_item value ∷ []) 65545 (with_one (value_item value) [] 65545 0 (value_most value h.2) none))),
    )
operation_most n (drop_item node element) h = omega (arith, kind_first 8 (id_item node ∷ id_item element ∷ []) 72 (ids_most node (id_item element ∷ []) 36 (ids_most element [] 0 none)))

-- an operation that erases, of whatever characters
abbrev pub Erases : Operation → Type 0
Erases (erase_text node first count) = Unit {0}
Erases _ = ⊥

one_erases : (o : Operation) → Erases o → length (spell (operation_item o)) ≤ 99
one_erases (erase_text node first count) h = erase_most node first count
one_erases (new_node parent at) h = absurd h
one_erases (move_node child parent at) h = absurd h
one_erases (put_key node key value) h = absurd h
one_erases (type_text node at cs) h = absurd h
one_erases (add_item node at value) h = absurd h
one_erases (shift_item node element at) h = absurd h
one_erases (set_item node element value) h = absurd h
one_erases (drop_item node element) h = absurd h

pub erases_most : (os : List Operation) → AllByRecursion Erases os → length (body os) ≤ 99 * length os
erases_most [] h = omega arith
erases_most (o ∷ os) h = omega (arith, length-append (spell (operation_item o)) (body os), one_erases o h.0, erases_most os h.1)
