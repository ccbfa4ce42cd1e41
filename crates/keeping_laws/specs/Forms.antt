-- The forms of words that commands are made of.
use Rattle.std.specs.Prelude.{◌≡◌, ℕ, ◌≤◌, ◌^◌, pos, neg_ℤ, ◌≤ℤ◌, ◌<ℤ◌, List, length, IsUtf8}
use Rattle.std.specs.List.{AllByRecursion}
use Rattle.std.specs.Char.{IsScalar}
use Rattle.cbor_det.specs.Head.{IsBytes}
use Rattle.model.specs.Value.{Value, null, truth, integer, text, bytes}
use Rattle.model.specs.Edit.{Edit, new_child, move_child, trash_child, put_value, unset_key, type_at, erase_at, add_at, shift_to, set_at, drop_at}

-- A value but for its length: numbers have 64 bits with their sign, and texts are UTF-8.
abbrev pub HasForm : Value → Type 0
HasForm null = Unit {0}
HasForm (truth b) = Unit {0}
HasForm (integer n) = (neg_ℤ (pos (2 ^ 63)) ≤ℤ n) × (n <ℤ pos (2 ^ 63))
HasForm (text t) = IsUtf8 t
HasForm (bytes b) = IsBytes b

-- An edit whose texts are UTF-8, characters are scalar values, and values are in form. Ids, places and lengths are judged in the document.
abbrev pub IsEdit : Edit → Type 0
IsEdit (new_child parent i) = Unit {0}
IsEdit (move_child child parent i) = Unit {0}
IsEdit (trash_child child) = Unit {0}
IsEdit (put_value node key value) = IsUtf8 key × HasForm value
IsEdit (unset_key node key) = IsUtf8 key
IsEdit (type_at node at characters) = AllByRecursion IsScalar characters
IsEdit (erase_at node at count) = Unit {0}
IsEdit (add_at node at value) = HasForm value
IsEdit (shift_to node from to) = Unit {0}
IsEdit (set_at node at value) = HasForm value
IsEdit (drop_at node at) = Unit {0}

-- A document's id has 16 bytes, and it has 1 to 32 members.
pub record IsDocument (document : List ℕ) (n : ℕ) : Type 0 where
  pub bytes : IsBytes document
  pub length : length document ≡ 16
  pub some : 1 ≤ n
  pub most : n ≤ 32
