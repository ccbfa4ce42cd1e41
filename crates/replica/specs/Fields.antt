-- What a read of some fields of a header answers, told by their spelling.
use Rattle.std.specs.Prelude.{◌≡◌, ℕ, ◌<◌, ◌≤◌, List, ◌++◌, length, Result, Ok, Err}
use Rattle.std.specs.List.{AllByRecursion}
use Rattle.std.specs.List.Sorted.{IsStrictlySortedBy}
use Rattle.std.specs.Ordering.{nat_cmp}
use Rattle.cbor_det.specs.Head.{IsBytes}
use Rattle.cbor_det.specs.Item.{bytes, spell}
use Rattle.cbor_det.specs.Unread.{Unread}
use Rattle.model.specs.Value.{numbers_item}
use Rattle.replica.specs.declared.fields.HeaderFault.{HeaderFault}
use Rattle.replica.specs.declared.fields.HeaderFault.TheVariants.{NotHeader, NoMemory}

-- The spelling of one such value stands at the old place: it is read, and no other stands there. Or none stands there.
abbrev pub Decodes : {X : Type 0} → (X → List ℕ) → (X → Type 0) → Unread → Unread → Result X HeaderFault → Type 0
Decodes {X} spelled Is old new (Ok v) = Is v × (old.rest ≡ spelled v ++ new.rest) × ((y : X) (more : List ℕ) → Is y → old.rest ≡ spelled y ++ more → (y ≡ v) × (more ≡ new.rest))
Decodes {X} spelled Is old new (Err NotHeader) = (y : X) (more : List ℕ) → Is y → old.rest ≡ spelled y ++ more → ⊥
Decodes {X} spelled Is old new (Err NoMemory) = Unit {0}

-- from the least on and below the limit
abbrev pub IsWithin : ℕ → ℕ → ℕ → Type 0
IsWithin least limit n = (least ≤ n) × (n < limit)

abbrev pub spelled_bytes : List ℕ → List ℕ
spelled_bytes b = spell (bytes b)

abbrev pub IsDocument : List ℕ → Type 0
IsDocument id = (length id ≡ 16) × IsBytes id

abbrev pub spelled_numbers : List ℕ → List ℕ
spelled_numbers ns = spell (numbers_item ns)

abbrev pub AreMine : ℕ → List ℕ → Type 0
AreMine n mine = IsStrictlySortedBy nat_cmp mine × AllByRecursion (λ m. m < n) mine
