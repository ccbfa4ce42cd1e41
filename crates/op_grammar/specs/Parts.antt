-- What is read of the item of a change, piece by piece.
use Rattle.std.specs.Prelude.{◌≡◌, ◌≢◌, ◌↔◌, ℕ, ◌+◌, ◌<◌, ◌≤◌, ◌^◌, List, [], ◌∷◌, ◌++◌, length, slice_index, drop, sum_by, flat_map, map, Option, None, Some, Result, Ok, Err}
use Rattle.std.specs.List.{AllByRecursion}
use Rattle.cbor_det.specs.Head.{head}
use Rattle.cbor_det.specs.Item.{Item, IsItem, IsSpelled, spell, unsigned, bytes, row, Spells}
use Rattle.std.specs.Borrow.{Bor}
use Rattle.cbor_det.specs.Unread.{Unread, unread, Took}
use Rattle.model.specs.Value.{numbers_item}
use Rattle.model.specs.Operation.{Operation, IsOperation, operation_item, width_of}
use Rattle.model.specs.Change.{ChangeParts, parts_item, body}
use Rattle.model.specs.Rules.{BreaksFirst, KeepsAll, KeepsChange}
use Rattle.op_grammar.specs.Rules.{rule_of}
use Rattle.op_grammar.specs.Changes.{head_rules}
use Rattle.op_grammar.specs.declared.parts.Parts.{Parts}
use Rattle.op_grammar.specs.declared.head.Said.{Said}
use Rattle.op_grammar.specs.declared.rule.Rule.{Rule}

-- These fields are numbers, and the cursor goes past them; or they aren't all.
abbrev pub NumbersAnswer : Unread → Option ℕ → List Item → List ℕ → Type 0
NumbersAnswer new (Some k) fields more = (ns : List ℕ) × (fields ≡ map unsigned ns) × (new.rest ≡ more)
NumbersAnswer new None fields more = (ns : List ℕ) → fields ≢ map unsigned ns

abbrev pub SkipsNumbers : ℕ → Unread → Unread → Option ℕ → Type 0
SkipsNumbers count old new result =
    (fields : List Item) (more : List ℕ) → length fields ≡ count → AllByRecursion IsItem fields → old.rest ≡ flat_map spell fields ++ more → NumbersAnswer new result fields more

-- So many numbers were spelled here.
pub record FoundNumbers (count : ℕ) (old new : Unread) : Type 0 where
  pub numbers : List ℕ
  pub counted : length numbers ≡ count
  pub items : AllByRecursion IsItem (map unsigned numbers)
  pub took : Took (flat_map spell (map unsigned numbers)) old new

-- So many numbers have been passed, and these fields are left.
pub record Passed (count : ℕ) (now : Unread) (fields : List Item) (more : List ℕ) : Type 0 where
  pub numbers : List ℕ
  pub left : List Item
  pub parts : fields ≡ map unsigned numbers ++ left
  pub counted : length numbers ≡ count
  pub items : AllByRecursion IsItem left
  pub rest : now.rest ≡ flat_map spell left ++ more

abbrev pub HasPassed : ℕ → ℕ → Unread → Unread → Type 0
HasPassed all count old now =
    (fields : List Item) (more : List ℕ) → length fields ≡ all → AllByRecursion IsItem fields → old.rest ≡ flat_map spell fields ++ more → Passed count now fields more

-- the same of a row of numbers, as one field
abbrev pub RowOfNumbersAnswer : Unread → Option ℕ → Item → List ℕ → Type 0
RowOfNumbersAnswer new (Some k) x more = (ns : List ℕ) × (x ≡ numbers_item ns) × (new.rest ≡ more)
RowOfNumbersAnswer new None x more = (ns : List ℕ) → x ≢ numbers_item ns

abbrev pub SkipsRow : Unread → Unread → Option ℕ → Type 0
SkipsRow old new result = (x : Item) (more : List ℕ) → IsItem x → old.rest ≡ spell x ++ more → RowOfNumbersAnswer new result x more

-- A row of numbers was spelled here.
abbrev pub FoundRow : Unread → Unread → Type 0
FoundRow old new = (ns : List ℕ) × IsItem (numbers_item ns) × Took (spell (numbers_item ns)) old new

-- The parts that were read are these; the causes stand at their cursor.
pub record AreParts (p : Parts) (q : ChangeParts) : Type 0 where
  pub member : q.member ≡ p.member
  pub number : q.number ≡ p.number
  pub time : q.time ≡ p.time
  pub count : q.count ≡ p.count
  pub width : q.width ≡ p.width
  pub body : q.body ≡ p.body.now
  pub causes : (more : List ℕ) × IsItem (numbers_item q.causes) × ((unread p.causes).rest ≡ spell (numbers_item q.causes) ++ more)

abbrev pub PartsAnswer : Option Parts → Item → Type 0
PartsAnswer (Some p) x = (q : ChangeParts) × (x ≡ parts_item q) × AreParts p q
PartsAnswer None x = (q : ChangeParts) → x ≢ parts_item q

-- A read of parts: so it answers at any item.
abbrev pub ReadsParts : Unread → Option Parts → Type 0
ReadsParts old result = (x : Item) (more : List ℕ) → IsItem x → old.rest ≡ spell x ++ more → PartsAnswer result x

-- The parts that were read are those of the item of a change, which was spelled here.
abbrev pub FoundParts : Unread → Unread → Parts → Type 0
FoundParts old new p = (q : ChangeParts) × AreParts p q × IsSpelled (parts_item q) × Took (spell (parts_item q)) old new

-- a width and a body, and a count before them
abbrev pub width_body_of : ℕ × Bor (List ℕ) → ℕ × List ℕ
width_body_of p = (p.0, p.1.now)

abbrev pub width_and_body : ℕ × List ℕ → List Item
width_and_body p = unsigned p.0 ∷ bytes p.1 ∷ []

abbrev pub rest_of : ℕ × (ℕ × Bor (List ℕ)) → ℕ × (ℕ × List ℕ)
rest_of p = (p.0, width_body_of p.1)

abbrev pub count_and_rest : ℕ × (ℕ × List ℕ) → List Item
count_and_rest p = unsigned p.0 ∷ width_and_body p.1

-- where these are the fields of a row
abbrev pub ReadsSeven : Unread → Option Parts → Type 0
ReadsSeven old result =
    (fields : List Item) (more : List ℕ) → length fields ≡ 7 → AllByRecursion IsItem fields → old.rest ≡ flat_map spell fields ++ more → PartsAnswer result (row fields)

-- the parts that were read are those of a change whose fields were spelled here
abbrev pub FoundSeven : Unread → Unread → Parts → Type 0
FoundSeven old new p =
    (q : ChangeParts) × (text : List ℕ) × AreParts p q × IsSpelled (parts_item q) × (spell (parts_item q) ≡ head 4 7 ++ text) × Took text old new

-- The parts begin with these numbers.
abbrev pub BeginsWith : ℕ → ℕ → ℕ → ChangeParts → Type 0
BeginsWith member number time p = (p.member ≡ member) × (p.number ≡ number) × (p.time ≡ time)

-- n counts of 32 bits are read from a row of numbers, or it isn't such a row
abbrev pub CausesAnswer : ℕ → List ℕ → Option (List ℕ) → Type 0
CausesAnswer n ns (Some v) = (v ≡ ns) × (length ns ≡ n) × AllByRecursion (λ count. count < 2 ^ 32) ns
CausesAnswer n ns None = length ns ≡ n → AllByRecursion (λ count. count < 2 ^ 32) ns → ⊥

-- where they are the numbers that stand first
abbrev pub ReadsCounts : ℕ → Unread → Option (List ℕ) → Type 0
ReadsCounts n old result = (ns more : List ℕ) → length ns ≡ n → AllByRecursion IsItem (map unsigned ns) → old.rest ≡ flat_map spell (map unsigned ns) ++ more → CausesAnswer n ns result

-- Of so many numbers the counts were read, and the others stand there.
pub record Counted (n count : ℕ) (ns more : List ℕ) (counts : List ℕ) (now : Unread) : Type 0 where
  pub sizes : length counts ≡ n
  pub read : (k : ℕ) → k < count → slice_index counts k ≡ slice_index ns k
  pub few : (k : ℕ) → k < count → slice_index ns k < 2 ^ 32
  pub none : (k : ℕ) → count ≤ k → slice_index counts k ≡ 0
  pub rest : now.rest ≡ flat_map spell (map unsigned (drop count ns)) ++ more

abbrev pub said_parts : Said → ChangeParts
said_parts s = record { member = s.member; number = s.number; time = s.time; causes = s.causes; count = s.count; width = s.width; body = s.body.now }

abbrev pub SaidAnswer : ℕ → Item → Result Said Rule → Type 0
SaidAnswer n x (Ok s) = (x ≡ parts_item (said_parts s)) × KeepsAll (KeepsChange n) head_rules x
SaidAnswer n x (Err r) = BreaksFirst (KeepsChange n) head_rules x (rule_of r)

-- These items are of operations, which take so many ids.
pub record AreOperations (n : ℕ) (items : List Item) (ids : ℕ) : Type 0 where
  pub operations : List Operation
  pub are : items ≡ map operation_item operations
  pub each : AllByRecursion (IsOperation n) operations
  pub taken : sum_by width_of operations ≡ ids

-- The bytes spell so many items, and these are such operations.
abbrev pub SpellsOperations : ℕ → List ℕ → ℕ → ℕ → Type 0
SpellsOperations n all count ids = (items : List Item) × Spells all items × (length items ≡ count) × AreOperations n items ids

-- So many operations were read from the bytes, and so many ids are left.
pub record AreRead (n : ℕ) (all : List ℕ) (ids read : ℕ) (now : Unread) (left : ℕ) : Type 0 where
  pub operations : List Operation
  pub each : AllByRecursion (IsOperation n) operations
  pub counted : length operations ≡ read
  pub spelled : all ≡ body operations ++ now.rest
  pub taken : sum_by width_of operations + left ≡ ids

-- Some of the items were read, and all are such operations exactly where those that are left are, with so many ids left.
pub record LeftToRead (n : ℕ) (all : List Item) (ids read : ℕ) (now : Unread) (left : ℕ) : Type 0 where
  pub items : List Item
  pub counted : length items + read ≡ length all
  pub spelled : Spells now.rest items
  pub same : AreOperations n all ids ↔ AreOperations n items left
