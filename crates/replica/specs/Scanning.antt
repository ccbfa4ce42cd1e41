-- What a scan of the bytes of a file answers, as a whole and piece by piece.
use Rattle.std.specs.Prelude.{◌≡◌, ◌≢◌, ℕ, ◌+◌, ◌<◌, ◌≤◌, ◌^◌, List, [], ◌++◌, length, Result, Ok, Err}
use Rattle.cbor_det.specs.Item.{Item, IsSpelled, spell}
use Rattle.cbor_det.specs.Unread.{Unread}
use Rattle.cbor_det.specs.FieldFaults.{FlawedHere}
use Rattle.model.specs.Change.{Change}
use Rattle.model.specs.Rules.{BreaksFirst, KeepsChange, change_rules}
use Rattle.model.specs.BaseItem.{base_item}
use Rattle.model.specs.File.{Kind, bundle, Header, header_item, IsHeader, File, SpellsFile, HasFault, Front, nothing, headed, based, FileFault, FaultIn}
use Rattle.file_laws.proofs.FileFaults.{Reads}
use Rattle.op_grammar.specs.Rules.{rule_of}
use Rattle.replica.specs.Empty.{empty_base, base_in}
use Rattle.replica.specs.Heads.{header_by, base_by}
use Rattle.replica.specs.FaultText.{fault_of}
use Rattle.replica.specs.declared.head.FileHead.{FileHead}
use Rattle.replica.specs.declared.fault.BadFile.TheVariants as bad
use Rattle.replica.specs.declared.fault.ScanFault.{ScanFault}
use Rattle.replica.specs.declared.fault.ScanFault.TheVariants.{Bad, OtherBase, NoMemory}

-- ---- as a whole

-- An item other than the empty base stands behind the header of a file that has a base.
pub record HasOtherBase (bytes : List ℕ) : Type 0 where
  pub header : Header
  pub is_header : IsHeader header
  pub has_base : header.kind ≢ bundle
  pub item : Item
  pub spelled : IsSpelled item
  pub left : List ℕ
  pub parts : bytes ≡ spell (header_item header) ++ (spell item ++ left)
  pub other : item ≢ base_item (empty_base header.members)

-- Its base, if the kind has one, is the empty one.
abbrev pub HasEmptyBase : File → Type 0
HasEmptyBase f = f.base ≡ base_in f.kind f.members

-- The file that the bytes spell, if its base is empty; or the first fault, if none but the empty base comes before it;
-- or that another base does. Want of memory is free.
abbrev pub ScanAnswer : List ℕ → Result File ScanFault → Type 0
ScanAnswer bytes (Ok f) = SpellsFile bytes f × HasEmptyBase f
ScanAnswer bytes (Err (Bad why)) = HasFault bytes (fault_of why) × (HasOtherBase bytes → ⊥)
ScanAnswer bytes (Err OtherBase) = HasOtherBase bytes
ScanAnswer bytes (Err NoMemory) = Unit {0}

abbrev pub OneAnswer : Type 0
OneAnswer = (bytes : List ℕ) (a b : Result File ScanFault) → length bytes < 2 ^ 32 → a ≢ Err NoMemory → b ≢ Err NoMemory → ScanAnswer bytes a → ScanAnswer bytes b → a ≡ b

-- ---- piece by piece

-- From one front some items lead to another, so that faults and files of what is left are those of what was left before.
pub record LeadsTo (all : ℕ) (f : Front) (i : ℕ) (left : List ℕ) (g : Front) (j : ℕ) (rest : List ℕ) : Type 0 where
  pub faults : (fault : FileFault) → FaultIn all g j rest fault → FaultIn all f i left fault
  pub reads : (file : File) → Reads g rest file → Reads f left file
  pub counted : j + length rest ≤ i + length left

-- what is wrong in what is left, behind this front
abbrev pub FaultAt : ℕ → Front → ℕ → List ℕ → ScanFault → Type 0
FaultAt all f i left (Bad why) = FaultIn all f i left (fault_of why)
FaultAt all f i left OtherBase = ⊥
FaultAt all f i left NoMemory = Unit {0}

-- Items from this one on can be counted in 32 bits.
abbrev pub Room : ℕ → Unread → Type 0
Room first now = first + length now.rest < 2 ^ 32

abbrev pub changes_front : FileHead → List Change → List Change → Front
changes_front h kept waiting = based (header_by h) (base_by h) kept waiting

abbrev pub ScansKept : ℕ → FileHead → Unread → Unread → Result (List Change) ScanFault → Type 0
ScansKept first h old new (Ok kept) =
    (length kept ≡ h.kept) × (new.len ≡ old.len) × LeadsTo old.len (changes_front h [] []) first old.rest (changes_front h kept []) (first + h.kept) new.rest
ScansKept first h old new (Err fault) = FaultAt old.len (changes_front h [] []) first old.rest fault

abbrev pub ScansWaiting : ℕ → FileHead → List Change → Unread → Unread → Result (List Change) ScanFault → Type 0
ScansWaiting first h kept old new (Ok waiting) =
    (length waiting ≡ h.waiting) × (new.len ≡ old.len) × LeadsTo old.len (changes_front h kept []) first old.rest (changes_front h kept waiting) (first + h.waiting) new.rest
ScansWaiting first h kept old new (Err fault) = FaultAt old.len (changes_front h kept []) first old.rest fault

-- what is wrong with the item that stands next, if it has this number and is to be a change of n members
abbrev pub IsNoChange : ℕ → ℕ → Unread → ScanFault → Type 0
IsNoChange n item old (Bad (bad.Cbor flaw)) = FlawedHere old flaw
IsNoChange n item old (Bad (bad.Rule i rule)) = (i ≡ item) × ((x : Item) × (more : List ℕ) × IsSpelled x × (old.rest ≡ spell x ++ more) × BreaksFirst (KeepsChange n) change_rules x (rule_of rule))
IsNoChange n item old (Bad (bad.Trailing at)) = ⊥
IsNoChange n item old OtherBase = ⊥
IsNoChange n item old NoMemory = ⊥

-- how many items stand before the changes
abbrev pub items_before : Kind → ℕ
items_before bundle = 1
items_before _ = 2

abbrev pub ScansHeader : Unread → Unread → Result FileHead ScanFault → Type 0
ScansHeader old new (Ok h) = IsHeader (header_by h) × (h.kind ≤ 2) × (new.len ≡ old.len) × IsSpelled (header_item (header_by h)) × (old.rest ≡ spell (header_item (header_by h)) ++ new.rest)
ScansHeader old new (Err (Bad why)) = FaultIn old.len nothing 0 old.rest (fault_of why) × (HasOtherBase old.rest → ⊥)
ScansHeader old new (Err OtherBase) = ⊥
ScansHeader old new (Err NoMemory) = Unit {0}

abbrev pub ScansBase : FileHead → Unread → Unread → Result (Unit {0}) ScanFault → Type 0
ScansBase h old new (Ok _) = (new.len ≡ old.len) × (old.rest ≡ spell (base_item (empty_base h.doc.n)) ++ new.rest)
ScansBase h old new (Err (Bad why)) = FaultIn old.len (headed (header_by h)) 1 old.rest (fault_of why) × ((x : Item) (left : List ℕ) → IsSpelled x → old.rest ≡ spell x ++ left → ⊥)
ScansBase h old new (Err OtherBase) = (x : Item) × (left : List ℕ) × IsSpelled x × (old.rest ≡ spell x ++ left) × (x ≢ base_item (empty_base h.doc.n))
ScansBase h old new (Err NoMemory) = Unit {0}

abbrev pub ScansOpening : Unread → Unread → Result FileHead ScanFault → Type 0
ScansOpening old new (Ok h) =
    IsHeader (header_by h) × (h.kind ≤ 2) × (new.len ≡ old.len) × (HasOtherBase old.rest → ⊥)
    × LeadsTo old.len nothing 0 old.rest (changes_front h [] []) (items_before (header_by h).kind) new.rest
ScansOpening old new (Err (Bad why)) = FaultIn old.len nothing 0 old.rest (fault_of why) × (HasOtherBase old.rest → ⊥)
ScansOpening old new (Err OtherBase) = HasOtherBase old.rest
ScansOpening old new (Err NoMemory) = Unit {0}
