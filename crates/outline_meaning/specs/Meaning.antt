-- What a command line means, over what loading its files brings: its answer, or its refusal. Steps are read in their order, and the
-- first that refuses ends them.
use Rattle.std.specs.Prelude.{◌≡◌, ℕ, ◌+◌, nat_le, if◌then◌else◌, List, [], ◌∷◌, length, Option, Some, None, Result, Ok, Err}
use Rattle.std.specs.Option.{option_map}
use Rattle.cbor_det.specs.Item.{Item, Spells}
use Rattle.cbor_det.specs.Flaw.{HasFlaw}
use Rattle.cbor_det.specs.Notation.{notation_lines}
use Rattle.cbor_det.specs.declared.fault.CborFault.{CborFault}
use Rattle.model.specs.File.{File, Kind, member_file, bundle, snapshot, spell_file, file_limit, HasFault}
use Rattle.model.specs.Stands.{IsStored}
use Rattle.model.specs.Command.{Command, found, edit, ack, show, status, log, bundle_since, deliver, trim, snapshot_of, release, begin_from, check, items}
use Rattle.outline_words.specs.Table.{Order, command, play, sample, Spell, FirstWrong}
use Rattle.replica.specs.FaultText.{fault_of}
use Rattle.replica.specs.declared.fault.BadFile.{BadFile}
use Rattle.replica.specs.declared.fault.BadFile.TheVariants as bad
use Rattle.outline_meaning.specs.declared.status.Status.{Status}
use Rattle.outline_meaning.specs.declared.status.Status.TheVariants as s
use Rattle.outline_meaning.specs.Outcome.{Outcome, printed, of_kind, founded, edited, acknowledged, shown, status_text, listed, bundled, delivered, trimmed, snapped, released, begun, checked}
use Rattle.outline_meaning.specs.Sample.{sampled}
use Rattle.outline_meaning.specs.Scope.{taken_words, taken_order, taken_base}

-- ---- meanings

-- Which outcomes are meant: a value, or a refusal. There is one.
abbrev pub Meaning : Type 0 → Type 1
Meaning A = Result A Status → Type 0

-- this outcome, and no other
abbrev pub exactly : {A : Type 0} → Result A Status → Meaning A
exactly meant outcome = outcome ≡ meant

abbrev pub Continues : {A B : Type 0} → (A → Meaning B) → Result A Status → Meaning B
Continues next (Ok x) outcome = next x outcome
Continues next (Err refusal) outcome = outcome ≡ Err refusal

infixl 10 ◌>>=◌
abbrev pub ◌>>=◌ : {A B : Type 0} → Meaning A → (A → Meaning B) → Meaning B
(◌>>=◌) {A} {B} first next = λ outcome. (step : Result A Status) × first step × Continues next step outcome

-- ---- the files of a command

-- a word, and the name that it gives
abbrev pub Named : Type 0
Named = ℕ × List ℕ

-- The files that a command reads, one or two, and the new one that it makes.
pub record Roles : Type 0 where
  pub input : Option Named
  pub second : Option Named
  pub new : Option Named

abbrev pub reads : List ℕ → Roles
reads name = record { input = Some (1, name); second = None; new = None }

abbrev pub reads_two : List ℕ → List ℕ → Roles
reads_two name other = record { input = Some (1, name); second = Some (2, other); new = None }

abbrev pub makes : ℕ → List ℕ → Roles
makes word name = record { input = None; second = None; new = Some (word, name) }

abbrev pub reads_and_makes : List ℕ → ℕ → List ℕ → Roles
reads_and_makes name word made = record { input = Some (1, name); second = None; new = Some (word, made) }

abbrev pub command_roles : Command → Roles
command_roles (found document n name) = makes 3 name
command_roles (edit name e) = reads name
command_roles (ack name) = reads name
command_roles (show name) = reads name
command_roles (status name) = reads name
command_roles (log name) = reads name
command_roles (bundle_since name vector out) = reads_and_makes name 3 out
command_roles (deliver name offered) = reads_two name offered
command_roles (trim name) = reads name
command_roles (snapshot_of name out) = reads_and_makes name 2 out
command_roles (release name m) = reads name
command_roles (begin_from source m name) = reads_and_makes source 3 name
command_roles (check name) = reads name
command_roles (items name) = reads name

abbrev pub roles : Order → Roles
roles (command c) = command_roles c
roles (play name) = reads name
roles (sample seed size name) = makes 3 name

-- ---- loads

-- What loading a file brings.
pub data Loaded : Type 0 where
  -- no file has the name
  missing : Loaded
  -- the load failed
  failed : Loaded
  -- all of its bytes
  whole : List ℕ → Loaded

-- What loading brings of each of a command's files.
pub record Loads : Type 0 where
  pub input : Loaded
  pub second : Loaded
  pub new : Loaded

-- The bytes of the file that a word names. Where they are too many the status tells one more than the limit.
abbrev pub read : ℕ → Loaded → Result (List ℕ) Status
read word missing = Err (s.Missing word)
read word failed = Err (s.ReadFault word)
read word (whole bytes) = if nat_le (length bytes) file_limit then Ok bytes else Err (s.TooLarge word (file_limit + 1))

-- the bytes of the file that is read, or none where none is
abbrev pub input_bytes : Option Named → Loaded → Result (List ℕ) Status
input_bytes None load = Ok []
input_bytes (Some at) load = read at.0 load

-- The name of a new file, which no file has yet.
abbrev pub unused : Option Named → Loaded → Result Unit Status
unused None load = Ok tt
unused (Some at) missing = Ok tt
unused (Some at) failed = Err (s.ReadFault at.0)
unused (Some at) (whole bytes) = Err (s.Exists at.0)

-- The file value that bytes spell, or their first fault.
abbrev pub spelled : ℕ → List ℕ → Meaning File
spelled word bytes (Ok f) = IsStored bytes f
spelled word bytes (Err refusal) = (why : BadFile) × (refusal ≡ s.BadFile word why) × HasFault bytes (fault_of why)

-- The same, where its base is taken.
abbrev pub scanned : ℕ → List ℕ → Meaning File
scanned word bytes = do
  u ← taken_base word bytes
  spelled word bytes

-- The file that bytes spell, of a kind that is taken.
abbrev pub opened : ℕ → List Kind → List ℕ → Meaning File
opened word kinds bytes = do
  f ← scanned word bytes
  exactly (of_kind word kinds f)

-- The file that a word names, of a kind that is taken.
abbrev pub file_of : ℕ → List Kind → Loaded → Meaning File
file_of word kinds load = do
  bytes ← exactly (read word load)
  opened word kinds bytes

-- the items that bytes spell, a line for each, or the flaw of the bytes
abbrev pub itemized : List ℕ → Meaning Outcome
itemized bytes (Ok o) = (xs : List Item) × Spells bytes xs × (o ≡ record { text = notation_lines xs; stored = None })
itemized bytes (Err refusal) = (fault : CborFault) × (refusal ≡ s.BadFile 1 (bad.Cbor fault)) × HasFlaw bytes fault

-- ---- commands

abbrev pub member_files : List Kind
member_files = member_file ∷ []

-- the kinds of files that have a base
abbrev pub based_files : List Kind
based_files = member_file ∷ snapshot ∷ []

abbrev pub all_files : List Kind
all_files = member_file ∷ bundle ∷ snapshot ∷ []

-- what is made of the file that a command reads
abbrev pub of_input : List Kind → Loads → (File → Result Outcome Status) → Meaning Outcome
of_input kinds loads made = do
  f ← file_of 1 kinds loads.input
  exactly (made f)

abbrev pub delivered_to : Loads → Meaning Outcome
delivered_to loads = do
  f ← file_of 1 member_files loads.input
  offered ← file_of 2 (bundle ∷ []) loads.second
  exactly (delivered f offered)

abbrev pub items_of : Loads → Meaning Outcome
items_of loads = do
  bytes ← exactly (read 1 loads.input)
  itemized bytes

-- A script is read, and its reading is refused as that of any file. What its lines do is said in Script.
abbrev pub script_of : Loads → Meaning Outcome
script_of loads = do
  bytes ← exactly (read 1 loads.input)
  exactly (printed [])

abbrev pub made_of : Loads → Command → Meaning Outcome
made_of loads (found document n name) = exactly (founded document n)
made_of loads (edit name e) = of_input member_files loads (edited e)
made_of loads (ack name) = of_input member_files loads acknowledged
made_of loads (show name) = of_input based_files loads shown
made_of loads (status name) = of_input based_files loads (λ f. printed (status_text f))
made_of loads (log name) = of_input all_files loads listed
made_of loads (bundle_since name vector out) = of_input member_files loads (bundled vector)
made_of loads (deliver name offered) = delivered_to loads
made_of loads (trim name) = of_input member_files loads trimmed
made_of loads (snapshot_of name out) = of_input member_files loads snapped
made_of loads (release name m) = of_input member_files loads (released m)
made_of loads (begin_from source m name) = of_input based_files loads (begun m)
made_of loads (check name) = of_input all_files loads checked
made_of loads (items name) = items_of loads

abbrev pub order_made : Loads → Order → Meaning Outcome
order_made loads (command c) = made_of loads c
order_made loads (play name) = script_of loads
order_made loads (sample seed size name) = exactly (sampled seed size)

-- ---- answers

-- A file to be stored: the word that names it, its name, and its bytes.
pub record Store : Type 0 where
  pub word : ℕ
  pub name : List ℕ
  pub bytes : List ℕ

-- What a command answers: the text that it prints, and the file that it stores, if any.
pub record Answer : Type 0 where
  pub text : List ℕ
  pub store : Option Store

abbrev pub store_at : List ℕ → Named → Store
store_at bytes at = record { word = at.0; name = at.1; bytes = bytes }

-- the new name, or else that of the file that was read
abbrev pub target_of : Option Named → Option Named → Option Named
target_of None input = input
target_of (Some at) input = Some at

-- What is stored goes there.
abbrev pub target : Roles → Option Named
target r = target_of r.new r.input

abbrev pub stored_by : Roles → Option File → Option Store
stored_by r None = None
stored_by r (Some f) = option_map (store_at (spell_file f)) (target r)

abbrev pub answered : Roles → Outcome → Answer
answered r o = record { text = o.text; store = stored_by r o.stored }

-- an answer whose file isn't too large
abbrev pub sized_store : Answer → Option Store → Result Answer Status
sized_store a None = Ok a
sized_store a (Some store) = if nat_le (length store.bytes) file_limit then Ok a else Err (s.TooLarge store.word (length store.bytes))

abbrev pub sized : Answer → Result Answer Status
sized a = sized_store a a.store

-- An answer is made, its new name found unused, and its file of a size that is stored.
abbrev pub order_meaning : Loads → Order → Meaning Answer
order_meaning loads order = do
  o ← order_made loads order
  u ← exactly (unused (roles order).new loads.new)
  exactly (sized (answered (roles order) o))

-- ---- words

-- The command that words say, on a line of a script, or on line 0.
abbrev pub said : ℕ → List (List ℕ) → Meaning Order
said line words (Ok order) = Spell words order
said line words (Err refusal) = (word : ℕ) × (refusal ≡ s.Words line word) × FirstWrong words word

-- What is refused here is refused before anything is loaded.
abbrev pub ordered : ℕ → List (List ℕ) → Meaning Order
ordered line words = do
  u ← exactly (taken_words words)
  order ← said line words
  v ← exactly (taken_order order)
  exactly (Ok order)

-- What a command line means.
abbrev pub meaning : Loads → ℕ → List (List ℕ) → Meaning Answer
meaning loads line words = do
  order ← ordered line words
  order_meaning loads order
