-- Scripts: what their lines say, and what running them does.
use Rattle.std.specs.Prelude.{◌≡◌, ◌≢◌, ◌⊎◌, ◌<◌, ◌≤◌, ◌++◌, ℕ, suc, ◌==◌, if◌then◌else◌, List, [], ◌∷◌, codes, length, take, Some, Ok, slice_get, IsUtf8}
use Rattle.outside.specs.Faults.{Rose}
use Rattle.outline_words.specs.Table.{Order, play, Spell, FirstWrong}
use Rattle.outline_meaning.specs.declared.status.Status.{Status}
use Rattle.outline_meaning.specs.declared.status.Status.TheVariants as s
use Rattle.outline_meaning.specs.Meaning.{Loads, read, reads}
use Rattle.outline_meaning.specs.Ledgers.{IsDone}
use Rattle.outline_meaning.specs.Run.{Outside, AreLoads, Printed, Later, Runs}

-- ---- lines

-- the byte, at the front of the first part
abbrev pub with_first : ℕ → List (List ℕ) → List (List ℕ)
with_first b [] = (b ∷ []) ∷ []
with_first b (part ∷ parts) = (b ∷ part) ∷ parts

-- Each line ends with a line feed, which the last may lack.
abbrev pub lines : List ℕ → List (List ℕ)
lines [] = []
lines (b ∷ bytes) = if b == 10 then [] ∷ lines bytes else with_first b (lines bytes)

-- An empty line is passed over, and one that begins with `#`.
abbrev pub IsPassed : List ℕ → Type 0
IsPassed [] = Unit {0}
IsPassed (b ∷ bytes) = b ≡ 35

-- its words, parted by single spaces
abbrev pub parts : List ℕ → List (List ℕ)
parts [] = [] ∷ []
parts (b ∷ bytes) = if b == 32 then [] ∷ parts bytes else with_first b (parts bytes)

-- What a word of a line says: `\s` is a space, `\n` a line feed and `\\` a backslash. No other backslash says anything.
pub data Says : List ℕ → List ℕ → Type 0 where
  nothing : Says [] []
  plain : (b : ℕ) (word text : List ℕ) → b ≢ 92 → Says word text → Says (b ∷ word) (b ∷ text)
  space : (word text : List ℕ) → Says word text → Says (92 ∷ 115 ∷ word) (32 ∷ text)
  feed : (word text : List ℕ) → Says word text → Says (92 ∷ 110 ∷ word) (10 ∷ text)
  backslash : (word text : List ℕ) → Says word text → Says (92 ∷ 92 ∷ word) (92 ∷ text)

pub data AllSay : List (List ℕ) → List (List ℕ) → Type 0 where
  none : AllSay [] []
  one_more : (word text : List ℕ) (words texts : List (List ℕ)) → Says word text → AllSay words texts → AllSay (word ∷ words) (text ∷ texts)

-- The words before this place say texts, and the word there says none.
pub record StopsAt (words : List (List ℕ)) (place : ℕ) (texts : List (List ℕ)) : Type 0 where
  pub front : AllSay (take place words) texts
  pub there : place < length words
  pub mute : (text : List ℕ) (word : List ℕ) → slice_get words place ≡ Some word → Says word text → ⊥

-- The first wrong word of a line: one of words that all say texts; or, where a word says none, that one, or one before it which is wrong
-- whatever follows. An empty word stands in for the one that says none.
abbrev pub WrongOnLine : List (List ℕ) → ℕ → Type 0
WrongOnLine words i =
    ((texts : List (List ℕ)) × AllSay words texts × FirstWrong texts i)
    ⊎ ((place : ℕ) × (texts : List (List ℕ)) × StopsAt words place texts × ((FirstWrong (texts ++ [] ∷ []) i × (i < place))
    ⊎ ((i ≡ place) × ((j : ℕ) → FirstWrong (texts ++ [] ∷ []) j → place ≤ j))))

-- ---- running

abbrev pub echo : List ℕ → List ℕ
echo line = codes "> " ++ (line ++ 10 ∷ [])

-- the line's command is `play`
abbrev pub PlaysAnother : List ℕ → Type 0
PlaysAnother line = (word : List ℕ) × (slice_get (parts line) 0 ≡ Some word) × Says word (codes "play")

-- The line was printed whole, and nothing else happened.
pub record Echoes (line : List ℕ) (before after : Outside) : Type 0 where
  pub keeper : after.keeper ≡ before.keeper
  pub printed : Printed (echo line) before.sink.written after.sink.written
  pub later : before.sink.faults ≤ after.sink.faults

-- A line runs as the command line of its words. No script is played from a script.
pub data LineRuns (n : ℕ) (line : List ℕ) : Status → Outside → Outside → Type 0 where
  nested : (now : Outside) → PlaysAnother line → LineRuns n line (s.Words n 0) now now
  wrong : (word : ℕ) (now : Outside) → (PlaysAnother line → ⊥) → WrongOnLine (parts line) word → LineRuns n line (s.Words n word) now now
  no_memory : (now : Outside) → LineRuns n line s.NoMemory now now
  runs : (texts : List (List ℕ)) (order : Order) (status : Status) (before after : Outside) → (PlaysAnother line → ⊥) → AllSay (parts line) texts → Spell texts order
      → Runs status n texts before after → LineRuns n line status before after

-- The lines are run in turn, from this number on, each after it was printed. The first that isn't Done ends the script with its status.
pub data Plays : ℕ → List (List ℕ) → Status → Outside → Outside → Type 0 where
  ends : (n : ℕ) (now : Outside) → Plays n [] s.Done now now
  passes : (n : ℕ) (line : List ℕ) (more : List (List ℕ)) (status : Status) (before after : Outside) → IsPassed line → Plays (suc n) more status before after
      → Plays n (line ∷ more) status before after
  no_text : (n : ℕ) (line : List ℕ) (more : List (List ℕ)) (now : Outside) → (IsPassed line → ⊥) → (IsUtf8 line → ⊥) → Plays n (line ∷ more) (s.Words n 0) now now
  unechoed : (n : ℕ) (line : List ℕ) (more : List (List ℕ)) (before after : Outside) → (IsPassed line → ⊥) → IsUtf8 line → after.keeper ≡ before.keeper
      → (len : ℕ) → Printed (take len (echo line)) before.sink.written after.sink.written → Rose before.sink.faults after.sink.faults → Plays n (line ∷ more) s.SinkFault before after
  stops : (n : ℕ) (line : List ℕ) (more : List (List ℕ)) (status : Status) (before echoed after : Outside) → (IsPassed line → ⊥) → IsUtf8 line
      → Echoes line before echoed → LineRuns n line status echoed after → status ≢ s.Done → Plays n (line ∷ more) status before after
  goes_on : (n : ℕ) (line : List ℕ) (more : List (List ℕ)) (status : Status) (before echoed between after : Outside) → (IsPassed line → ⊥) → IsUtf8 line
      → Echoes line before echoed → LineRuns n line s.Done echoed between → Plays (suc n) more status between after → Plays n (line ∷ more) status before after

-- A script was read from the file with this name, by loads alone, and then its lines were played.
pub record PlaysScript (status : Status) (name : List ℕ) (before after : Outside) : Type 0 where
  pub loads : Loads
  pub between : Outside
  pub loaded : AreLoads before.keeper between.keeper (reads name) loads
  pub files : between.keeper.files ≡ before.keeper.files
  pub later : Later before between
  pub sink : between.sink ≡ before.sink
  pub script : List ℕ
  pub is_script : read 1 loads.input ≡ Ok script
  pub plays : Plays 1 (lines script) status between after

-- What running any words is: their command is run once; or they are those of a script, which is read and played. A script that can't be
-- read is refused as any file is.
abbrev pub Ran : Status → List (List ℕ) → Outside → Outside → Type 0
Ran status words before after =
    (Runs status 0 words before after × (IsDone status → (name : List ℕ) → Spell words (play name) → ⊥))
    ⊎ ((name : List ℕ) × Spell words (play name) × PlaysScript status name before after)
