-- Files that are loaded.
use Rattle.std.specs.Prelude.{◌≡◌, ℕ, ◌<◌, List, [], ◌++◌, Option, None, Some, Result, Ok, Err}
use Rattle.outside.specs.declared.keeper.KeeperFault.{KeeperFault}
use Rattle.outline_input.specs.declared.input.Named.{Named}
use Rattle.outline_input.specs.declared.input.Piece.{Piece}
use Rattle.outline_input.specs.declared.input.Piece.TheVariants as p
use Rattle.outline_meaning.specs.declared.status.Status.{Status}
use Rattle.outline_meaning.specs.declared.status.Status.TheVariants as s

-- a word and the name that it gives
abbrev pub named_of : Named → ℕ × List ℕ
named_of named = (named.word, named.name.now)

-- these bytes stand at the front of the file, if there is one
abbrev pub IsFrontOf : Option (List ℕ) → List ℕ → Type 0
IsFrontOf None bytes = bytes ≡ []
IsFrontOf (Some file) bytes = (rest : List ℕ) × (file ≡ bytes ++ rest)

-- what one more load brought behind the bytes that were there
abbrev pub BringsMore : Option (List ℕ) → List ℕ → List ℕ → Result Piece KeeperFault → Type 0
BringsMore held old new (Ok p.Missing) = held ≡ None
BringsMore held old new (Ok p.End) = held ≡ Some new
BringsMore held old new (Ok p.More) = IsFrontOf held new
BringsMore held old new (Err fault) = Unit {0}

-- a load that brought something brought some bytes
abbrev pub Grows : ℕ → ℕ → Result Piece KeeperFault → Type 0
Grows old new (Ok p.Missing) = Unit {0}
Grows old new (Ok p.End) = new ≡ old
Grows old new (Ok p.More) = old < new
Grows old new (Err fault) = Unit {0}

-- The name of the last failed load is as it was, unless a load failed now.
abbrev pub KeepsName : {A T : Type 0} → Result A Status → T → T → Type 0
KeepsName (Err (s.ReadFault word)) old new = Unit {0}
KeepsName _ old new = new ≡ old
