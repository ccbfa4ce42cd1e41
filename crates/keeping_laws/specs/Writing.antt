-- What is written as the spelling of what a command stores is a stored file.
use Rattle.std.specs.Prelude.{◌≡◌, ◌≢◌, ℕ, ◌<◌, ◌≤◌, List, length, Some}
use Rattle.model.specs.Command.{Command, Stored, Stores, found, edit, deliver, begin_from}
use Rattle.model.specs.File.{File, member_file, file_limit, spell_file}
use Rattle.model.specs.Stands.{Files, Ledgers, Holds, AllStand}
use Rattle.ledger_laws.specs.Commands.{AreStored}
use Rattle.keeping_laws.specs.Forms.{IsEdit, IsDocument}

-- The command's words are in form, a delivery is to a member file, and a member that is begun is one of the source's document.
abbrev pub IsMeant : Files → Command → Type 0
IsMeant files (found document n name) = IsDocument document n
IsMeant files (edit name e) = IsEdit e
IsMeant files (deliver name offered) = (f : File) → Holds files name f → f.kind ≡ member_file
IsMeant files (begin_from source m name) = (f : File) → Holds files source f → m < f.members
IsMeant files _ = Unit {0}

-- The files after a command have the spelling of what it stores under its name, not too long, and are as before under any other.
pub record AreWritten (files next : Files) (s : Stored) : Type 0 where
  pub written : next s.name ≡ Some (spell_file s.file)
  pub most : length (spell_file s.file) ≤ file_limit
  pub others : (name : List ℕ) → name ≢ s.name → next name ≡ files name

abbrev pub WrittenAreStored : Type 0
WrittenAreStored =
    (files next : Files) (ledgers : Ledgers) (c : Command) (s : Stored) → AllStand files ledgers → Stores files ledgers c s → IsMeant files c → AreWritten files next s
    → AreStored files next s
