-- What a run shows of files, and which ledgers files stand for after it.
use Rattle.std.specs.Prelude.{◌≡◌, ◌⊎◌, ℕ, List, Option}
use Rattle.outside.specs.Files.{Files, file_at}
use Rattle.model.specs.Change.{Change}
use Rattle.model.specs.State.{replay}
use Rattle.model.specs.View.{view}
use Rattle.model.specs.Text.{show_text}
use Rattle.model.specs.File.{File}
use Rattle.model.specs.Stands.{Ledgers, AllStand, Holds}
use Rattle.model.specs.Reading.{state_in}
use Rattle.model.specs.Command.{Command, Next}
use Rattle.outline_meaning.specs.Run.{Printed}
use Rattle.outline_meaning.specs.declared.status.Status.{Status}
use Rattle.outline_meaning.specs.declared.status.Status.TheVariants as s

-- The file under the name is one file value, and the view of its base with the kept changes done was printed.
pub record ShowsFile (files : Files) (name : List ℕ) (before after : Option (List ℕ)) : Type 0 where
  pub file : File
  pub held : Holds (file_at files) name file
  pub only : (other : File) → Holds (file_at files) name other → other ≡ file
  pub printed : Printed (show_text (view (state_in file))) before after

-- The view of replaying the ledger was printed.
abbrev pub ShowsLedger : List Change → Option (List ℕ) → Option (List ℕ) → Type 0
ShowsLedger h before after = Printed (show_text (view (replay h))) before after

-- The command stands, though its print may have failed.
abbrev pub IsDone : Status → Type 0
IsDone status = (status ≡ s.Done) ⊎ (status ≡ s.SinkFault)

-- The files after a command stand for the ledgers that it makes of those before.
pub record KeepsLedgers (files now : Files) (ledgers : Ledgers) (c : Command) : Type 0 where
  pub next : Ledgers
  pub is_next : Next (file_at files) ledgers c next
  pub stand : AllStand (file_at now) next
