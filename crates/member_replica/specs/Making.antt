-- What members make of a file.
use Rattle.std.specs.Prelude.{◌≡◌, List, map, Result, Ok, Err}
use Rattle.model.specs.Change.{Change}
use Rattle.model.specs.Command.{Unmade, nobody, wrong, clock_full}
use Rattle.model.specs.File.{File, spell_file}
use Rattle.model.specs.Reading.{with_changes}
use Rattle.doc_store.specs.Edits.{fault_of}
use Rattle.doc_store.specs.declared.edit.PlanFault.{PlanFault}
use Rattle.doc_store.specs.declared.edit.PlanFault.TheVariants as reasons
use Rattle.member_replica.specs.declared.made.MadeNote.{MadeNote}
use Rattle.member_replica.specs.declared.made.Made.{Made as MadeStruct}
use Rattle.member_replica.specs.declared.made.MakeFault.{MakeFault}
use Rattle.member_replica.specs.declared.made.MakeFault.TheVariants as faults

abbrev pub note_of : Change → MadeNote
note_of c = record { member = c.member; number = c.number; time = c.time }

abbrev pub fault_by : PlanFault → MakeFault
fault_by (reasons.Edit fault word) = faults.Edit fault word
fault_by reasons.NoMemory = faults.NoMemory

-- the file with these changes, and a note of each
pub record IsMade (f : File) (cs : List Change) (made : MadeStruct) : Type 0 where
  pub bytes : made.bytes ≡ spell_file (with_changes f cs)
  pub notes : made.notes.items ≡ map note_of cs

-- The file with the changes that are made, or why none is. Want of memory is free.
abbrev pub Makes : File → Result (List Change) Unmade → Result MadeStruct MakeFault → Type 0
Makes f meant (Ok made) = (cs : List Change) × (meant ≡ Ok cs) × IsMade f cs made
Makes f meant (Err faults.Nobody) = meant ≡ Err nobody
Makes f meant (Err (faults.Edit fault word)) = meant ≡ Err (wrong (record { fault = fault_of fault; word = word }))
Makes f meant (Err (faults.ClockFull time member number)) = meant ≡ Err (clock_full time member number)
Makes f meant (Err faults.NoMemory) = Unit {0}
