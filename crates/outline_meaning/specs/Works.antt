-- How much work a command is: operations that are decoded, and moves that are done.
use Rattle.std.specs.Prelude.{◌≡◌, ◌⊎◌, ℕ, ◌+◌, ◌*◌, ◌≤◌, sum_by}
use Rattle.outside.specs.Work.{Work}
use Rattle.model.specs.Command.{Command, edit, show, deliver}
use Rattle.model.specs.Cost.{move_count}
use Rattle.model.specs.File.{File}
use Rattle.model.specs.Stands.{IsStored}
use Rattle.member_replica.specs.Work.{operations_in, readied_in}
use Rattle.outline_words.specs.Table.{Order, command, play, sample}
use Rattle.outline_meaning.specs.Meaning.{Loaded, missing, failed, whole, Loads}

-- at most so many operations are decoded, and so many moves done
pub record AtMost (before now : Work) (decodes does : ℕ) : Type 0 where
  pub operations_rose : before.decoded ≤ now.decoded
  pub operations : now.decoded ≤ before.decoded + decodes
  pub moves_rose : before.moves ≤ now.moves
  pub moves : now.moves ≤ before.moves + does

-- a file that a load brings
abbrev pub BringsFile : Loaded → File → Type 0
BringsFile missing f = ⊥
BringsFile failed f = ⊥
BringsFile (whole bytes) f = IsStored bytes f

-- Nothing is counted, or a file is read: each operation of its kept changes is decoded twice at most, and each of their moves is done once.
abbrev pub ReadsOne : Loads → Work → Work → Type 0
ReadsOne loads before now = (now ≡ before) ⊎ ((f : File) × BringsFile loads.input f × AtMost before now (2 * operations_in f.kept) (sum_by move_count f.kept))

-- The same of a delivery, where each operation of the changes that are ready in it is decoded twice at most too, and no move is done.
abbrev pub ReadsTwo : Loads → Work → Work → Type 0
ReadsTwo loads before now =
    (now ≡ before) ⊎ ((f offered : File) × BringsFile loads.input f × BringsFile loads.second offered × AtMost before now (2 * operations_in f.kept + 2 * operations_in (readied_in f offered.kept)) 0)

-- the work of a command, over what loading its files brings
abbrev pub Works : Command → Loads → Work → Work → Type 0
Works (edit name e) loads = ReadsOne loads
Works (show name) loads = ReadsOne loads
Works (deliver name offered) loads = ReadsTwo loads
Works _ loads = λ before now. now ≡ before

abbrev pub OrderWorks : Order → Loads → Work → Work → Type 0
OrderWorks (command c) loads before now = Works c loads before now
OrderWorks (play name) loads before now = now ≡ before
OrderWorks (sample seed size name) loads before now = now ≡ before
