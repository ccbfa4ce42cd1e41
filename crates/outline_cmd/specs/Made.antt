-- What is made of a file, as an outcome. Private contracts alone cite this.
use Rattle.std.specs.Prelude.{List, Result}
use Rattle.model.specs.Change.{Change}
use Rattle.model.specs.Command.{Unmade}
use Rattle.model.specs.File.{File}
use Rattle.outline_meaning.specs.Outcome.{Outcome, ◌>>=◌, told, with_made_lines}
use Rattle.outline_meaning.specs.declared.status.Status.{Status}

-- the file with the changes that its members made, and their lines, or why nothing was made
abbrev pub made_outcome : File → Result (List Change) Unmade → Result Outcome Status
made_outcome f meant = do
  cs ← told meant
  with_made_lines f cs
