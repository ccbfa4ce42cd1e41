-- The rows of members: as contracts see them, as the code keeps them, and what a change makes of its member's.
use Rattle.std.specs.Prelude.{◌≡◌, ℕ, ◌<◌, ◌≤◌, All, List, [], length, map, slice_set}
use Rattle.model.specs.Base.{MemberRow, members, known_by}
use Rattle.model.specs.Held.{Held}
use Rattle.op_grammar.specs.Changes.{change_of}
use Rattle.op_grammar.specs.declared.head.Head.{Head}
use Rattle.stability.specs.declared.fronts.MemberRow as code

-- a row of the code, as the model has it
abbrev pub row_of : code.MemberRow → MemberRow
row_of r = record { count = r.count; last = r.last; known = r.known }

-- So many rows make up those of a document, and each knows of so many members.
pub record AreRows (rows : List code.MemberRow) : Type 0 where
  pub some : 0 < length rows
  pub few : length rows ≤ 32
  pub known : All (λ r. length r.known ≡ length rows) rows

-- the row of a member whose last change has this head
abbrev pub row_by : Head → MemberRow
row_by h = record { count = h.number; last = h.time; known = known_by (change_of h []) }

-- the rows with that of the change's member made anew
abbrev pub taken : List MemberRow → Head → List MemberRow
taken rows h = slice_set rows h.member (row_by h)

-- the rows of all n members, of what is held
abbrev pub rows_in : ℕ → Held → List MemberRow
rows_in n past = map past.row (members n)
