-- The rows of a file, and of a ledger's changes that come one after the other.
use Rattle.std.specs.Prelude.{◌≡◌, ℕ, ◌<◌, List, [], ◌∷◌, ◌++◌, length, map, fold}
use Rattle.model.specs.Base.{Base}
use Rattle.model.specs.Change.{Change, AreInTimeOrder}
use Rattle.model.specs.Held.{held_behind}
use Rattle.model.specs.Ledger.{add}
use Rattle.op_grammar.specs.Changes.{head_of}
use Rattle.stability.specs.Rows.{rows_in, taken}

-- The rows of a base, with the heads of the kept changes taken in turn, are the rows of what is held behind it.
abbrev pub HeadsMakeRows : Type 0
HeadsMakeRows = (b : Base) (kept : List Change) → fold taken b.rows (map head_of kept) ≡ rows_in (length b.rows) (held_behind b kept)

-- One change more behind the kept ones makes its member's row anew, and no other.
abbrev pub NextMakesRow : Type 0
NextMakesRow = (n : ℕ) (b : Base) (kept : List Change) (c : Change) → rows_in n (held_behind b (kept ++ c ∷ [])) ≡ taken (rows_in n (held_behind b kept)) (head_of c)

-- So does one that is put in its place among them, where it is later than its member's last.
abbrev pub AddedMakesRow : Type 0
AddedMakesRow =
    (n : ℕ) (b : Base) (kept : List Change) (c : Change) → AreInTimeOrder kept → ((held_behind b kept).row c.member).last < c.time
    → rows_in n (held_behind b (add kept c)) ≡ taken (rows_in n (held_behind b kept)) (head_of c)
