-- What is held, in memory, of a base and the changes kept behind it.
use Rattle.std.specs.Prelude.{◌≡◌, ℕ, ◌+◌, ◌<◌, ◌≤◌, List, [], length, slice_index_or}
use Rattle.std.specs.List.{AllByRecursion}
use Rattle.model.specs.Base.{Base, time_of}
use Rattle.model.specs.Change.{Change, Name, IsChange, AreInTimeOrder}
use Rattle.model.specs.Held.{held_behind, row_behind, wrong_references}
use Rattle.model.specs.State.{after, atoms, by_ids}
use Rattle.arrival_laws.specs.Document.{ComesInTurn}
use Rattle.doc_store.specs.Documents.{IsDocument}
use Rattle.doc_store.specs.Kept.{document_of}
use Rattle.stability.specs.Rows.{rows_in}
use Rattle.holding.specs.Times.{time_at}
use Rattle.holding.specs.declared.holding.Holding.{Holding}

-- The members' rows, the times and the document are those of the base with the changes behind it, whose moves are still to be done. These
-- changes are in order, and none has a greater number than its member's row.
pub record Holds (h : Holding) (n : ℕ) (b : Base) (kept : List Change) : Type 0 where
  pub few : n ≤ 32
  pub rows : h.fronts ≡ rows_in n (held_behind b kept)
  pub timed : length h.times ≡ n
  pub times : (name : Name) → name.member < n → time_at (slice_index_or h.times name.member []) (row_behind b kept name.member).count name.number ≡ time_of kept name
  pub document : IsDocument (document_of h.document) b.state (atoms kept)
  pub undone : h.document.moves.log.moves ≡ []
  pub in_order : AreInTimeOrder kept
  pub counted : AllByRecursion (λ c. c.number ≤ ((held_behind b kept).row c.member).count) kept

-- A change that may join: it is the next of its member and later than its last, it refers to nothing wrongly, and its operations
-- may come to the document of those that are kept.
pub record MayJoin (n : ℕ) (b : Base) (kept : List Change) (c : Change) : Type 0 where
  pub is_change : IsChange n c
  pub next : c.number ≡ ((held_behind b kept).row c.member).count + 1
  pub later : ((held_behind b kept).row c.member).last < c.time
  pub refers : wrong_references (after b.state (atoms kept)) 0 (by_ids c.time c.member 0 c.operations) ≡ []
  pub comes : ComesInTurn b.state kept c
