-- A change that is judged and taken in at once.
use Rattle.std.specs.Prelude.{◌≡◌, ◌<◌, ◌++◌, ◌∷◌, [], ℕ, List, None, Some, Result, Ok, Err, slice_index_or, slice_set}
use Rattle.std.specs.List.{AllByRecursion}
use Rattle.model.specs.Base.{Base, MemberRow}
use Rattle.model.specs.Change.{Change, IsChange}
use Rattle.model.specs.Held.{held_behind, unfit}
use Rattle.model.specs.Ledger.{add}
use Rattle.model.specs.State.{after, atoms, change_atoms}
use Rattle.op_grammar.specs.declared.head.Head.{Head}
use Rattle.doc_store.specs.Documents.{HasNoRow}
use Rattle.doc_store.specs.Kept.{Drafted}
use Rattle.doc_store.specs.declared.references.TakeFault.{TakeFault}
use Rattle.doc_store.specs.declared.references.TakeFault.TheVariants as draft
use Rattle.replica.specs.FaultText.{misfit_of}
use Rattle.replica.specs.declared.fault.Misfit.TheVariants.{A4}
use Rattle.stability.specs.Rows.{taken}
use Rattle.holding.specs.Holds.{Holds, MayJoin}
use Rattle.holding.specs.declared.holding.Holding.{Holding}
use Rattle.holding.specs.declared.holding.JoinFault.{JoinFault}
use Rattle.holding.specs.declared.holding.JoinFault.TheVariants.{NoMemory, Unfit}

-- What is held of the document to which the change with this head has come.
abbrev pub with_change : Drafted → List MemberRow → List (List ℕ) → Head → Holding
with_change document rows times head =
    record { document = document; fronts = taken rows head; times = slice_set times head.member (slice_index_or times head.member [] ++ head.time ∷ []) }

-- A change that comes next of its member: where it is later than that member's last none of its ids is a row's, and it may join
-- unless it is unfit.
pub record IsNext (n : ℕ) (b : Base) (kept : List Change) (c : Change) : Type 0 where
  pub is_change : IsChange n c
  pub fresh : ((held_behind b kept).row c.member).last < c.time → AllByRecursion (λ a. HasNoRow (after b.state (atoms kept)) a.id) (change_atoms c)
  pub joins : unfit n (held_behind b kept) c ≡ None → MayJoin n b kept c

-- What is held with it in its place, or the first reason why it may not join.
abbrev pub Takes : ℕ → Base → List Change → Change → Result Holding JoinFault → Type 0
Takes n b kept c (Ok now) = (unfit n (held_behind b kept) c ≡ None) × Holds now n b (add kept c)
Takes n b kept c (Err (Unfit misfit)) = unfit n (held_behind b kept) c ≡ Some (misfit_of misfit)
Takes n b kept c (Err NoMemory) = Unit {0}

-- what a fault of the document's tells of the change
abbrev pub fault_by : TakeFault → JoinFault
fault_by (draft.Wrong wrong) = Unfit (A4 wrong.op wrong.id)
fault_by draft.NoMemory = NoMemory
