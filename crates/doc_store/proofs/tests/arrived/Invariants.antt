use Rattle.std.specs.Prelude.{◌≡◌, false, List, take}
use Rattle.std.specs.List.{list_any}
use Rattle.op_ids.specs.declared.OpId.{OpId}
use Rattle.op_ids.specs.Order.{id_eq}
use Rattle.model.specs.State.{Atom, empty_state}
use Rattle.model_laws.specs.Arrival.{IsFresh}
use Rattle.tree_log.specs.declared.moves.TreeMove.{TreeMove}
use Rattle.doc_store.specs.Documents.{IsDocument}
use Rattle.doc_store.specs.Kept.{Drafted, document_of}
use Rattle.doc_store.proofs.tests.arrived.Given as goal

-- It is the draft of operations that have no ids but those of these moves.
pub record Stands (d : Drafted) (before : List TreeMove) : Type 0 where
  pub list : List Atom
  pub is : IsDocument (document_of d) empty_state list
  pub fresh : (q : OpId) → list_any (λ t. id_eq t.id q) before ≡ false → IsFresh list q

abbrev pub invariant-loop-place : goal.invariant-loop-place
invariant-loop-place l = Stands l.draft (take l.place l.moves)
