-- Operations that are handed out one by one.
use Rattle.std.specs.Prelude.{◌≡◌, List, [], ◌∷◌, Option, None, Some}
use Rattle.op_ids.specs.declared.OpId.{OpId}
use Rattle.outside.specs.Faults.{raised}
use Rattle.outside.specs.Work.{Work}
use Rattle.model.specs.State.{Atom}
use Rattle.op_grammar.specs.Operations.{operation_of}
use Rattle.op_grammar.specs.declared.operation.OpRef.{OpRef}

-- an operation with its id, without where it lies in memory
abbrev pub atom_of : OpId × OpRef → Atom
atom_of p = record { id = p.0; operation = operation_of p.1 }

-- What is handed out is the first of those that were left, and none where none was.
abbrev pub HandsOut : List Atom → List Atom → Option (OpId × OpRef) → Type 0
HandsOut old new None = (old ≡ []) × (new ≡ [])
HandsOut old new (Some p) = old ≡ atom_of p ∷ new

-- Each that is handed out counts as decoded once.
abbrev pub work_after : Work → Option (OpId × OpRef) → Work
work_after work None = work
work_after work (Some p) = record work { decoded = raised work.decoded }
