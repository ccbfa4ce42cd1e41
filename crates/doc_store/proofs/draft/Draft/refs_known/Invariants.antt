use Rattle.std.proofs.Common.{length}
use Rattle.std.specs.Prelude.{IfSome}
use Rattle.op_grammar.specs.Operations.{operation_of}
use Rattle.doc_store.specs.Documents.{IsFormed}
use Rattle.doc_store.specs.Kept.{document_of, state_of}
use Rattle.doc_store.proofs.WorkLaws.{OnceAdded, Reading}
use Rattle.doc_store.proofs.draft.Draft.refs_known.Given as goal

abbrev pub invariant-loop-id : goal.invariant-loop-id
invariant-loop-id g l =
    IfSome l.last (λ p. IsFormed (record { id = p.0; operation = operation_of p.1 }))
    × Reading (state_of (document_of l.self)) (g.S.OpSource.left l.fn.ops) l.initial.tally (OnceAdded (state_of (document_of l.self)) l.made l.last) l.place l.tally (g.S.OpSource.left l.ops)

abbrev pub decreases-loop-id : goal.decreases-loop-id
decreases-loop-id g l = length (g.S.OpSource.left l.ops)
