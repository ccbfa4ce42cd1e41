use Rattle.std.proofs.Common.{◌≡◌, length}
use Rattle.doc_store.specs.Kept.{document_of}
use Rattle.doc_store.proofs.TakeLaws.{Taking}
use Rattle.doc_store.proofs.draft.Draft.take.Given as goal

abbrev pub invariant-loop-id : goal.invariant-loop-id
invariant-loop-id g l =
    Taking (document_of l.fn.self) (g.S.OpSource.left l.fn.ops) l.initial.tally (document_of l.draft) l.place l.tally (g.S.OpSource.left l.ops)
    × (l.draft.moves.log ≡ l.fn.self.moves.log)

abbrev pub decreases-loop-id : goal.decreases-loop-id
decreases-loop-id g l = length (g.S.OpSource.left l.ops)
