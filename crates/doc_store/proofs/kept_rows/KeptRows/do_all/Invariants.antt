use Rattle.std.proofs.Common.{length}
use Rattle.doc_store.proofs.WorkLaws.{Doing}
use Rattle.doc_store.proofs.kept_rows.KeptRows.do_all.Given as goal

abbrev pub invariant-loop-id : goal.invariant-loop-id
invariant-loop-id g l = Doing l.initial.self (g.S.OpSource.left l.fn.ops) l.initial.tally l.self l.moves.items l.tally (g.S.OpSource.left l.ops)

abbrev pub decreases-loop-id : goal.decreases-loop-id
decreases-loop-id g l = length (g.S.OpSource.left l.ops)
