use Rattle.doc_store.specs.References.{HasRun}
use Rattle.doc_store.proofs.made.add_run.Given as goal

abbrev pub invariant-loop-k : goal.invariant-loop-k
invariant-loop-k l = HasRun l.initial.rows l.fn.node l.fn.first l.k l.rows
