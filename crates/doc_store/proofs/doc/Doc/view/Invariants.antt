use Rattle.std.proofs.Common.{◌≡◌, ◌++◌, map, length}
use Rattle.model.specs.View.{view}
use Rattle.doc_store.specs.Kept.{state_of}
use Rattle.doc_store.specs.Shown.{node_seen}
use Rattle.doc_store.specs.Views.{still_to_show}
use Rattle.doc_store.proofs.doc.Doc.view.Given as goal

abbrev pub invariant-loop-next : goal.invariant-loop-next
invariant-loop-next l = map node_seen l.nodes.items ++ still_to_show (state_of l.self) l.stack.items ≡ view (state_of l.self)

abbrev pub decreases-loop-next : goal.decreases-loop-next
decreases-loop-next l = length (still_to_show (state_of l.self) l.stack.items)
