use Rattle.std.proofs.Common.{ap, sym}
use Rattle.doc_store.specs.Kept.{Kept, state_of}
use Rattle.doc_store.proofs.doc.Doc.children.Goals as goal

pub returns : goal.returns
returns c = c.children.ensures (state_of c.args.self.now) (ap (λ (d : Kept). d.contents) (sym c.self.view_is)) c.in_ok-index.ensures.finds
