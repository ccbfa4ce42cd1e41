use Rattle.std.proofs.Common.{◌∙◌, sym, subst}
use Rattle.doc_store.specs.Kept.{state_of}
use Rattle.doc_store.proofs.PlanLaws.{ArePlaced, children_placed}
use Rattle.doc_store.proofs.doc.Doc.place_new.Goals as goal

pub place_among-requires-clause-there : goal.place_among-requires-clause-there
place_among-requires-clause-there c =
    let s = state_of c.args.self.now in
    subst (ArePlaced s c.args.parent) (sym (c.deref.ensures.value ∙ c.in_ok-children.ensures)) (children_placed s c.args.parent)
