use Rattle.std.proofs.Common.{◌∙◌, ap, sym, subst}
use Rattle.model.specs.Edit.{others}
use Rattle.doc_store.specs.Kept.{state_of}
use Rattle.doc_store.proofs.PlanLaws.{ArePlaced, others_placed}
use Rattle.doc_store.proofs.doc.Doc.place_moved.Goals as goal

pub place_among-requires-clause-there : goal.place_among-requires-clause-there
place_among-requires-clause-there c =
    let s = state_of c.args.self.now in
    subst (ArePlaced s c.args.parent) (sym (c.deref.ensures.value ∙ c.others_of-others.ensures ∙ ap (others c.args.child) c.in_ok-children.ensures)) (others_placed s c.args.child c.args.parent)
