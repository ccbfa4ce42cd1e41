use Rattle.std.proofs.Common.{◌∙◌, ap}
use Rattle.model.specs.State.{has_anchor}
use Rattle.fugue_text.specs.Texts.{Table}
use Rattle.doc_store.specs.declared.doc.Doc.TheInside.{Inside}
use Rattle.doc_store.specs.Kept.{Kept, state_of}
use Rattle.doc_store.proofs.PlanLaws.{shown_anchored}
use Rattle.doc_store.proofs.doc.Doc.place_character.Goals as goal

pub place_after-requires : goal.place_after-requires
place_after-requires c =
    let s = state_of c.args.self.now in
    let node = c.args.node in
    let texts = ap (λ (d : Inside). d.rows.texts) c.self-inside.view_is ∙ ap (λ (d : Kept). d.contents.texts) c.self.view_is in
    ap (λ (t : Table). has_anchor t node c.in_ok-left.left) texts ∙ ap (has_anchor s.texts node) c.in_ok-left.ensures ∙ shown_anchored s node c.args.at
