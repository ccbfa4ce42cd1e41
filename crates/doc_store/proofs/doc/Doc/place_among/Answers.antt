use Rattle.std.proofs.Common.{◌≡◌, ◌∙◌, ap, map}
use Rattle.model.specs.Edit.{origin_at, position_of}
use Rattle.model.specs.Walk.{place_after, rows_of}
use Rattle.op_grammar.specs.Operations.{anchor_of}
use Rattle.doc_store.specs.declared.doc.Doc.TheInside.{Inside}
use Rattle.doc_store.specs.Kept.{Kept, state_of}
use Rattle.fugue_tree.specs.Trees.{Table}
use Rattle.doc_store.proofs.PlanLaws.{origin_behind, origin_first}
use Rattle.doc_store.proofs.doc.Doc.place_among.Goals as goal
use Rattle.doc_store.proofs.doc.Doc.place_among.Goals.{then-at-eq0, else-at-eq0}

pub returns : goal.returns
returns c =
    let s = state_of c.args.self.now in
    let parent = c.args.parent in
    let ids = map (position_of s) c.args.among.now in
    let positions = ap (λ (d : Inside). d.rows.positions) c.self-inside.view_is ∙ ap (λ (d : Kept). d.contents.positions) c.self.view_is in
    let left : c.if-at-eq0.left ≡ origin_at ids c.args.at =
    elim c.if-at-eq0.branch [
      | then-at-eq0 w ↦ w.left-is ∙ origin_first ids c.args.at w.if-at-eq0.true
      | else-at-eq0 w ↦ w.left-is ∙ w.position_of-left.ensures ∙ origin_behind (position_of s) c.args.among.now c.args.at _ w.if-at-eq0.false c.requires.within
    ] in
    ap anchor_of c.place_after.ensures.place ∙ ap (λ (m : Table). place_after (rows_of (λ at. at) m parent) c.if-at-eq0.left) positions ∙ ap (place_after (rows_of (λ at. at) s.positions parent)) left
