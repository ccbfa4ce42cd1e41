use Rattle.std.proofs.Common.{◌≡◌, ◌&&◌, ◌∙◌, sym, ap, slice_get, [], ◌∷◌}
use Rattle.op_ids.specs.Order.{id_lt}
use Rattle.op_grammar.specs.Operations.{operation_of}
use Rattle.model.specs.Held.{wrong_ids}
use Rattle.doc_store.specs.References.{first_wrong_of}
use Rattle.model.specs.State.{run_of}
use Rattle.doc_store.proofs.ReferenceLaws.{characters_named, right_here}
use Rattle.doc_store.proofs.draft.Draft.wrong_id.Goals as goal
use Rattle.doc_store.proofs.draft.Draft.wrong_id.Goals.{then-has_node, else-has_node}

pub returns-in-NewNode : goal.returns-in-NewNode
returns-in-NewNode c u h =
    let parent = c.has_node.ensures u h in
    let anchor = c.has_anchor.ensures u h in
    c.first_wrong.ensures ∙ (λ i. first_wrong_of c.args.id ((c.in-NewNode.parent, parent i) ∷ (c.in-NewNode.anchor, anchor i) ∷ []))
    ∙ ap (λ op. slice_get (wrong_ids u c.args.id (operation_of op)) 0) (sym c.in-NewNode.is)

pub returns-in-MoveNode : goal.returns-in-MoveNode
returns-in-MoveNode c u h =
    let child = c.is_placed.ensures u h in
    let parent = c.has_node-in-MoveNode.ensures u h in
    let anchor = c.has_anchor-in-MoveNode.ensures u h in
    c.first_wrong-in-MoveNode.ensures ∙ (λ i. first_wrong_of c.args.id ((c.in-MoveNode.child, child i) ∷ (c.in-MoveNode.parent, parent i) ∷ (c.in-MoveNode.anchor, anchor i) ∷ []))
    ∙ ap (λ op. slice_get (wrong_ids u c.args.id (operation_of op)) 0) (sym c.in-MoveNode.is)

pub returns-else-not-is_before : goal.returns-else-not-is_before
returns-else-not-is_before c u h =
    let node = c.in-EraseText.node in
    let there = c.has_node-in-EraseText.result in
    let value : c.if-has_node.value ≡ (there && id_lt node c.args.id) =
    elim c.if-has_node.branch [
      | then-has_node w ↦ w.value-is ∙ w.is_before.ensures ∙ sym (ap (λ b. b && id_lt node c.args.id) w.if-has_node.true)
      | else-has_node w ↦ w.value-is ∙ w.if-has_node.false ∙ sym (ap (λ b. b && id_lt node c.args.id) w.if-has_node.false)
    ] in
    let names = characters_named u node (run_of c.in-EraseText.first c.in-EraseText.count) in
    c.wrong_character.ensures u h ∙ sym (right_here c.args.id node there names (sym value ∙ c.if-not-is_before.false))
    ∙ ap (λ b. first_wrong_of c.args.id ((node, b) ∷ names)) (c.has_node-in-EraseText.ensures u h)
    ∙ ap (λ op. slice_get (wrong_ids u c.args.id (operation_of op)) 0) (sym c.in-EraseText.is)
