use Rattle.std.proofs.Common.{◌∙◌, ◌++◌, ◌∷◌, [], ap, sym, filter_map, take}
use Rattle.std.specs.List.{cons_option}
use Rattle.std.proofs.lemmas.List.{append-nil}
use Rattle.doc_store.specs.Views.{child_found}
use Rattle.doc_store.proofs.ViewLaws.{taken_one}
use Rattle.doc_store.proofs.children.ChildIndex.at_positions.Goals as goal
use Rattle.doc_store.proofs.children.ChildIndex.at_positions.Goals.{in-Some+in_ok-push, in_default}

pub loop-position-preserved : goal.loop-position-preserved
loop-position-preserved c =
    let f = child_found c.args.self.now c.args.parent in
    let some = filter_map f (take c.loop-position.position-index c.args.positions.now) in
    elim c.match-get.branch [
      | in-Some+in_ok-push w ↦
          ap (λ v. v.items) w.found-is ∙ w.in_ok-push.ensures.items ∙ ap (λ ids. ids ++ w.in-Some.child.now ∷ []) c.loop-position.invariant
          ∙ ap (λ o. some ++ cons_option o []) w.in-Some.ensures.value ∙ sym (taken_one f c.args.positions.now c.loop-position.position-index _ c.loop-position-test.true)
      | in_default w ↦
          ap (λ v. v.items) w.found-is ∙ c.loop-position.invariant ∙ sym (append-nil some)
          ∙ ap (λ o. some ++ cons_option o []) w.in_default.ensures.value ∙ sym (taken_one f c.args.positions.now c.loop-position.position-index _ c.loop-position-test.true)
    ]
