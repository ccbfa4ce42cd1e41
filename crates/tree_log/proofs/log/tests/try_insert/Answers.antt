use Rattle.std.proofs.Common.{◌≡◌, ◌∙◌, ap, sym, is_some}
use Rattle.std.specs.FinMap.{get}
use Rattle.model_laws.specs.Tree.{Places}
use Rattle.tree_log.specs.Moves.{has_place, places_now}
use Rattle.tree_move.proofs.PlaceLaws.{some-place_if}
use Rattle.tree_log.proofs.log.tests.try_insert.Goals as goal

pub insert-requires-clause-refer : goal.insert-requires-clause-refer
insert-requires-clause-refer c =
    let parent : has_place (places_now c.args.log.now) c.args.step.parent ≡ c.is_some-has_parent.result =
    ap (λ (m : Places). is_some (get m c.args.step.parent)) (sym c.parents.ensures.places) ∙ ap is_some (sym c.parent_of.ensures.place) ∙ some-place_if c.parent_of.result ∙ sym c.is_some-has_parent.ensures in
    let child : has_place (places_now c.args.log.now) c.args.step.child ≡ c.is_some-has_child.result =
    ap (λ (m : Places). is_some (get m c.args.step.child)) (sym c.parents-2.ensures.places) ∙ ap is_some (sym c.parent_of-2.ensures.place) ∙ some-place_if c.parent_of-2.result ∙ sym c.is_some-has_child.ensures in
    (c.if-not-refers_back.ensures (has_place (places_now c.args.log.now)) parent child, tt)
