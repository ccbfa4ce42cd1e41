use Rattle.std.proofs.Common.{◌≡◌, ◌∙◌, ap, sym, true, false, is_some, refl}
use Rattle.std.specs.Prelude.{◌||◌}
use Rattle.std.specs.FinMap.{get}
use Rattle.std.specs.List.{list_any}
use Rattle.op_ids.specs.Order.{id_eq}
use Rattle.model_laws.specs.Tree.{Places}
use Rattle.tree_log.specs.declared.moves.TreeMove.{TreeMove}
use Rattle.tree_log.specs.Moves.{has_place, places_now}
use Rattle.tree_log.specs.Open.{Open, late_in, makes, whole}
use Rattle.tree_log.proofs.OpenLaws.{made_new, whole_nodes}
use Rattle.tree_log.proofs.LogLaws.{nodes_after}
use Rattle.tree_move.proofs.PlaceLaws.{some-place_if}
use Rattle.tree_log.proofs.open.OpenLog.has_place.Goals as goal
use Rattle.tree_log.proofs.open.OpenLog.has_place.Goals.{After-is_some}

-- whether it has a place in the log
placed_now : (c : After-is_some) → has_place (places_now c.self.inside.log) c.args.node ≡ c.is_some.result
placed_now c =
    ap (λ (m : Places). is_some (get m c.args.node)) (sym c.parents.ensures.places) ∙ ap is_some (sym c.parent_of.ensures.place) ∙ some-place_if c.parent_of.result ∙ sym c.is_some.ensures

placed_in_all : (c : After-is_some) → has_place (places_now (whole c.args.self.now)) c.args.node ≡ nodes_after (has_place (places_now c.self.inside.log)) (late_in c.self.inside.late.entries) c.args.node
placed_in_all c =
    ap (λ (o : Open). has_place (places_now (whole o)) c.args.node) (sym c.self.view_is)
    ∙ whole_nodes c.self.inside.log (late_in c.self.inside.late.entries) c.parents.ensures.base c.parents.ensures.fits c.parents.ensures.rising c.self.invariant.rises c.self.invariant.fresh c.self.invariant.refer c.args.node

pub returns-then-is_some : goal.returns-then-is_some
returns-then-is_some c =
    let u = (goal.at.returns-then-is_some c).After-is_some in
    let there : has_place (places_now c.self.inside.log) c.args.node ≡ true = placed_now u ∙ c.if-is_some.true in
    c.if-is_some.true ∙ sym (placed_in_all u ∙ rw there refl)

pub returns-else-is_some : goal.returns-else-is_some
returns-else-is_some c =
    let u = (goal.at.returns-else-is_some c).After-is_some in
    let late = late_in c.self.inside.late.entries in
    let absent : has_place (places_now c.self.inside.log) c.args.node ≡ false = placed_now u ∙ c.if-is_some.false in
    let made = made_new (has_place (places_now c.self.inside.log)) late c.args.node c.self.invariant.refer absent in
    c.is_made.ensures ∙ ap (λ (o : Open). list_any (makes c.args.node) o.late) (sym c.self.view_is) ∙ sym (placed_in_all u ∙ ap (λ b. b || list_any (λ (t : TreeMove). id_eq c.args.node t.child) late) absent ∙ made)
