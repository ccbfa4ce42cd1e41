use Rattle.std.proofs.Common.{◌∙◌, ap, sym, is_some}
use Rattle.op_ids.specs.Order.{id_lt}
use Rattle.model.specs.Operation.{Anchor}
use Rattle.walk_laws.proofs.InsertionLaws.{place_after_is_after}
use Rattle.fugue_tree.proofs.PlaceLaws.{place_at_end, place_before}
use Rattle.fugue_tree.proofs.TreesLaws.{is_row-own, own_rows}
use Rattle.fugue_tree.proofs.trees.Trees.place_after.Goals as goal

pub returns-in-Some-clause-place : goal.returns-in-Some-clause-place
returns-in-Some-clause-place c =
    let rows = own_rows c.args.self.now c.args.owner in
    ap (λ (a : Anchor). (a.on, a.side)) (sym (place_before rows (c.in-Some.ensures.trees c.args.owner) c.args.left c.in-Some.first c.leftmost.result c.requires c.in-Some.ensures.first c.leftmost.ensures))

pub returns-in-Some-clause-after : goal.returns-in-Some-clause-after
returns-in-Some-clause-after c =
    let rows = own_rows c.args.self.now c.args.owner in
    let tree = c.in-Some.ensures.trees c.args.owner in
    let place = place_before rows tree c.args.left c.in-Some.first c.leftmost.result c.requires c.in-Some.ensures.first c.leftmost.ensures in
    λ row fresh above. place_after_is_after rows c.args.left row tree c.requires (is_row-own c.args.self.now c.args.owner row ∙ ap is_some fresh) (ap (λ (a : Anchor). id_lt a.on row) place ∙ above)

pub returns-in-None-clause-place : goal.returns-in-None-clause-place
returns-in-None-clause-place c =
    ap (λ (a : Anchor). (a.on, a.side)) (sym (place_at_end (own_rows c.args.self.now c.args.owner) (c.in-None.ensures.trees c.args.owner) c.args.left c.in-None.ensures.first))

pub returns-in-None-clause-after : goal.returns-in-None-clause-after
returns-in-None-clause-after c =
    let rows = own_rows c.args.self.now c.args.owner in
    let tree = c.in-None.ensures.trees c.args.owner in
    let place = place_at_end rows tree c.args.left c.in-None.ensures.first in
    λ row fresh above. place_after_is_after rows c.args.left row tree c.requires (is_row-own c.args.self.now c.args.owner row ∙ ap is_some fresh) (ap (λ (a : Anchor). id_lt a.on row) place ∙ above)
