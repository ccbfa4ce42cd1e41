use Rattle.std.proofs.Common.{◌∙◌, ap, sym}
use Rattle.op_ids.specs.Order.{id_lt}
use Rattle.model.specs.Operation.{Anchor}
use Rattle.fugue_text.specs.Runs.{places}
use Rattle.walk_laws.proofs.InsertionLaws.{place_after_is_after}
use Rattle.fugue_tree.proofs.PlaceLaws.{place_at_end, place_before}
use Rattle.fugue_text.proofs.node_text.NodeText.place_after.Goals as goal

pub returns-in-Some-clause-place : goal.returns-in-Some-clause-place
returns-in-Some-clause-place c =
    let rows = (places c.args.self.now) in
    ap (λ (a : Anchor). (a.on, a.side)) (sym (place_before rows c.in-Some.ensures.tree c.args.left c.in-Some.first c.leftmost.result c.requires c.in-Some.ensures.first c.leftmost.ensures))

pub returns-in-Some-clause-after : goal.returns-in-Some-clause-after
returns-in-Some-clause-after c =
    let rows = (places c.args.self.now) in
    let place = place_before rows c.in-Some.ensures.tree c.args.left c.in-Some.first c.leftmost.result c.requires c.in-Some.ensures.first c.leftmost.ensures in
    λ row fresh above. place_after_is_after rows c.args.left row c.in-Some.ensures.tree c.requires fresh (ap (λ (a : Anchor). id_lt a.on row) place ∙ above)

pub returns-in-None-clause-place : goal.returns-in-None-clause-place
returns-in-None-clause-place c = ap (λ (a : Anchor). (a.on, a.side)) (sym (place_at_end (places c.args.self.now) c.in-None.ensures.tree c.args.left c.in-None.ensures.first))

pub returns-in-None-clause-after : goal.returns-in-None-clause-after
returns-in-None-clause-after c =
    let rows = (places c.args.self.now) in
    let place = place_at_end rows c.in-None.ensures.tree c.args.left c.in-None.ensures.first in
    λ row fresh above. place_after_is_after rows c.args.left row c.in-None.ensures.tree c.requires fresh (ap (λ (a : Anchor). id_lt a.on row) place ∙ above)
