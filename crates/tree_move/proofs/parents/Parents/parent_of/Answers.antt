use Rattle.std.proofs.Common.{◌∙◌, ap, sym}
use Rattle.std.specs.FinMap as map
use Rattle.tree_move.specs.Parents.{Nodes}
use Rattle.tree_move.proofs.PlaceLaws.{joined, get-places_of}
use Rattle.tree_move.proofs.parents.Parents.parent_of.Goals as goal

pub returns-in-Some-clause-place : goal.returns-in-Some-clause-place
returns-in-Some-clause-place c =
    ap joined c.in-Some.ensures.value ∙ sym (get-places_of c.self.inside.slots.entries c.args.node)
    ∙ ap (λ (k : Nodes). map.get k.places c.args.node) c.self.view_is

pub returns-in-None-clause-place : goal.returns-in-None-clause-place
returns-in-None-clause-place c =
    ap joined c.in-None.ensures.value ∙ sym (get-places_of c.self.inside.slots.entries c.args.node)
    ∙ ap (λ (k : Nodes). map.get k.places c.args.node) c.self.view_is
