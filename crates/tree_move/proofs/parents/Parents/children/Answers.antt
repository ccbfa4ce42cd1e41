use Rattle.std.proofs.Common.{◌∙◌, ap, sym}
use Rattle.std.specs.Prelude.{filter_map}
use Rattle.std.specs.FinMap as fin
use Rattle.tree_move.specs.Parents.{Nodes, child_of}
use Rattle.tree_move.proofs.SlotLaws.{entries_placed, children_placed}
use Rattle.tree_move.proofs.parents.Parents.children.Goals as goal

pub returns-clause-found : goal.returns-clause-found
returns-clause-found c =
    let slots = c.self.inside.slots.entries in
    let e = ap (λ (k : Nodes). filter_map (child_of c.args.parent) (fin.entries k.places)) (sym c.self.view_is) ∙ ap (filter_map (child_of c.args.parent)) (entries_placed slots c.in_ok-found.ensures.ordered) ∙ children_placed c.args.parent slots in
    rw (e, ← c.in_ok-found.ensures.found) c.sort_unstable.ensures.permutation
