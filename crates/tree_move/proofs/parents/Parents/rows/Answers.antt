use Rattle.std.proofs.Common.{◌∙◌, ap, sym, map}
use Rattle.std.specs.FinMap as fin
use Rattle.tree_move.specs.Parents.{Nodes, row_of}
use Rattle.tree_move.proofs.SlotLaws.{entries_placed, rows_placed}
use Rattle.tree_move.proofs.parents.Parents.rows.Goals as goal

pub returns : goal.returns
returns c =
    let slots = c.self.inside.slots.entries in
    let e = ap (λ (k : Nodes). map row_of (fin.entries k.places)) (sym c.self.view_is) ∙ ap (map row_of) (entries_placed slots c.rows_in.ensures.ordered) ∙ rows_placed slots in
    rw e c.rows_in.ensures.rows
