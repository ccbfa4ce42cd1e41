use Rattle.std.proofs.Common.{◌≡◌, ◌∙◌, ap, sym, Some, None, is_some}
use Rattle.std.specs.Prelude.{Option}
use Rattle.std.specs.FinMap.{find}
use Rattle.op_ids.specs.declared.OpId.{OpId}
use Rattle.op_ids.specs.Order.{id_cmp}
use Rattle.fugue_text.specs.declared.run.Spot.{Spot}
use Rattle.fugue_text.specs.Runs.{IsSpot, TextRows, rows_in}
use Rattle.fugue_text.proofs.RunLaws.{Runs, RowsRise, spot_found}
use Rattle.fugue_text.proofs.CountLaws.{rising_of}
use Rattle.fugue_text.proofs.node_text.NodeText.has.Goals as goal

spot_some : (es : Runs) → RowsRise es → (id : OpId) (o : Option Spot) → IsSpot es id o → is_some o ≡ is_some (find id_cmp id (rows_in es))
spot_some es rise id None h = sym (ap is_some h)
spot_some es rise id (Some s) h = sym (ap is_some (spot_found id s.first s.offset es rise h))

pub spot_of-requires-clause-rising : goal.spot_of-requires-clause-rising
spot_of-requires-clause-rising c = rising_of _ c.self.invariant.tree

pub returns : goal.returns
returns c =
    c.is_some.ensures ∙ spot_some c.self.inside.runs.entries (rising_of _ c.self.invariant.tree) c.args.id c.spot_of.result c.spot_of.ensures.spot
    ∙ ap (λ (rs : TextRows). is_some (find id_cmp c.args.id rs)) c.self.view_is
