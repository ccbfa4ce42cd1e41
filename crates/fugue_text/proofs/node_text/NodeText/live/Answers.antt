use Rattle.std.proofs.Common.{◌∙◌, ap, length}
use Rattle.fugue_text.specs.Runs.{TextRows, live_ids, rows_in}
use Rattle.fugue_text.proofs.CountLaws.{live_length}
use Rattle.fugue_text.proofs.node_text.NodeText.live.Goals as goal

pub returns : goal.returns
returns c =
    c.self.invariant.counted ∙ live_length (rows_in c.self.inside.runs.entries) c.self.invariant.tree ∙ ap (λ (rs : TextRows). length (live_ids rs)) c.self.view_is
