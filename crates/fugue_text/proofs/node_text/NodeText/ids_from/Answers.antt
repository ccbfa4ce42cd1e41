use Rattle.std.proofs.Common.{◌≡◌, ◌∙◌, List, ap, drop, filter, take}
use Rattle.std.proofs.lemmas.Result.{IfOk-weaker}
use Rattle.op_ids.specs.declared.OpId.{OpId}
use Rattle.fugue_text.specs.Runs.{TextRows, live_ids, rows_in}
use Rattle.fugue_text.specs.Pieces.{ids_in}
use Rattle.fugue_text.proofs.CountLaws.{rising_of}
use Rattle.fugue_text.proofs.LetterLaws.{live_in}
use Rattle.fugue_text.proofs.node_text.NodeText.ids_from.Goals as goal

pub ids_from-requires-clause-rising : goal.ids_from-requires-clause-rising
ids_from-requires-clause-rising c = rising_of _ c.self.invariant.tree

pub returns : goal.returns
returns c =
    let rows = rows_in c.self.inside.runs.entries in
    let read : List OpId → List OpId = λ ids. take c.args.count (drop c.args.at (filter (live_in rows) ids)) in
    IfOk-weaker c.ids_from.result (λ v. v.items ≡ read (ids_in c.as_slice.result.now)) (λ v. v.items ≡ take c.args.count (drop c.args.at (live_ids c.args.self.now)))
    (λ v e. e ∙ ap (λ ps. read (ids_in ps)) c.as_slice.ensures.value ∙ ap read c.in_ok-pieces.ensures.walk ∙ ap (λ (rs : TextRows). take c.args.count (drop c.args.at (live_ids rs))) c.self.view_is) c.ids_from.ensures
