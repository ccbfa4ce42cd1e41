use Rattle.std.proofs.Common.{◌≡◌, ◌∙◌, ℕ, List, ap, filter, filter_map, string_bytes}
use Rattle.std.proofs.lemmas.Result.{IfOk-weaker}
use Rattle.std.specs.Str.{chars}
use Rattle.op_ids.specs.declared.OpId.{OpId}
use Rattle.fugue_text.specs.Runs.{TextRows, character_in, live_ids, rows_in}
use Rattle.fugue_text.specs.Pieces.{ids_in}
use Rattle.fugue_text.proofs.CountLaws.{rising_of}
use Rattle.fugue_text.proofs.LetterLaws.{live_in}
use Rattle.fugue_text.proofs.node_text.NodeText.text.Goals as goal

pub text_of-requires-clause-rising : goal.text_of-requires-clause-rising
text_of-requires-clause-rising c = rising_of _ c.self.invariant.tree

pub returns : goal.returns
returns c =
    let rows = rows_in c.self.inside.runs.entries in
    let read : List OpId → List ℕ = λ ids. filter_map (character_in rows) (filter (live_in rows) ids) in
    IfOk-weaker c.text_of.result (λ t. chars (string_bytes t) ≡ read (ids_in c.as_slice.result.now)) (λ t. chars (string_bytes t) ≡ filter_map (character_in c.args.self.now) (live_ids c.args.self.now))
    (λ t e. e ∙ ap (λ ps. read (ids_in ps)) c.as_slice.ensures.value ∙ ap read c.in_ok-pieces.ensures.walk ∙ ap (λ (rs : TextRows). filter_map (character_in rs) (live_ids rs)) c.self.view_is) c.text_of.ensures
