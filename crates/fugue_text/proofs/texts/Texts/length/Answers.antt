use Rattle.std.proofs.Common.{◌≡◌, ◌∙◌, ap, sym, Some, None, length}
use Rattle.std.specs.Map.{lookup}
use Rattle.model.specs.View.{live_characters}
use Rattle.walk_laws.proofs.Walks.{key_eq}
use Rattle.fugue_text.specs.Texts.{Table, document_of}
use Rattle.fugue_text.proofs.NodeLaws as laws
use Rattle.fugue_text.proofs.NodeLaws.{Nodes}
use Rattle.fugue_text.proofs.texts.Texts.length.Goals as goal

pub returns-in-Some : goal.returns-in-Some
returns-in-Some c =
    let es = c.self.inside.nodes.entries in
    let se = c.len.ensures.ordered in
    let n = c.args.node in
    let u = c.in-Some.text.now in
    let there : lookup (key_eq n) es ≡ Some u = sym c.in-Some.ensures.value in
    c.live.ensures ∙ ap length (sym (laws.live_are es se c.self.invariant n (Some u) there)) ∙ ap (λ (t : Table). length (live_characters (document_of t) n)) c.self.view_is

pub returns-in-None : goal.returns-in-None
returns-in-None c =
    let es = c.self.inside.nodes.entries in
    let se = c.len.ensures.ordered in
    let n = c.args.node in
    let none : lookup (key_eq n) es ≡ None = sym c.in-None.ensures.value in
    ap length (sym (laws.live_are es se c.self.invariant n None none)) ∙ ap (λ (t : Table). length (live_characters (document_of t) n)) c.self.view_is
