use Rattle.std.proofs.Common.{◌≡◌, ◌∙◌, ap, sym, Some, None, []}
use Rattle.std.proofs.lemmas.Result.{IfOk-weaker}
use Rattle.std.specs.Str.{chars}
use Rattle.std.proofs.lemmas.Str.{chars-nil}
use Rattle.std.specs.Map.{lookup}
use Rattle.model.specs.View.{text_of}
use Rattle.walk_laws.proofs.Walks.{key_eq}
use Rattle.fugue_text.specs.Texts.{Table, document_of}
use Rattle.fugue_text.proofs.NodeLaws as laws
use Rattle.fugue_text.proofs.texts.Texts.text.Goals as goal

pub returns-in_ok-text-in-Some : goal.returns-in_ok-text-in-Some
returns-in_ok-text-in-Some c =
    let es = c.self.inside.nodes.entries in
    let se = c.len.ensures.ordered in
    let n = c.args.node in
    let u = c.in-Some.text.now in
    let there : lookup (key_eq n) es ≡ Some u = sym c.in-Some.ensures.value in
    ap chars c.from_string.ensures ∙ c.in_ok-text-in-Some.ensures ∙ sym (laws.text_are es se c.self.invariant n (Some u) there) ∙ ap (λ (t : Table). text_of (document_of t) n) c.self.view_is

pub returns-in-None : goal.returns-in-None
returns-in-None c =
    let es = c.self.inside.nodes.entries in
    let se = c.len.ensures.ordered in
    let n = c.args.node in
    let none : lookup (key_eq n) es ≡ None = sym c.in-None.ensures.value in
    let empty : [] ≡ text_of (document_of c.args.self.now) n = sym (laws.text_are es se c.self.invariant n None none) ∙ ap (λ (t : Table). text_of (document_of t) n) c.self.view_is in
    IfOk-weaker c.of.result (λ t. t ≡ []) (λ t. chars t ≡ text_of (document_of c.args.self.now) n) (λ t e. ap chars e ∙ chars-nil ∙ empty) c.of.ensures
