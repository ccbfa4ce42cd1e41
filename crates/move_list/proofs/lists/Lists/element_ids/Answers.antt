use Rattle.std.proofs.Common.{◌≡◌, ◌∙◌, ap, sym, Some, None, []}
use Rattle.std.proofs.lemmas.Result.{IfOk-weaker}
use Rattle.std.specs.Map.{lookup}
use Rattle.model.specs.View.{live_elements}
use Rattle.walk_laws.proofs.Walks.{key_eq}
use Rattle.move_list.specs.Kept.{shown}
use Rattle.move_list.specs.Lists.{ListTables, document_of}
use Rattle.move_list.proofs.NodeLaws as laws
use Rattle.move_list.proofs.lists.Lists.element_ids.Goals as goal

pub returns-in-Some : goal.returns-in-Some
returns-in-Some c =
    let es = c.self.inside.nodes.entries in
    let se = c.len.ensures.ordered in
    let n = c.args.node in
    let l = c.in-Some.list.now in
    let there : lookup (key_eq n) es ≡ Some l = sym c.in-Some.ensures.value in
    let live : shown l ≡ live_elements (document_of c.args.self.now) n = sym (laws.live_are es se c.self.invariant n (Some l) there) ∙ ap (λ (t : ListTables). live_elements (document_of t) n) c.self.view_is in
    IfOk-weaker c.shown.result (λ v. v.items ≡ shown l) (λ v. v.items ≡ live_elements (document_of c.args.self.now) n) (λ v e. e ∙ live) c.shown.ensures

pub returns-in-None : goal.returns-in-None
returns-in-None c =
    let es = c.self.inside.nodes.entries in
    let se = c.len.ensures.ordered in
    let n = c.args.node in
    let none : lookup (key_eq n) es ≡ None = sym c.in-None.ensures.value in
    c.new.ensures.items ∙ laws.none_shown es se c.self.invariant n none ∙ ap (λ (t : ListTables). live_elements (document_of t) n) c.self.view_is
