use Rattle.std.proofs.Common.{◌≡◌, ◌∙◌, ap, sym, is_some, Some, None}
use Rattle.std.specs.Map.{lookup}
use Rattle.std.specs.FinMap as fin
use Rattle.move_list.specs.Lists.{ListTables}
use Rattle.walk_laws.proofs.Walks.{key_eq}
use Rattle.move_list.proofs.NodeLaws as laws
use Rattle.move_list.proofs.lists.Lists.has_element.Goals as goal

pub returns-in-Some : goal.returns-in-Some
returns-in-Some c =
    let es = c.self.inside.nodes.entries in
    let se = c.len.ensures.ordered in
    let n = c.args.node in
    let l = c.in-Some.list.now in
    let there : lookup (key_eq n) es ≡ Some l = sym c.in-Some.ensures.value in
    c.has_element.ensures ∙ ap is_some (sym (laws.item_in es n l (laws.has_found es se n l there) c.args.self.now c.self.view_is c.args.element))

pub returns-in-None : goal.returns-in-None
returns-in-None c =
    let es = c.self.inside.nodes.entries in
    let none : lookup (key_eq c.args.node) es ≡ None = sym c.in-None.ensures.value in
    ap is_some (sym (ap (λ (t : ListTables). fin.get t.elements (c.args.node, c.args.element)) (sym c.self.view_is) ∙ laws.no_item es c.len.ensures.ordered c.args.node c.args.element none))
