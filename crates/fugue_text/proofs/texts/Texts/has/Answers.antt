use Rattle.std.proofs.Common.{◌≡◌, ◌∙◌, ap, sym, subst, is_some, Some, None}
use Rattle.std.specs.Map.{lookup}
use Rattle.std.specs.FinMap as fin
use Rattle.walk_laws.proofs.Walks.{key_eq}
use Rattle.fugue_text.specs.Texts.{AreTexts, Table}
use Rattle.fugue_text.proofs.NodeLaws as laws
use Rattle.fugue_text.proofs.NodeLaws.{Nodes}
use Rattle.fugue_text.proofs.texts.Texts.has.Goals as goal

pub returns-in-Some-clause-row : goal.returns-in-Some-clause-row
returns-in-Some-clause-row c =
    let es = c.self.inside.nodes.entries in
    let se = c.len.ensures.ordered in
    let n = c.args.node in
    let u = c.in-Some.text.now in
    let there : lookup (key_eq n) es ≡ Some u = sym c.in-Some.ensures.value in
    c.has.ensures ∙ ap is_some (sym (laws.row_in es n u (laws.has_found es se n u there) c.args.self.now c.self.view_is c.args.id))

pub returns-in-Some-clause-texts : goal.returns-in-Some-clause-texts
returns-in-Some-clause-texts c =
    subst AreTexts c.self.view_is (laws.texts_are c.self.inside.nodes.entries c.len.ensures.ordered c.self.invariant)

pub returns-in-None-clause-row : goal.returns-in-None-clause-row
returns-in-None-clause-row c =
    let es = c.self.inside.nodes.entries in
    let se = c.len.ensures.ordered in
    let n = c.args.node in
    let none : lookup (key_eq n) es ≡ None = sym c.in-None.ensures.value in
    ap is_some (sym (ap (λ (t : Table). fin.get t (n, c.args.id)) (sym c.self.view_is) ∙ laws.no_row es se n c.args.id none))

pub returns-in-None-clause-texts : goal.returns-in-None-clause-texts
returns-in-None-clause-texts c =
    subst AreTexts c.self.view_is (laws.texts_are c.self.inside.nodes.entries c.len.ensures.ordered c.self.invariant)
