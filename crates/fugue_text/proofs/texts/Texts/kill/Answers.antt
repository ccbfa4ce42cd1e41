use Rattle.std.proofs.Common.{◌≡◌, ◌∙◌, ap, sym, subst, is_some, Some, None}
use Rattle.std.specs.Map.{lookup}
use Rattle.std.specs.BTreeMap.{BTreeMap}
use Rattle.std.specs.FinMap as fin
use Rattle.op_ids.specs.declared.OpId.{OpId}
use Rattle.model.specs.State.{edit_row, killed}
use Rattle.walk_laws.proofs.Walks.{key_eq}
use Rattle.fugue_text.specs.Runs.{TextRows}
use Rattle.fugue_text.specs.Texts.{AreTexts, AreTrees, Table, table_of}
use Rattle.fugue_text.proofs.NodeLaws as laws
use Rattle.fugue_text.proofs.NodeLaws.{Nodes}
use Rattle.fugue_text.specs.declared.texts.Texts.TheInside.{Inside}
use Rattle.fugue_text.proofs.texts.Texts.kill.Goals.{in-Some, in_default}
use Rattle.fugue_text.proofs.texts.Texts.kill.Goals as goal

pub invariant_of-self : goal.invariant_of-self
invariant_of-self c =
    let es = c.self.inside.nodes.entries in
    let se = c.get_mut.ensures.ordered in
    let n = c.args.node in
    elim c.match-get_mut.branch [
      | in-Some w ↦
          let u = w.in-Some.text.now in
          let v = w.kill.new.self in
          let held = c.get_mut.follows.holds v in
          let there : lookup (key_eq n) es ≡ Some u = sym w.in-Some.ensures.value in
          let has = laws.has_found es se n u there in
          let updates = (held.3 (ap is_some there)).0 in
          let kept : AreTrees (c.get_mut.follows.lender v).entries = subst (λ (xs : Nodes). AreTrees xs) (sym held.0) (laws.trees_set es n v c.self.invariant w.kill.ensures.tree) in
          subst (λ (i : Inside). AreTrees i.nodes.entries) (sym w.self-inside-is) kept
      | in_default w ↦
          let none : lookup (key_eq n) es ≡ None = sym w.in_default.ensures.value in
          let held = c.get_mut.follows.holds-at-none in
          subst (λ (i : Inside). AreTrees i.nodes.entries) (sym w.self-inside-is) (subst (λ (m : BTreeMap OpId TextRows). AreTrees m.entries) (sym held) c.self.invariant)
    ]

pub returns-clause-now : goal.returns-clause-now
returns-clause-now c =
    let es = c.self.inside.nodes.entries in
    let se = c.get_mut.ensures.ordered in
    let n = c.args.node in
    elim c.match-get_mut.branch [
      | in-Some w ↦
          let u = w.in-Some.text.now in
          let v = w.kill.new.self in
          let held = c.get_mut.follows.holds v in
          let there : lookup (key_eq n) es ≡ Some u = sym w.in-Some.ensures.value in
          let has = laws.has_found es se n u there in
          let updates = (held.3 (ap is_some there)).0 in
          let kept : AreTrees (c.get_mut.follows.lender v).entries = subst (λ (xs : Nodes). AreTrees xs) (sym held.0) (laws.trees_set es n v c.self.invariant w.kill.ensures.tree) in
          ap (λ (i : Inside). table_of i.nodes.entries) w.self-inside-is
          ∙ laws.texts_edited es (c.get_mut.follows.lender v).entries se held.4 n u v updates has c.args.id killed w.kill.ensures.now ∙ ap (λ (t : Table). edit_row t (n, c.args.id) killed) c.self.view_is
      | in_default w ↦
          let none : lookup (key_eq n) es ≡ None = sym w.in_default.ensures.value in
          let held = c.get_mut.follows.holds-at-none in
          let absent : fin.get c.args.self.now (n, c.args.id) ≡ None = ap (λ (t : Table). fin.get t (n, c.args.id)) (sym c.self.view_is) ∙ laws.no_row es se n c.args.id none in
          ap (λ (i : Inside). table_of i.nodes.entries) w.self-inside-is ∙ ap (λ (m : BTreeMap OpId TextRows). table_of m.entries) held ∙ c.self.view_is
          ∙ sym (laws.nothing_edited c.args.self.now (n, c.args.id) killed absent)
    ]

pub returns-clause-texts : goal.returns-clause-texts
returns-clause-texts c =
    let es = c.self.inside.nodes.entries in
    let se = c.get_mut.ensures.ordered in
    let n = c.args.node in
    elim c.match-get_mut.branch [
      | in-Some w ↦
          let u = w.in-Some.text.now in
          let v = w.kill.new.self in
          let held = c.get_mut.follows.holds v in
          let there : lookup (key_eq n) es ≡ Some u = sym w.in-Some.ensures.value in
          let has = laws.has_found es se n u there in
          let updates = (held.3 (ap is_some there)).0 in
          let kept : AreTrees (c.get_mut.follows.lender v).entries = subst (λ (xs : Nodes). AreTrees xs) (sym held.0) (laws.trees_set es n v c.self.invariant w.kill.ensures.tree) in
          subst (λ (i : Inside). AreTexts (table_of i.nodes.entries)) (sym w.self-inside-is) (laws.texts_are (c.get_mut.follows.lender v).entries held.4 kept)
      | in_default w ↦
          let none : lookup (key_eq n) es ≡ None = sym w.in_default.ensures.value in
          let held = c.get_mut.follows.holds-at-none in
          subst (λ (i : Inside). AreTexts (table_of i.nodes.entries)) (sym w.self-inside-is) (subst (λ (m : BTreeMap OpId TextRows). AreTexts (table_of m.entries)) (sym held) (laws.texts_are es se c.self.invariant))
    ]
