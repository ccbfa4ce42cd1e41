use Rattle.std.proofs.Common.{◌≡◌, ◌∙◌, ap, sym, subst, is_some, Some, None}
use Rattle.std.proofs.lemmas.Result.{on_ok_weaker, on_err_weaker}
use Rattle.std.specs.Map.{lookup}
use Rattle.std.specs.BTreeMap.{BTreeMap}
use Rattle.std.specs.FinMap as fin
use Rattle.op_ids.specs.declared.OpId.{OpId}
use Rattle.op_ids.specs.Order.{id_cmp}
use Rattle.model.specs.Operation.{Anchor}
use Rattle.walk_laws.proofs.Walks.{key_eq}
use Rattle.fugue_text.specs.Runs.{TextRows, letter_at}
use Rattle.fugue_text.specs.Texts.{AreTexts, AreTrees, Table, table_of}
use Rattle.fugue_text.proofs.NodeLaws as laws
use Rattle.fugue_text.proofs.NodeLaws.{Nodes}
use Rattle.fugue_text.proofs.texts.Texts.add.Goals as goal

pub add-requires-clause-fresh : goal.add-requires-clause-fresh
add-requires-clause-fresh c =
    let es = c.self.inside.nodes.entries in
    let se = c.get_mut.ensures.ordered in
    let n = c.args.node in
    let u = c.in-Some.text.now in
    let there : lookup (key_eq n) es ≡ Some u = sym c.in-Some.ensures.value in
    let has = laws.has_found es se n u there in
    laws.fresh_row es n u has c.args.self.now c.self.view_is c.args.id c.requires.new

pub add-requires-clause-hangs : goal.add-requires-clause-hangs
add-requires-clause-hangs c =
    let es = c.self.inside.nodes.entries in
    let se = c.get_mut.ensures.ordered in
    let n = c.args.node in
    let u = c.in-Some.text.now in
    let there : lookup (key_eq n) es ≡ Some u = sym c.in-Some.ensures.value in
    let has = laws.has_found es se n u there in
    let a : Anchor = record { on = c.args.anchor; side = c.args.side } in
    laws.hangs_well es n u has c.args.self.now c.self.view_is c.args.id a c.requires.hangs

pub invariant_of-self : goal.invariant_of-self
invariant_of-self c =
    let es = c.self.inside.nodes.entries in
    let n = c.args.node in
    let v = c.add.new.self in
    let fs = (c.get_mut.follows.lender v).entries in
    let held = c.get_mut.follows.holds v in
    let kept : AreTrees fs = subst (λ (xs : Nodes). AreTrees xs) (sym held.0) (laws.trees_set es n v c.self.invariant c.add.ensures.tree) in
    kept

pub returns-in-Some-clause-ok : goal.returns-in-Some-clause-ok
returns-in-Some-clause-ok c =
    let es = c.self.inside.nodes.entries in
    let se = c.get_mut.ensures.ordered in
    let n = c.args.node in
    let u = c.in-Some.text.now in
    let there : lookup (key_eq n) es ≡ Some u = sym c.in-Some.ensures.value in
    let has = laws.has_found es se n u there in
    let a : Anchor = record { on = c.args.anchor; side = c.args.side } in
    let v = c.add.new.self in
    let fs = (c.get_mut.follows.lender v).entries in
    let held = c.get_mut.follows.holds v in
    let updates = (held.3 (ap is_some there)).0 in
    on_ok_weaker c.add.result (λ e. laws.texts_put es fs se held.4 n u v updates has c.args.id (letter_at a c.args.letter) e ∙ ap (λ (t : Table). fin.insert t (n, c.args.id) (letter_at a c.args.letter)) c.self.view_is) c.add.ensures.ok

pub returns-in-Some-clause-err : goal.returns-in-Some-clause-err
returns-in-Some-clause-err c =
    let es = c.self.inside.nodes.entries in
    let se = c.get_mut.ensures.ordered in
    let n = c.args.node in
    let u = c.in-Some.text.now in
    let there : lookup (key_eq n) es ≡ Some u = sym c.in-Some.ensures.value in
    let has = laws.has_found es se n u there in
    let v = c.add.new.self in
    let fs = (c.get_mut.follows.lender v).entries in
    let held = c.get_mut.follows.holds v in
    let updates = (held.3 (ap is_some there)).0 in
    on_err_weaker c.add.result (λ e. laws.texts_same es fs se held.4 n u v updates has e ∙ c.self.view_is) c.add.ensures.err

pub returns-in-Some-clause-texts : goal.returns-in-Some-clause-texts
returns-in-Some-clause-texts c =
    let es = c.self.inside.nodes.entries in
    let n = c.args.node in
    let v = c.add.new.self in
    let fs = (c.get_mut.follows.lender v).entries in
    let held = c.get_mut.follows.holds v in
    let kept : AreTrees fs = subst (λ (xs : Nodes). AreTrees xs) (sym held.0) (laws.trees_set es n v c.self.invariant c.add.ensures.tree) in
    laws.texts_are fs held.4 kept

pub add-requires-2-clause-fresh : goal.add-requires-2-clause-fresh
add-requires-2-clause-fresh c =
    ap (λ (rs : TextRows). fin.find id_cmp c.args.id rs) c.new-text.ensures

pub add-requires-2-clause-hangs : goal.add-requires-2-clause-hangs
add-requires-2-clause-hangs c =
    let n = c.args.node in
    let u = c.new-text.result in
    let old = c.get_mut.follows.lender-at-none in
    let same : old ≡ c.self.inside.nodes = c.get_mut.follows.holds-at-none in
    let ordered : laws.Rising old.entries = subst (λ (m : BTreeMap OpId TextRows). laws.Rising m.entries) (sym same) c.get_mut.ensures.ordered in
    let none : lookup (key_eq n) old.entries ≡ None = ap (λ (m : BTreeMap OpId TextRows). lookup (key_eq n) m.entries) same ∙ sym c.in_default.ensures.value in
    let has = laws.has_none old.entries ordered n u none c.new-text.ensures in
    let view : table_of old.entries ≡ c.args.self.now = ap (λ (m : BTreeMap OpId TextRows). table_of m.entries) same ∙ c.self.view_is in
    let a : Anchor = record { on = c.args.anchor; side = c.args.side } in
    laws.hangs_well old.entries n u has c.args.self.now view c.args.id a c.requires.hangs

pub returns-in_err-add-clause-texts : goal.returns-in_err-add-clause-texts
returns-in_err-add-clause-texts c =
    subst (λ (m : BTreeMap OpId TextRows). AreTexts (table_of m.entries)) (sym c.get_mut.follows.holds-at-none) (laws.texts_are c.self.inside.nodes.entries c.get_mut.ensures.ordered c.self.invariant)

pub returns-in_err-insert-clause-texts : goal.returns-in_err-insert-clause-texts
returns-in_err-insert-clause-texts c =
    let old : AreTexts (table_of c.get_mut.follows.lender-at-none.entries) = subst (λ (m : BTreeMap OpId TextRows). AreTexts (table_of m.entries)) (sym c.get_mut.follows.holds-at-none) (laws.texts_are c.self.inside.nodes.entries c.get_mut.ensures.ordered c.self.invariant) in
    subst (λ (xs : Nodes). AreTexts (table_of xs)) (sym c.in_err-insert.ensures.err) old

pub invariant_of-self-2 : goal.invariant_of-self-2
invariant_of-self-2 c =
    let n = c.args.node in
    let old = c.get_mut.follows.lender-at-none in
    let same : old ≡ c.self.inside.nodes = c.get_mut.follows.holds-at-none in
    let kept : AreTrees old.entries = subst (λ (m : BTreeMap OpId TextRows). AreTrees m.entries) (sym same) c.self.invariant in
    let v = c.add-2.new.self in
    let now : AreTrees c.insert.new.self.entries = subst (λ (xs : Nodes). AreTrees xs) (sym c.in_ok-insert.ensures.entries) (laws.trees_insert old.entries n v kept c.in_ok-add.ensures.tree) in
    now

pub returns-clause-ok : goal.returns-clause-ok
returns-clause-ok c =
    let n = c.args.node in
    let u = c.new-text.result in
    let old = c.get_mut.follows.lender-at-none in
    let same : old ≡ c.self.inside.nodes = c.get_mut.follows.holds-at-none in
    let ordered : laws.Rising old.entries = subst (λ (m : BTreeMap OpId TextRows). laws.Rising m.entries) (sym same) c.get_mut.ensures.ordered in
    let none : lookup (key_eq n) old.entries ≡ None = ap (λ (m : BTreeMap OpId TextRows). lookup (key_eq n) m.entries) same ∙ sym c.in_default.ensures.value in
    let has = laws.has_none old.entries ordered n u none c.new-text.ensures in
    let view : table_of old.entries ≡ c.args.self.now = ap (λ (m : BTreeMap OpId TextRows). table_of m.entries) same ∙ c.self.view_is in
    let a : Anchor = record { on = c.args.anchor; side = c.args.side } in
    let v = c.add-2.new.self in
    laws.texts_put old.entries c.insert.new.self.entries c.in_ok-insert.ensures.was_ordered c.in_ok-insert.ensures.ordered n u v c.in_ok-insert.ensures.updates.0 has c.args.id (letter_at a c.args.letter) c.in_ok-add.ensures.ok
    ∙ ap (λ (t : Table). fin.insert t (n, c.args.id) (letter_at a c.args.letter)) view

pub returns-clause-texts : goal.returns-clause-texts
returns-clause-texts c =
    let n = c.args.node in
    let old = c.get_mut.follows.lender-at-none in
    let same : old ≡ c.self.inside.nodes = c.get_mut.follows.holds-at-none in
    let kept : AreTrees old.entries = subst (λ (m : BTreeMap OpId TextRows). AreTrees m.entries) (sym same) c.self.invariant in
    let v = c.add-2.new.self in
    let now : AreTrees c.insert.new.self.entries = subst (λ (xs : Nodes). AreTrees xs) (sym c.in_ok-insert.ensures.entries) (laws.trees_insert old.entries n v kept c.in_ok-add.ensures.tree) in
    laws.texts_are c.insert.new.self.entries c.in_ok-insert.ensures.ordered now
