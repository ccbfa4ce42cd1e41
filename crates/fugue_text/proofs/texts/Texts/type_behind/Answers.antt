use Rattle.std.proofs.Common.{◌≡◌, ◌∙◌, ap, sym, subst, is_some, Some, None, true, false, map}
use Rattle.std.proofs.lemmas.Result.{on_ok_weaker, on_err_weaker}
use Rattle.std.specs.Map.{lookup}
use Rattle.std.specs.FinMap as fin
use Rattle.op_ids.specs.Order.{id_plus}
use Rattle.model.specs.State.{right_of, typed}
use Rattle.walk_laws.proofs.Walks.{key_eq}
use Rattle.fugue_text.specs.declared.run.Letter.{Letter}
use Rattle.fugue_text.specs.Texts.{AreTrees, Table}
use Rattle.fugue_text.proofs.TypedLaws.{new_free, texts_more}
use Rattle.fugue_text.proofs.NodeLaws as laws
use Rattle.fugue_text.proofs.NodeLaws.{Nodes}
use Rattle.fugue_text.proofs.texts.Texts.type_behind.Goals as goal
use Rattle.fugue_text.proofs.texts.Texts.type_behind.Goals.{In-Some}

there : (c : In-Some) → lookup (key_eq c.args.node) c.self.inside.nodes.entries ≡ Some c.in-Some.text.now
there c = sym c.in-Some.ensures.value

has : (c : In-Some) → laws.HasRows c.self.inside.nodes.entries c.args.node c.in-Some.text.now
has c = laws.has_found c.self.inside.nodes.entries c.get_mut.ensures.ordered c.args.node c.in-Some.text.now (there c)

pub type_behind-requires-clause-there : goal.type_behind-requires-clause-there
type_behind-requires-clause-there c =
    let u = (goal.at.type_behind-requires-clause-there c).In-Some in
    sym (ap is_some (laws.row_in c.self.inside.nodes.entries c.args.node c.in-Some.text.now (has u) c.args.self.now c.self.view_is c.args.id)) ∙ c.requires.there

pub type_behind-requires-clause-fresh : goal.type_behind-requires-clause-fresh
type_behind-requires-clause-fresh c =
    let u = (goal.at.type_behind-requires-clause-fresh c).In-Some in
    laws.fresh_row c.self.inside.nodes.entries c.args.node c.in-Some.text.now (has u) c.args.self.now c.self.view_is (id_plus c.args.id 1) c.requires.fresh

pub type_behind-requires-clause-free : goal.type_behind-requires-clause-free
type_behind-requires-clause-free c =
    let u = (goal.at.type_behind-requires-clause-free c).In-Some in
    new_free c.args.self.now c.args.node c.in-Some.text.now (laws.row_in c.self.inside.nodes.entries c.args.node c.in-Some.text.now (has u) c.args.self.now c.self.view_is) (id_plus c.args.id 1) _ c.requires.new

pub invariant_of-self : goal.invariant_of-self
invariant_of-self c =
    let es = c.self.inside.nodes.entries in
    let v = c.type_behind.new.self in
    let held = c.get_mut.follows.holds v in
    subst (λ (xs : Nodes). AreTrees xs) (sym held.0) (laws.trees_set es c.args.node v c.self.invariant c.type_behind.ensures.tree)

pub returns-in-Some-clause-ok : goal.returns-in-Some-clause-ok
returns-in-Some-clause-ok c =
    let u = (goal.at.returns-in-Some-clause-ok c).In-Some in
    let es = c.self.inside.nodes.entries in
    let n = c.args.node in
    let v = c.type_behind.new.self in
    let fs = (c.get_mut.follows.lender v).entries in
    let held = c.get_mut.follows.holds v in
    let updates = (held.3 (ap is_some (there u))).0 in
    on_ok_weaker c.type_behind.result
    (λ e. texts_more es fs c.get_mut.ensures.ordered held.4 n c.in-Some.text.now v updates (has u) (id_plus c.args.id 1) (right_of c.args.id) c.args.letters.now c.requires.alive e
    ∙ ap (λ (t : Table). typed t n (id_plus c.args.id 1) (right_of c.args.id) (map (λ (l : Letter). l.character) c.args.letters.now)) c.self.view_is) c.type_behind.ensures.ok

pub returns-in-Some-clause-err : goal.returns-in-Some-clause-err
returns-in-Some-clause-err c =
    let u = (goal.at.returns-in-Some-clause-err c).In-Some in
    let es = c.self.inside.nodes.entries in
    let n = c.args.node in
    let v = c.type_behind.new.self in
    let fs = (c.get_mut.follows.lender v).entries in
    let held = c.get_mut.follows.holds v in
    let updates = (held.3 (ap is_some (there u))).0 in
    on_err_weaker c.type_behind.result (λ e. laws.texts_same es fs c.get_mut.ensures.ordered held.4 n c.in-Some.text.now v updates (has u) e ∙ c.self.view_is) c.type_behind.ensures.err

pub returns-clause-ok : goal.returns-clause-ok
returns-clause-ok c =
    let es = c.self.inside.nodes.entries in
    let none : lookup (key_eq c.args.node) es ≡ None = sym c.in_default.ensures.value in
    let nothing : fin.get c.args.self.now (c.args.node, c.args.id) ≡ None = ap (λ (t : Table). fin.get t (c.args.node, c.args.id)) (sym c.self.view_is) ∙ laws.no_row es c.get_mut.ensures.ordered c.args.node c.args.id none in
    let no : false ≡ true = sym (ap is_some nothing) ∙ c.requires.there in
    absurd (let d : false ≡ true = no in cc)
