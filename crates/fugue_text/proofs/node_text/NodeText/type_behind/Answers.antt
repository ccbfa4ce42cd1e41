use Rattle.std.proofs.Common.{◌≡◌, ◌∙◌, ap, sym, subst, ◌+◌, None, is_some, ℕ, true, false, length, arith, refl}
use Rattle.std.specs.FinMap.{find}
use Rattle.op_ids.specs.declared.OpId.{OpId}
use Rattle.op_ids.specs.Order.{id_cmp, id_plus}
use Rattle.model.specs.State.{right_of}
use Rattle.fugue_tree.specs.Tree.{AreChildren}
use Rattle.fugue_text.specs.Runs.{AreFree, IsIn, IsText, TextRows, rows_in, with_letters}
use Rattle.fugue_text.proofs.CountLaws.{rising_of}
use Rattle.fugue_text.proofs.IdLaws.{of_change}
use Rattle.fugue_text.proofs.TypedLaws.{text_more}
use Rattle.fugue_text.proofs.node_text.NodeText.type_behind.Goals as goal
use Rattle.fugue_text.proofs.node_text.NodeText.type_behind.Goals.{In_ok-extend}

pub spot_of-requires-clause-rising : goal.spot_of-requires-clause-rising
spot_of-requires-clause-rising c = rising_of _ c.self.invariant.tree

next : (id f : OpId) (k : ℕ) → id ≡ id_plus f k → id_plus id 1 ≡ id_plus f (k + 1)
next id f k e = ap (λ x. id_plus x 1) e ∙ of_change (id_plus (id_plus f k) 1) (id_plus f (k + 1)) refl (omega arith)

pub extend-requires-clause-rising : goal.extend-requires-clause-rising
extend-requires-clause-rising c = rising_of _ c.self.invariant.tree

pub extend-requires-clause-there : goal.extend-requires-clause-there
extend-requires-clause-there c =
    let i = c.in-Some.ensures.spot in
    subst (λ x. IsIn c.self.inside.runs.entries x c.in-Some.spot.first c.in-Some.spot.offset) i.is i

pub extend-requires-clause-fresh : goal.extend-requires-clause-fresh
extend-requires-clause-fresh c =
    let i = c.in-Some.ensures.spot in
    let es = c.self.inside.runs.entries in
    ap (λ x. find id_cmp x (rows_in es)) (sym (next c.args.id c.in-Some.spot.first c.in-Some.spot.offset i.is)) ∙ ap (find id_cmp (id_plus c.args.id 1)) c.self.view_is ∙ c.requires.fresh

pub extend-requires-clause-free : goal.extend-requires-clause-free
extend-requires-clause-free c =
    let i = c.in-Some.ensures.spot in
    subst (λ x. AreFree (rows_in c.self.inside.runs.entries) x (length c.args.letters.now)) (next c.args.id c.in-Some.spot.first c.in-Some.spot.offset i.is)
    (subst (λ (rs : TextRows). AreFree rs (id_plus c.args.id 1) (length c.args.letters.now)) (sym c.self.view_is) c.requires.free)

pub extend-requires-clause-fits : goal.extend-requires-clause-fits
extend-requires-clause-fits c =
    let index : c.args.id.index ≡ c.in-Some.spot.first.index + c.in-Some.spot.offset = ap (λ (x : OpId). x.index) c.in-Some.ensures.spot.is in
    omega (arith, index, c.requires.fits)

now : (c : In_ok-extend) → IsText c.extend.new.runs.entries c.self.inside.children c.in_ok-live.live
now c =
    let es = c.self.inside.runs.entries in
    let ls = c.args.letters.now in
    let i = c.in-Some.ensures.spot in
    let there : is_some (find id_cmp c.args.id (rows_in es)) ≡ true = ap (λ (rs : TextRows). is_some (find id_cmp c.args.id rs)) c.self.view_is ∙ c.requires.there in
    subst (IsText c.extend.new.runs.entries c.self.inside.children) (sym c.in_ok-live.ensures)
    (text_more es c.extend.new.runs.entries c.self.inside.children c.self.inside.live c.self.invariant c.in_ok-extend.ensures.filled
    (subst (λ rs. AreChildren rs c.self.inside.children) (sym c.in_ok-extend.ensures.starts) c.self.invariant.index) c.args.id ls
    (c.in_ok-extend.ensures.ok ∙ (λ j. with_letters (rows_in es) (sym (next c.args.id c.in-Some.spot.first c.in-Some.spot.offset i.is) j) (right_of (sym i.is j)) ls)) there
    (subst (λ (rs : TextRows). AreFree rs (id_plus c.args.id 1) (length ls)) (sym c.self.view_is) c.requires.free) c.requires.alive)

pub invariant_of-self-in-Some : goal.invariant_of-self-in-Some
invariant_of-self-in-Some c = now (goal.at.invariant_of-self-in-Some c).In_ok-extend

pub returns-in_ok-extend-clause-tree : goal.returns-in_ok-extend-clause-tree
returns-in_ok-extend-clause-tree c = (now (goal.at.returns-in_ok-extend-clause-tree c).In_ok-extend).tree

pub returns-in_default-clause-ok : goal.returns-in_default-clause-ok
returns-in_default-clause-ok c =
    let none : find id_cmp c.args.id c.args.self.now ≡ None = ap (find id_cmp c.args.id) (sym c.self.view_is) ∙ c.in_default.ensures.spot in
    let no : false ≡ true = sym (ap is_some none) ∙ c.requires.there in
    absurd (let d : false ≡ true = no in cc)
