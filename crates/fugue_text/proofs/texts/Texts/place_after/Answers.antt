use Rattle.std.proofs.Common.{◌≡◌, ◌∙◌, ap, sym, subst, refl, Some, None, []}
use Rattle.std.specs.Map.{lookup}
use Rattle.model.specs.Walk.{Rows, rows_of, place_after}
use Rattle.walk_laws.specs.Insertion.{PlacedAfter}
use Rattle.walk_laws.proofs.Walks.{key_eq}
use Rattle.fugue_text.specs.Runs.{places}
use Rattle.fugue_text.specs.Texts.{AreTexts, Table}
use Rattle.fugue_text.proofs.NodeLaws as laws
use Rattle.fugue_text.proofs.NodeLaws.{Nodes}
use Rattle.move_list.proofs.NodeLaws.{placed_none}
use Rattle.fugue_text.proofs.texts.Texts.place_after.Goals as goal

pub place_after-requires : goal.place_after-requires
place_after-requires c =
    let es = c.self.inside.nodes.entries in
    let se = c.len.ensures.ordered in
    let n = c.args.node in
    let u = c.in-Some.text.now in
    let there : lookup (key_eq n) es ≡ Some u = sym c.in-Some.ensures.value in
    laws.head_or es n u (laws.has_found es se n u there) c.args.self.now c.self.view_is c.args.left c.requires

pub returns-in-Some-clause-place : goal.returns-in-Some-clause-place
returns-in-Some-clause-place c =
    let es = c.self.inside.nodes.entries in
    let se = c.len.ensures.ordered in
    let n = c.args.node in
    let u = c.in-Some.text.now in
    let there : lookup (key_eq n) es ≡ Some u = sym c.in-Some.ensures.value in
    let rows : rows_of (λ c. c.at) c.args.self.now n ≡ places u = ap (λ (t : Table). rows_of (λ c. c.at) t n) (sym c.self.view_is) ∙ laws.rows_are es se c.self.invariant n (Some u) there in
    c.place_after.ensures.place ∙ ap (λ (p : Rows). ((place_after p c.args.left).on, (place_after p c.args.left).side)) (sym rows)

pub returns-in-Some-clause-after : goal.returns-in-Some-clause-after
returns-in-Some-clause-after c =
    let es = c.self.inside.nodes.entries in
    let se = c.len.ensures.ordered in
    let n = c.args.node in
    let u = c.in-Some.text.now in
    let there : lookup (key_eq n) es ≡ Some u = sym c.in-Some.ensures.value in
    let rows : rows_of (λ c. c.at) c.args.self.now n ≡ places u = ap (λ (t : Table). rows_of (λ c. c.at) t n) (sym c.self.view_is) ∙ laws.rows_are es se c.self.invariant n (Some u) there in
    let has = laws.has_found es se n u there in
    λ row fresh above. subst (λ (p : Rows). PlacedAfter p c.args.left row) (sym rows) (c.place_after.ensures.after row (laws.fresh_place es n u has c.args.self.now c.self.view_is row fresh) above)

pub returns-in-Some-clause-texts : goal.returns-in-Some-clause-texts
returns-in-Some-clause-texts c =
    subst AreTexts c.self.view_is (laws.texts_are c.self.inside.nodes.entries c.len.ensures.ordered c.self.invariant)

pub returns-in-None-clause-place : goal.returns-in-None-clause-place
returns-in-None-clause-place c =
    let es = c.self.inside.nodes.entries in
    let se = c.len.ensures.ordered in
    let n = c.args.node in
    let none : lookup (key_eq n) es ≡ None = sym c.in-None.ensures.value in
    let rows : rows_of (λ c. c.at) c.args.self.now n ≡ [] = ap (λ (t : Table). rows_of (λ c. c.at) t n) (sym c.self.view_is) ∙ laws.rows_are es se c.self.invariant n None none in
    ap (λ (p : Rows). ((place_after p c.args.left).on, (place_after p c.args.left).side)) (sym rows)

pub returns-in-None-clause-after : goal.returns-in-None-clause-after
returns-in-None-clause-after c =
    let es = c.self.inside.nodes.entries in
    let se = c.len.ensures.ordered in
    let n = c.args.node in
    let none : lookup (key_eq n) es ≡ None = sym c.in-None.ensures.value in
    let rows : rows_of (λ c. c.at) c.args.self.now n ≡ [] = ap (λ (t : Table). rows_of (λ c. c.at) t n) (sym c.self.view_is) ∙ laws.rows_are es se c.self.invariant n None none in
    λ row fresh above. subst (λ (p : Rows). PlacedAfter p c.args.left row) (sym rows) (placed_none c.args.left row (laws.head_or es n [] (laws.has_none es se n [] none refl) c.args.self.now c.self.view_is c.args.left c.requires) above)

pub returns-in-None-clause-texts : goal.returns-in-None-clause-texts
returns-in-None-clause-texts c =
    subst AreTexts c.self.view_is (laws.texts_are c.self.inside.nodes.entries c.len.ensures.ordered c.self.invariant)
