use Rattle.std.proofs.Common.{◌≡◌, ◌∙◌, ap, sym, Some, None, ℕ, zero, suc, List, [], drop, take, refl}
use Rattle.std.proofs.lemmas.Result.{IfOk-weaker}
use Rattle.std.specs.Map.{lookup}
use Rattle.op_ids.specs.declared.OpId.{OpId}
use Rattle.model.specs.View.{live_characters}
use Rattle.walk_laws.proofs.Walks.{key_eq}
use Rattle.fugue_text.specs.Runs.{live_ids}
use Rattle.fugue_text.specs.Texts.{Table, document_of}
use Rattle.fugue_text.proofs.NodeLaws as laws
use Rattle.fugue_text.proofs.texts.Texts.ids_from.Goals as goal

pub returns-in-Some : goal.returns-in-Some
returns-in-Some c =
    let es = c.self.inside.nodes.entries in
    let se = c.len.ensures.ordered in
    let n = c.args.node in
    let u = c.in-Some.text.now in
    let some : List OpId → List OpId = λ ids. take c.args.count (drop c.args.at ids) in
    let there : lookup (key_eq n) es ≡ Some u = sym c.in-Some.ensures.value in
    let live : live_ids u ≡ live_characters (document_of c.args.self.now) n = sym (laws.live_are es se c.self.invariant n (Some u) there) ∙ ap (λ (t : Table). live_characters (document_of t) n) c.self.view_is in
    IfOk-weaker c.ids_from.result (λ v. v.items ≡ some (live_ids u)) (λ v. v.items ≡ some (live_characters (document_of c.args.self.now) n)) (λ v e. e ∙ ap some live) c.ids_from.ensures

none_of : (count at : ℕ) (ids : List OpId) → [] ≡ ids → [] ≡ take count (drop at ids)
none_of count at ids e = nothing count at ∙ ap (λ xs. take count (drop at xs)) e
  where
    no_ids : List OpId
    no_ids = []

    nothing : (n k : ℕ) → [] ≡ take n (drop k no_ids)
    nothing zero zero = refl
    nothing zero (suc k) = refl
    nothing (suc n) zero = refl
    nothing (suc n) (suc k) = refl

pub returns-in-None : goal.returns-in-None
returns-in-None c =
    let es = c.self.inside.nodes.entries in
    let se = c.len.ensures.ordered in
    let n = c.args.node in
    let none : lookup (key_eq n) es ≡ None = sym c.in-None.ensures.value in
    let live : [] ≡ live_characters (document_of c.args.self.now) n = sym (laws.live_are es se c.self.invariant n None none) ∙ ap (λ (t : Table). live_characters (document_of t) n) c.self.view_is in
    c.new.ensures.items ∙ none_of c.args.count c.args.at (live_characters (document_of c.args.self.now) n) live
