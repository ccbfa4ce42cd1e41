use Rattle.std.proofs.Common.{◌≡◌, ◌∙◌, ◌∷◌, ◌+◌, ℕ, List, [], ap, sym, subst, refl, drop, get_or}
use Rattle.std.proofs.lemmas.List.{drop_more, drop_all}
use Rattle.op_ids.specs.declared.OpId.{OpId}
use Rattle.op_ids.specs.Order.{root_id}
use Rattle.model.specs.Edit.{Group, grouped}
use Rattle.doc_store.proofs.PlanLaws.{GoesOn, ends_all, ends_before, goes_on}
use Rattle.doc_store.proofs.plan_text.followers.Goals as goal

abbrev group : OpId → ℕ → List OpId → List Group
group first count rest = record { first = first; count = count + 1 } ∷ grouped rest

pub returns-then-not-is_next-clause-group : goal.returns-then-not-is_next-clause-group
returns-then-not-is_next-clause-group c =
    let first = c.args.first in
    let ids = c.args.ids.now in
    let i = c.loop-id.id-index in
    let last = c.loop-id.last in
    let inv = c.loop-id.invariant in
    let next = get_or ids i root_id in
    let split : drop i ids ≡ next ∷ drop (i + 1) ids = drop_more ids i root_id c.loop-id-test.true in
    ends_before first ids i last next (drop (i + 1) ids) (sym c.is_next.ensures ∙ c.if-not-is_next.true) (subst (GoesOn first ids i last) split inv.goes_on)
    ∙ ap (group first i) (sym split) ∙ ap (λ (k : ℕ). group first k (drop k ids)) (sym inv.count)

pub loop-id-preserved : goal.loop-id-preserved
loop-id-preserved c =
    let first = c.args.first in
    let ids = c.args.ids.now in
    let i = c.loop-id.id-index in
    let last = c.loop-id.last in
    let inv = c.loop-id.invariant in
    let next = get_or ids i root_id in
    let split : drop i ids ≡ next ∷ drop (i + 1) ids = drop_more ids i root_id c.loop-id-test.true in
    record {
      count = ap (λ (k : ℕ). k + 1) inv.count;
      goes_on = goes_on first ids i (i + 1) last next (drop (i + 1) ids) (sym c.is_next.ensures ∙ c.if-not-is_next.false) refl (subst (GoesOn first ids i last) split inv.goes_on);
    }

pub returns-clause-group : goal.returns-clause-group
returns-clause-group c =
    let first = c.args.first in
    let ids = c.args.ids.now in
    let i = c.loop-id.id-index in
    let last = c.loop-id.last in
    let inv = c.loop-id.invariant in
    let none : drop i ids ≡ [] = drop_all i ids c.loop-id-test.false in
    ends_all first ids i last (subst (GoesOn first ids i last) none inv.goes_on) ∙ ap (group first i) (sym none) ∙ ap (λ (k : ℕ). group first k (drop k ids)) (sym inv.count)
