use Rattle.std.proofs.Common.{◌≡◌, ◌∙◌, ap, sym, refl, [], ◌∷◌, ◌++◌, map, append_assoc}
use Rattle.std.proofs.lemmas.List.{append-nil}
use Rattle.std.specs.declared.ops.Bound.TheVariants.{Included, Unbounded}
use Rattle.std.specs.BTreeSet.{keys_between}
use Rattle.fugue_tree.specs.declared.owned.OwnedChild.{OwnedChild}
use Rattle.fugue_tree.specs.declared.walking.Task.TheVariants.{Visit}
use Rattle.fugue_tree.specs.Trees.{owned_cmp}
use Rattle.fugue_tree.proofs.RangeLaws.{leading}
use Rattle.fugue_tree.proofs.OwnedLaws.{hangs_own, own_ids, own_leading, tested}
use Rattle.fugue_tree.proofs.owned.push_owned.Goals as goal
use Rattle.fugue_tree.proofs.owned.push_owned.Goals.{After-hangs}

test_is : (c : After-hangs) → hangs_own c.args.owner c.args.anchor c.args.side c.in-Some.child.now ≡ c.hangs.result
test_is c =
    let right = ap (λ (l : OwnedChild). l.child.is_right) c.owned_at-least.ensures in
    tested c.args.owner c.args.anchor c.args.side c.hangs.result c.in-Some.child.now
    (λ e. let p = c.hangs.ensures.0 e in (p.0, p.1, p.2 ∙ right))
    (λ p. c.hangs.ensures.1 (p.0, p.1, p.2 ∙ sym right))

pub loop-child-init : goal.loop-child-init
loop-child-init c =
    let owner = c.args.owner in
    let on = c.args.anchor in
    let side = c.args.side in
    let range =
    c.into_iter-child-iterator.ensures.into_iter_gives ∙ c.range-child-items.ensures.between tt ∙ ap (λ (l : OwnedChild). keys_between owned_cmp (Included l) Unbounded c.args.children.now) c.owned_at-least.ensures in
    ap (λ ids. c.args.stack.now.items ++ map Visit ids)
    (ap (λ cs. own_ids owner on side (leading (hangs_own owner on side) cs)) range ∙ own_leading owner on side c.args.children.now.keys c.range-child-items.ensures.ordered)

pub loop-child-preserved : goal.loop-child-preserved
loop-child-preserved c =
    let owner = c.args.owner in
    let on = c.args.anchor in
    let side = c.args.side in
    let test = test_is (goal.at.loop-child-preserved c).After-hangs ∙ c.if-not-hangs.false in
    let rest = leading (hangs_own owner on side) c.next.new.self in
    let stack = c.loop-child.stack.items in
    let led : leading (hangs_own owner on side) c.loop-child.child-iterator ≡ c.in-Some.child.now ∷ rest = ap (leading (hangs_own owner on side)) c.in-Some.ensures.steps ∙ rw test refl in
    ap (λ ts. ts ++ map Visit (own_ids owner on side rest)) c.in_ok-push.ensures.items ∙ append_assoc stack (Visit c.in-Some.child.now.child.id ∷ []) (map Visit (own_ids owner on side rest))
    ∙ ap (λ cs. stack ++ map Visit (own_ids owner on side cs)) (sym led) ∙ c.loop-child.invariant

pub returns-then-not-hangs-clause-ok : goal.returns-then-not-hangs-clause-ok
returns-then-not-hangs-clause-ok c =
    let owner = c.args.owner in
    let on = c.args.anchor in
    let side = c.args.side in
    let test = test_is (goal.at.returns-then-not-hangs-clause-ok c).After-hangs ∙ c.if-not-hangs.true in
    let stack = c.loop-child.stack.items in
    let led : leading (hangs_own owner on side) c.loop-child.child-iterator ≡ [] = ap (leading (hangs_own owner on side)) c.in-Some.ensures.steps ∙ rw test refl in
    sym (append-nil stack) ∙ ap (λ cs. stack ++ map Visit (own_ids owner on side cs)) (sym led) ∙ c.loop-child.invariant
