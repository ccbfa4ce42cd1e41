use Rattle.std.proofs.Common.{◌≡◌, ◌∙◌, ap, sym, subst, true, false}
use Rattle.std.specs.declared.ops.Bound.TheVariants.{Included, Unbounded}
use Rattle.std.specs.BTreeSet.{IsKeyRangeOf}
use Rattle.fugue_tree.specs.declared.owned.OwnedChild.{OwnedChild}
use Rattle.fugue_tree.specs.Trees.{owned_cmp}
use Rattle.fugue_tree.proofs.OwnedLaws.{own_found, own_other, own_none}
use Rattle.fugue_tree.proofs.owned.first_owned.Goals as goal

pub returns-then-hangs : goal.returns-then-hangs
returns-then-hangs c =
    let h = subst (λ (l : OwnedChild). IsKeyRangeOf owned_cmp (Included l) Unbounded c.args.children.now c.range.result) c.owned_at-least.ensures (c.range.ensures.in_range tt) in
    let right = ap (λ (l : OwnedChild). l.child.is_right) c.owned_at-least.ensures in
    let found = c.hangs.ensures.0 c.if-hangs.true in
    own_found c.args.owner c.args.anchor c.args.side c.args.children.now c.range.result h c.in-Some.child.now _ c.in-Some.ensures.steps (found.0, found.1, found.2 ∙ right)

pub returns-else-hangs : goal.returns-else-hangs
returns-else-hangs c =
    let h = subst (λ (l : OwnedChild). IsKeyRangeOf owned_cmp (Included l) Unbounded c.args.children.now c.range.result) c.owned_at-least.ensures (c.range.ensures.in_range tt) in
    let right = ap (λ (l : OwnedChild). l.child.is_right) c.owned_at-least.ensures in
    own_other c.args.owner c.args.anchor c.args.side c.args.children.now c.range.result h c.in-Some.child.now _ c.in-Some.ensures.steps
    (λ t. let both : true ≡ false = sym (c.hangs.ensures.1 (t.0, t.1, t.2 ∙ sym right)) ∙ c.if-hangs.false in cc)

pub returns-in-None : goal.returns-in-None
returns-in-None c =
    let h = subst (λ (l : OwnedChild). IsKeyRangeOf owned_cmp (Included l) Unbounded c.args.children.now c.range.result) c.owned_at-least.ensures (c.range.ensures.in_range tt) in
    own_none c.args.owner c.args.anchor c.args.side c.args.children.now c.range.result h c.in-None.ensures.steps.0
