use Rattle.std.proofs.Common.{◌≡◌, ◌∙◌, ap, sym, subst, true, false}
use Rattle.std.specs.declared.ops.Bound.TheVariants.{Included, Unbounded}
use Rattle.std.specs.BTreeSet.{IsKeyRangeOf}
use Rattle.op_ids.specs.declared.Stamp.{Stamp}
use Rattle.op_ids.specs.Order.{stamp_eq, stamp_of}
use Rattle.op_ids.proofs.OrderLaws.{stamp_eq-exact, stamp_eq-itself}
use Rattle.fugue_tree.specs.declared.children.Child.{Child}
use Rattle.fugue_tree.specs.Tree.{child_cmp}
use Rattle.fugue_text.proofs.PieceLaws.{bare_none, bare_other, bare_same}
use Rattle.fugue_text.proofs.pieces.bare_rows.Goals as goal

pub returns-in_err-child : goal.returns-in_err-child
returns-in_err-child c =
    let h = subst (λ (l : Child). IsKeyRangeOf child_cmp (Included l) Unbounded c.args.children.now c.range.result) c.child_at.ensures (c.range.ensures.in_range tt) in
    rw c.from_residual.ensures (bare_none c.args.children.now c.range.result c.args.id h c.in_err-child.ensures.steps.0)

pub returns-then-eq : goal.returns-then-eq
returns-then-eq c =
    let h = subst (λ (l : Child). IsKeyRangeOf child_cmp (Included l) Unbounded c.args.children.now c.range.result) c.child_at.ensures (c.range.ensures.in_range tt) in
    let same : stamp_of c.in_ok-child.child.now.anchor ≡ stamp_of c.args.id = sym c.stamp.ensures ∙ stamp_eq-exact c.stamp.result c.stamp-2.result (sym c.eq.ensures ∙ c.if-eq.true) ∙ c.stamp-2.ensures in
    bare_same c.args.children.now c.range.result c.args.id h c.in_ok-child.child.now _ c.in_ok-child.ensures.steps same

pub returns-else-eq : goal.returns-else-eq
returns-else-eq c =
    let h = subst (λ (l : Child). IsKeyRangeOf child_cmp (Included l) Unbounded c.args.children.now c.range.result) c.child_at.ensures (c.range.ensures.in_range tt) in
    bare_other c.args.children.now c.range.result c.args.id h c.in_ok-child.child.now _ c.in_ok-child.ensures.steps
    (λ e.
    let same : c.stamp.result ≡ c.stamp-2.result = c.stamp.ensures ∙ e ∙ sym c.stamp-2.ensures in
    let no : true ≡ false = sym (ap (λ (s : Stamp). stamp_eq s c.stamp-2.result) same ∙ stamp_eq-itself c.stamp-2.result) ∙ sym c.eq.ensures ∙ c.if-eq.false in
    absurd (let d : true ≡ false = no in cc))
