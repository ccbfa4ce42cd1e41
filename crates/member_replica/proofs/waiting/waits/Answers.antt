use Rattle.std.proofs.Common.{◌≡◌, ◌+◌, slice_index, sym, ap, subst, ◌∙◌, arith}
use Rattle.version_vector.specs.Counts.{AtLeast}
use Rattle.op_grammar.specs.declared.head.Head.{Head}
use Rattle.causal_inbox.proofs.ReadyLaws.{causes_held, causes_lack}
use Rattle.member_replica.proofs.WaitingLaws.{waits_by_causes}
use Rattle.member_replica.proofs.waiting.waits.Goals as goal

pub returns-else-head-count-2 : goal.returns-else-head-count-2
returns-else-head-count-2 c =
    let held = c.args.held.now in
    let block = c.args.block.now in
    let number = ap (λ (h : Head). h.number) c.head-head.ensures in
    let count = c.get-count.ensures ∙ ap (λ (h : Head). slice_index held h.member) c.head-head.ensures in
    let causes = ap (λ (h : Head). h.causes) c.head-head.ensures in
    let next : block.number ≡ slice_index held block.member + 1 = omega (arith, c.if-head-count.false, c.if-head-count-2.false, number, count) in
    sym
    (waits_by_causes held block c.at_least.result next
    (λ t. causes_held held block c.requires.causes_each (subst (AtLeast held) causes (c.at_least.ensures.0 t)))
    (λ f. causes_lack held block c.requires.causes_each (λ h. let t = c.at_least.ensures.1 (subst (AtLeast held) (sym causes) h) in cc (t, f))))
