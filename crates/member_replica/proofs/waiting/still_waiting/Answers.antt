use Rattle.std.proofs.Common.{◌++◌, ◌∷◌, [], Bool, length, sym, ap, ◌∙◌, arith}
use Rattle.std.specs.Prelude.{filter}
use Rattle.std.proofs.lemmas.List.{take_all}
use Rattle.model.specs.Change.{Change}
use Rattle.model.specs.Held.{waits}
use Rattle.causal_inbox.specs.Counted.{counted}
use Rattle.member_replica.proofs.WaitingLaws.{counts_of, filter_alike, filter_next, filter_skips}
use Rattle.member_replica.proofs.waiting.still_waiting.Goals.{then-waits+in_ok-push, else-waits}
use Rattle.member_replica.proofs.waiting.still_waiting.Goals as goal

pub waiting-preserved : goal.waiting-preserved
waiting-preserved c =
    let held = c.args.held.now in
    let p : Change → Bool = waits (length held) (counted held) in
    let d = c.at-block.result.now in
    elim c.if-waits.branch [
      | then-waits+in_ok-push w ↦
          w.still-is ∙ w.in_ok-push.ensures.ok ∙ (λ i. c.waiting.invariant i ++ w.copy.ensures i ∷ []) ∙ sym (filter_next p c.args.waiting.now c.waiting.i d c.at-block.ensures (sym c.waits.ensures ∙ w.if-waits.true))
      | else-waits w ↦ w.still-is ∙ c.waiting.invariant ∙ sym (filter_skips p c.args.waiting.now c.waiting.i d c.at-block.ensures (sym c.waits.ensures ∙ w.if-waits.false))
    ]

pub returns : goal.returns
returns c = λ past is.
    let held = c.args.held.now in
    let all = ap (filter (waits (length held) (counted held))) (take_all c.waiting.i c.args.waiting.now (omega (arith, c.waiting-test.false, c.len-i-end.ensures))) in
    c.waiting.invariant ∙ all ∙ filter_alike past held (counts_of past held is) c.args.waiting.now c.requires
