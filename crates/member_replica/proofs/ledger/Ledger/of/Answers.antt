use Rattle.std.proofs.Common.{◌≡◌, List, length, ap, ◌∙◌, arith}
use Rattle.std.proofs.lemmas.List.{take_all}
use Rattle.model.specs.Change.{Change}
use Rattle.model.specs.Ledger.{add}
use Rattle.member_replica.proofs.LedgerLaws.{added_next}
use Rattle.member_replica.proofs.ledger.Ledger.of.Goals as goal

pub loop-i-preserved : goal.loop-i-preserved
loop-i-preserved c =
    let block = c.at.result.now in
    c.in_ok-add.ensures.ok ∙ ap (add c.loop-i.ledger) c.copy.ensures ∙ ap (λ (cs : List Change). add cs block) c.loop-i.invariant ∙ added_next c.args.kept.now c.loop-i.i block c.requires c.at.ensures

pub returns : goal.returns
returns c =
    let kept = c.args.kept.now in
    let all : c.loop-i.i ≡ length kept = omega (arith, c.len-i-end.ensures) in
    c.loop-i.invariant ∙ take_all c.loop-i.i kept (omega arith)
