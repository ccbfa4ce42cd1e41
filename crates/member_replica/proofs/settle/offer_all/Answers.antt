use Rattle.std.proofs.Common.{◌≡◌, List, length, subst, ◌∙◌, arith}
use Rattle.std.specs.Prelude.{fold}
use Rattle.std.proofs.lemmas.List.{take_all}
use Rattle.model.specs.Change.{Change}
use Rattle.model.specs.Settle.{offered_one}
use Rattle.causal_inbox.specs.Counted.{counted}
use Rattle.member_replica.specs.Receiving.{IsSoFar}
use Rattle.member_replica.specs.Reports.{report_of}
use Rattle.member_replica.proofs.SettleLaws.{offers_more}
use Rattle.member_replica.proofs.settle.offer_all.Goals as goal

pub loop-i-preserved : goal.loop-i-preserved
loop-i-preserved c =
    let inv = c.loop-i.invariant in
    record {
      members = c.in_ok-told.ensures.members ∙ inv.members;
      compares = c.in_ok-told.ensures.compares;
      few = omega (arith, inv.few, c.in_ok-tell.ensures.few);
      offers = λ h s far.
          offers_more (counted c.args.held.now) c.args.kept.now h c.loop-i.inbox.pool (report_of c.loop-i.report) s c.args.offered.now c.loop-i.i c.at-block.result.now c.copy.result c.in_ok-told.told
          c.offer.new.self.pool (report_of c.tell.new.report) (inv.offers h s far) c.at-block.ensures c.copy.ensures c.in_ok-told.ensures.ok c.in_ok-told.ensures.pool c.in_ok-tell.ensures.told;
    }

pub returns-clause-offers : goal.returns-clause-offers
returns-clause-offers c h s far =
    let offered = c.args.offered.now in
    let all : c.loop-i.i ≡ length offered = omega (arith, c.len-i-end.ensures, c.loop-i-test.false) in
    subst (λ (cs : List Change). IsSoFar h c.loop-i.inbox.pool (report_of c.loop-i.report) (fold (offered_one (counted c.args.held.now) c.args.kept.now) s cs)) (take_all c.loop-i.i offered (omega arith)) (c.loop-i.invariant.offers h s far)
