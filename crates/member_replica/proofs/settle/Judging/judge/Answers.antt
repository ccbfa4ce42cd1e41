use Rattle.std.proofs.Common.{[], length, refl, sym, ap, ◌∙◌}
use Rattle.std.specs.Option.{option_map}
use Rattle.model.specs.Base.{base_of}
use Rattle.replica.specs.FaultText.{misfit_of}
use Rattle.member_replica.specs.Reports.{report_of}
use Rattle.member_replica.proofs.JudgeLaws.{may_join, joined_judging, accepted, refused, refused_more}
use Rattle.member_replica.proofs.WorkLaws.{decodes_joined, decodes_twice}
use Rattle.member_replica.proofs.settle.Judging.judge.Goals as goal

pub join-requires : goal.join-requires
join-requires c =
    let j = c.args.self in
    let n = j.inbox.members in
    let b = base_of n [] 0 in
    let none = sym (ap (option_map misfit_of) c.in-None.is) ∙ c.in_ok-misfit.ensures.first n b j.ledger c.requires.judging.holds c.requires.block in
    (n, b, j.ledger, c.requires.judging.holds, may_join j c.args.block c.requires.judging c.requires.block c.requires.ready none)

pub returns-in-None-clause-judging : goal.returns-in-None-clause-judging
returns-in-None-clause-judging c =
    let j = c.args.self in
    let n = j.inbox.members in
    let b = base_of n [] 0 in
    let none = sym (ap (option_map misfit_of) c.in-None.is) ∙ c.in_ok-misfit.ensures.first n b j.ledger c.requires.judging.holds c.requires.block in
    let may = may_join j c.args.block c.requires.judging c.requires.block c.requires.ready none in
    joined_judging j c.args.block c.requires.judging c.requires.block c.requires.ready c.in_ok-holding-in-None.holding c.add.new.self _ none
    (c.in_ok-holding-in-None.ensures.joins n b j.ledger c.requires.judging.holds may) c.in_ok-add-in-None.ensures.ok

pub returns-in-None-clause-judged : goal.returns-in-None-clause-judged
returns-in-None-clause-judged c pool =
    let j = c.args.self in
    let n = j.inbox.members in
    let b = base_of n [] 0 in
    let none = sym (ap (option_map misfit_of) c.in-None.is) ∙ c.in_ok-misfit.ensures.first n b j.ledger c.requires.judging.holds c.requires.block in
    accepted j c.args.block c.requires.judging c.requires.block c.requires.ready c.add.new.self _ pool none c.in_ok-add-in-None.ensures.ok refl

pub returns-clause-judged : goal.returns-clause-judged
returns-clause-judged c pool =
    let j = c.args.self in
    let n = j.inbox.members in
    let b = base_of n [] 0 in
    let some = sym (ap (option_map misfit_of) c.in-Some.is) ∙ c.in_ok-misfit.ensures.first n b j.ledger c.requires.judging.holds c.requires.block in
    let more = c.in_ok-push-in-Some.ensures.items in
    refused j c.args.block c.requires.judging c.requires.block c.requires.ready c.in-Some.misfit _ pool some
    (λ i. record (report_of j.report) { refused = refused_more j.report.refused.items c.refusal.result c.push.new.self.items _ more c.refusal.ensures i })

pub returns-in_err-holding-in-None-clause-tally : goal.returns-in_err-holding-in-None-clause-tally
returns-in_err-holding-in-None-clause-tally c =
    decodes_twice c.args.tally.now c.misfit.new.tally c.join.new.tally (length c.args.block.operations) c.in_ok-misfit.ensures.tally (decodes_joined c.misfit.new.tally c.join.new.tally c.args.block c.join.result c.join.ensures.decoded c.join.ensures.moves)

pub returns-in_err-add-in-None-clause-tally : goal.returns-in_err-add-in-None-clause-tally
returns-in_err-add-in-None-clause-tally c =
    decodes_twice c.args.tally.now c.misfit.new.tally c.join.new.tally (length c.args.block.operations) c.in_ok-misfit.ensures.tally (decodes_joined c.misfit.new.tally c.join.new.tally c.args.block c.join.result c.join.ensures.decoded c.join.ensures.moves)

pub returns-in-None-clause-tally : goal.returns-in-None-clause-tally
returns-in-None-clause-tally c =
    decodes_twice c.args.tally.now c.misfit.new.tally c.join.new.tally (length c.args.block.operations) c.in_ok-misfit.ensures.tally (decodes_joined c.misfit.new.tally c.join.new.tally c.args.block c.join.result c.join.ensures.decoded c.join.ensures.moves)
