use Rattle.std.proofs.Common.{◌≡◌, List, [], length, sym, ap, subst, ◌∙◌, arith}
use Rattle.std.specs.List.{AllByRecursion}
use Rattle.model.specs.Base.{base_of}
use Rattle.model.specs.Change.{Change, EachAfter, IsChange}
use Rattle.model.specs.File.{IsNextName}
use Rattle.model.specs.Settle.{Report, Settling, begun, rest, settle}
use Rattle.model_laws.proofs.ListLaws.{all_more}
use Rattle.causal_inbox.specs.Counted.{counted}
use Rattle.member_replica.specs.Receiving.{IsSettled, IsSoFar, reading}
use Rattle.member_replica.specs.Reports.{report_of}
use Rattle.member_replica.proofs.SettleLaws.{as_many, are_pooled, few_begun}
use Rattle.member_replica.proofs.JudgeLaws.{begins_judging, settled_so, settled_work, if_ok}
use Rattle.member_replica.proofs.settle.settle.Goals as goal

pub new-requires-clause-few : goal.new-requires-clause-few
new-requires-clause-few c = omega (arith, ap (λ (cs : List Change). length cs) c.in_ok-copied.ensures, c.requires.1.few)

pub new-requires-clause-members : goal.new-requires-clause-members
new-requires-clause-members c =
    let n = c.requires.0 in
    let m = c.requires.1 in
    let held = c.counts-held.result in
    let many = as_many n (reading n c.args.kept.now) held (c.counts-held.ensures n (base_of n [] 0) c.args.kept.now m.holds) in
    subst (AllByRecursion (λ d. length d.causes ≡ length held)) (sym c.in_ok-copied.ensures) (all_more (IsChange n) (λ d. length d.causes ≡ length held) (λ d is. is.causes_each ∙ sym many) c.args.waiting.now m.waiting)

pub new-requires-clause-rise : goal.new-requires-clause-rise
new-requires-clause-rise c = subst (EachAfter IsNextName []) (sym c.in_ok-copied.ensures) c.requires.1.by_name

pub offer_all-requires-clause-offered : goal.offer_all-requires-clause-offered
offer_all-requires-clause-offered c =
    let n = c.requires.0 in
    let m = c.requires.1 in
    let many = as_many n (reading n c.args.kept.now) c.counts-held.result (c.counts-held.ensures n (base_of n [] 0) c.args.kept.now m.holds) in
    subst (λ k. AllByRecursion (IsChange k) c.args.offered.now) (sym (c.in_ok-inbox.ensures.members ∙ many)) m.offered

pub offer_all-requires-clause-few : goal.offer_all-requires-clause-few
offer_all-requires-clause-few c =
    let told = c.begun-report.ensures in
    let known = c.in_ok-inbox.ensures.known ∙ ap (λ (cs : List Change). (begun (counted c.counts-held.result) [] cs).report.known) c.in_ok-copied.ensures in
    omega (arith, ap (λ (r : Report). r.known) told, ap (λ (r : Report). r.same) told, few_begun (counted c.counts-held.result) c.args.waiting.now c.in_ok-inbox.known known, c.requires.1.few)

pub of-requires : goal.of-requires
of-requires c = c.requires.1.sound.in_order

pub offer_all-requires-clause-compares : goal.offer_all-requires-clause-compares
offer_all-requires-clause-compares c = c.in_ok-inbox.ensures.compares c.args.kept.now

pub judge_all-requires-clause-judging : goal.judge_all-requires-clause-judging
judge_all-requires-clause-judging c =
    let n = c.requires.0 in
    let m = c.requires.1 in
    let kept = c.args.kept.now in
    let waiting = c.args.waiting.now in
    let held = c.counts-held.result in
    let copy = c.in_ok-copied.ensures in
    let e = c.counts-held.ensures n (base_of n [] 0) kept m.holds in
    let p = are_pooled n kept waiting c.args.offered.now held c.in_ok-inbox.inbox.pool c.offer_all.new.inbox.pool c.in_ok-inbox.known (report_of c.begun-report.result) (report_of c.offer_all.new.report) e m.waiting m.offered m.by_name
    (c.in_ok-inbox.ensures.pool ∙ ap (λ (cs : List Change). (begun (counted held) [] cs).pool) copy) (c.in_ok-inbox.ensures.known ∙ ap (λ (cs : List Change). (begun (counted held) [] cs).report.known) copy) c.begun-report.ensures
    c.in_ok-offer_all.ensures.offers in
    let members = c.in_ok-offer_all.ensures.members ∙ c.in_ok-inbox.ensures.members ∙ as_many n (reading n kept) held e in
    begins_judging n kept waiting c.args.offered.now (record { holding = c.args.holding; ledger = c.in_ok-ledger.ledger; inbox = c.offer_all.new.inbox; report = c.offer_all.new.report }) m members c.in_ok-ledger.ensures p

pub judge_all-requires-clause-few : goal.judge_all-requires-clause-few
judge_all-requires-clause-few c =
    let n = c.requires.0 in
    let m = c.requires.1 in
    let kept = c.args.kept.now in
    let waiting = c.args.waiting.now in
    let held = c.counts-held.result in
    let copy = c.in_ok-copied.ensures in
    let e = c.counts-held.ensures n (base_of n [] 0) kept m.holds in
    let p = are_pooled n kept waiting c.args.offered.now held c.in_ok-inbox.inbox.pool c.offer_all.new.inbox.pool c.in_ok-inbox.known (report_of c.begun-report.result) (report_of c.offer_all.new.report) e m.waiting m.offered m.by_name
    (c.in_ok-inbox.ensures.pool ∙ ap (λ (cs : List Change). (begun (counted held) [] cs).pool) copy) (c.in_ok-inbox.ensures.known ∙ ap (λ (cs : List Change). (begun (counted held) [] cs).report.known) copy) c.begun-report.ensures
    c.in_ok-offer_all.ensures.offers in
    omega (arith, p.accepted, p.few, m.few)

pub returns-clause-settled : goal.returns-clause-settled
returns-clause-settled c n m =
    let kept = c.args.kept.now in
    let waiting = c.args.waiting.now in
    let held = c.counts-held.result in
    let copy = c.in_ok-copied.ensures in
    let e = c.counts-held.ensures n (base_of n [] 0) kept m.holds in
    let p = are_pooled n kept waiting c.args.offered.now held c.in_ok-inbox.inbox.pool c.offer_all.new.inbox.pool c.in_ok-inbox.known (report_of c.begun-report.result) (report_of c.offer_all.new.report) e m.waiting m.offered m.by_name
    (c.in_ok-inbox.ensures.pool ∙ ap (λ (cs : List Change). (begun (counted held) [] cs).pool) copy) (c.in_ok-inbox.ensures.known ∙ ap (λ (cs : List Change). (begun (counted held) [] cs).report.known) copy) c.begun-report.ensures
    c.in_ok-offer_all.ensures.offers in
    let members = c.in_ok-offer_all.ensures.members ∙ c.in_ok-inbox.ensures.members ∙ as_many n (reading n kept) held e in
    let j = c.in_ok-judge_all.field-0 in
    if_ok (λ r. (s : Settling) → IsSoFar j.ledger j.inbox.pool (report_of j.report) s → IsSettled (rest s) r) (IsSettled (settle n (reading n) kept kept waiting c.args.offered.now)) c.finish.result
    (λ r ends. settled_so n kept waiting c.args.offered.now (record { holding = c.args.holding; ledger = c.in_ok-ledger.ledger; inbox = c.offer_all.new.inbox; report = c.offer_all.new.report }) j r members c.in_ok-ledger.ensures p c.in_ok-judge_all.ensures.judged ends)
    c.finish.ensures

pub returns-in_err-judge_all-clause-tally : goal.returns-in_err-judge_all-clause-tally
returns-in_err-judge_all-clause-tally c = λ n m.
    let kept = c.args.kept.now in
    let waiting = c.args.waiting.now in
    let held = c.counts-held.result in
    let copy = c.in_ok-copied.ensures in
    let e = c.counts-held.ensures n (base_of n [] 0) kept m.holds in
    let p = are_pooled n kept waiting c.args.offered.now held c.in_ok-inbox.inbox.pool c.offer_all.new.inbox.pool c.in_ok-inbox.known (report_of c.begun-report.result) (report_of c.offer_all.new.report) e m.waiting m.offered m.by_name
    (c.in_ok-inbox.ensures.pool ∙ ap (λ (cs : List Change). (begun (counted held) [] cs).pool) copy) (c.in_ok-inbox.ensures.known ∙ ap (λ (cs : List Change). (begun (counted held) [] cs).report.known) copy) c.begun-report.ensures
    c.in_ok-offer_all.ensures.offers in
    let members = c.in_ok-offer_all.ensures.members ∙ c.in_ok-inbox.ensures.members ∙ as_many n (reading n kept) held e in
    settled_work n kept waiting c.args.offered.now (record { holding = c.args.holding; ledger = c.in_ok-ledger.ledger; inbox = c.offer_all.new.inbox; report = c.offer_all.new.report }) c.args.tally.now c.judge_all.new.tally members c.in_ok-ledger.ensures p c.judge_all.ensures.tally

pub returns-clause-tally : goal.returns-clause-tally
returns-clause-tally c = λ n m.
    let kept = c.args.kept.now in
    let waiting = c.args.waiting.now in
    let held = c.counts-held.result in
    let copy = c.in_ok-copied.ensures in
    let e = c.counts-held.ensures n (base_of n [] 0) kept m.holds in
    let p = are_pooled n kept waiting c.args.offered.now held c.in_ok-inbox.inbox.pool c.offer_all.new.inbox.pool c.in_ok-inbox.known (report_of c.begun-report.result) (report_of c.offer_all.new.report) e m.waiting m.offered m.by_name
    (c.in_ok-inbox.ensures.pool ∙ ap (λ (cs : List Change). (begun (counted held) [] cs).pool) copy) (c.in_ok-inbox.ensures.known ∙ ap (λ (cs : List Change). (begun (counted held) [] cs).report.known) copy) c.begun-report.ensures
    c.in_ok-offer_all.ensures.offers in
    let members = c.in_ok-offer_all.ensures.members ∙ c.in_ok-inbox.ensures.members ∙ as_many n (reading n kept) held e in
    settled_work n kept waiting c.args.offered.now (record { holding = c.args.holding; ledger = c.in_ok-ledger.ledger; inbox = c.offer_all.new.inbox; report = c.offer_all.new.report }) c.args.tally.now c.judge_all.new.tally members c.in_ok-ledger.ensures p c.judge_all.ensures.tally
