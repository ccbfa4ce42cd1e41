use Rattle.std.proofs.Common.{[], ◌∙◌}
use Rattle.model.specs.Base.{base_of}
use Rattle.member_replica.specs.Receiving.{reading}
use Rattle.member_replica.proofs.SettleLaws.{as_many, ready_by_counts}
use Rattle.member_replica.proofs.JudgeLaws.{taken_judging}
use Rattle.member_replica.proofs.settle.Judging.next_ready.Goals as goal

pub next_ready-requires : goal.next_ready-requires
next_ready-requires c =
    let j = c.args.self.now in
    let n = j.inbox.members in
    as_many n (reading n j.ledger) c.counts-held.result (c.counts-held.ensures n (base_of n [] 0) j.ledger c.requires.holds)

pub returns-clause-judging : goal.returns-clause-judging
returns-clause-judging c = taken_judging c.args.self.now c.next_ready.new.self c.next_ready.result c.requires c.next_ready.ensures.members c.next_ready.ensures.pool

pub returns-clause-least : goal.returns-clause-least
returns-clause-least c =
    let j = c.args.self.now in
    let n = j.inbox.members in
    c.next_ready.ensures.least ∙ ready_by_counts n (reading n j.ledger) c.counts-held.result (c.counts-held.ensures n (base_of n [] 0) j.ledger c.requires.holds) j.inbox.pool c.requires.pooled
