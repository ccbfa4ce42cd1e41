use Rattle.std.proofs.Common.{List, length, sym, ap, ◌∙◌, arith}
use Rattle.model.specs.Change.{Change}
use Rattle.model.specs.Settle.{Settling}
use Rattle.member_replica.specs.Reports.{report_of}
use Rattle.member_replica.proofs.SettleLaws.{few_wait, rests}
use Rattle.member_replica.proofs.settle.Judging.finish.Goals as goal

pub overflow_cast-report : goal.overflow_cast-report
overflow_cast-report c = omega (arith, c.len.ensures, few_wait c.args.self.inbox.pool c.in_ok-waiting.waiting c.in_ok-waiting.full c.in_ok-waiting.ensures)

pub returns : goal.returns
returns c s far =
    let j = c.args.self in
    let e = rests j.ledger j.inbox.pool (report_of j.report) s c.in_ok-waiting.waiting c.in_ok-waiting.full far c.in_ok-waiting.ensures in
    let pool = sym (ap (λ (t : Settling). t.pool) e) in
    record {
      kept = c.in_ok-into_shelf.ensures ∙ sym (ap (λ (t : Settling). t.held) e);
      waiting = pool;
      report = record { report = sym (ap (λ (t : Settling). t.report) e); waiting = c.len.ensures ∙ ap (λ (cs : List Change). length cs) pool };
    }
