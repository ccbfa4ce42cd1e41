use Rattle.std.proofs.Common.{◌≡◌, ◌<◌, ◌≤◌, ◌+◌, ◌*◌, ◌^◌, ℕ, List, length}
use Rattle.model.specs.Change.{Change}
use Rattle.model.specs.Settle.{Settling}
use Rattle.doc_store.specs.Documents.{DecodesSome}
use Rattle.member_replica.specs.Work.{operations_in}
use Rattle.member_replica.specs.Receiving.{IsJudging, IsSoFar}
use Rattle.member_replica.specs.Reports.{report_of}
use Rattle.member_replica.proofs.SettleLaws.{Goes}
use Rattle.member_replica.proofs.settle.Judging.judge_all.Given as goal

abbrev pub invariant-loop-block : goal.invariant-loop-block
invariant-loop-block l = record {
  judging : IsJudging l.judging;
  members : l.judging.inbox.members ≡ l.initial.judging.inbox.members;
  few : l.judging.report.accepted + length l.judging.inbox.pool < 2 ^ 32;
  goes : (turns : ℕ) (s : Settling) → IsSoFar l.initial.judging.ledger l.initial.judging.inbox.pool (report_of l.initial.judging.report) s → length s.pool ≤ turns
      → (read : List Change) × Goes l.initial.judging.inbox.members turns s l.judging.ledger l.judging.inbox.pool (report_of l.judging.report) read
      × DecodesSome l.initial.tally l.tally (2 * operations_in read);
}

abbrev pub decreases-loop-block : goal.decreases-loop-block
decreases-loop-block l = length l.judging.inbox.pool
