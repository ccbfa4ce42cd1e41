use Rattle.std.proofs.Common.{◌≡◌, ◌≤◌, ◌+◌, List, take}
use Rattle.std.specs.Prelude.{fold}
use Rattle.model.specs.Change.{Change}
use Rattle.model.specs.Settle.{Settling, offered_one}
use Rattle.causal_inbox.specs.Counted.{counted}
use Rattle.causal_inbox.specs.Offers.{Compares}
use Rattle.member_replica.specs.Receiving.{IsSoFar}
use Rattle.member_replica.specs.Reports.{report_of}
use Rattle.member_replica.proofs.settle.offer_all.Given as goal

abbrev pub invariant-loop-i : goal.invariant-loop-i
invariant-loop-i l = record {
  members : l.inbox.members ≡ l.initial.inbox.members;
  compares : Compares l.inbox l.kept;
  few : l.report.known + l.report.same ≤ l.initial.report.known + l.initial.report.same + l.i;
  offers : (h : List Change) (s : Settling) → IsSoFar h l.initial.inbox.pool (report_of l.initial.report) s → IsSoFar h l.inbox.pool (report_of l.report) (fold (offered_one (counted l.held) l.kept) s (take l.i l.offered));
}
