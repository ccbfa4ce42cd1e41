use Rattle.std.proofs.Common.{◌≡◌, ◌≤◌, length, take, not}
use Rattle.std.specs.Prelude.{filter, count_by}
use Rattle.std.specs.List.{AllByRecursion}
use Rattle.model.specs.Change.{IsChange}
use Rattle.model.specs.Held.{is_known}
use Rattle.causal_inbox.specs.Counted.{counted}
use Rattle.causal_inbox.proofs.inbox.Inbox.new.Given as goal

abbrev pub invariant-loop-i : goal.invariant-loop-i
invariant-loop-i l = record {
  pool : l.pool ≡ filter (λ c. not (is_known (counted l.held) c)) (take l.i l.fn.waiting);
  known : l.known ≡ count_by (is_known (counted l.held)) (take l.i l.fn.waiting);
  few : l.known ≤ l.i;
  changes : AllByRecursion (IsChange (length l.held)) l.pool;
}
