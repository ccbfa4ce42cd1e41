use Rattle.std.proofs.Common.{◌≡◌, ◌<◌, None, below_more, slice_index, sym, ap, arith}
use Rattle.model.specs.Held.{before_cause, held_behind, late_cause}
use Rattle.op_grammar.specs.declared.head.Head.{Head}
use Rattle.holding.proofs.FirstLaws.{first_at, first_none, has_no_cause, is_earlier, is_not_earlier}
use Rattle.holding.proofs.HoldLaws.{cause_read, many_causes, many_rows, time_read, within_times}
use Rattle.holding.proofs.holding.Holding.late_cause.Goals.{else-cause-gt0-via-then-cause-gt0+else-cause_time-time, else-cause-gt0-via-else-cause-gt0}
use Rattle.holding.proofs.holding.Holding.late_cause.Goals as goal

pub time_of-cause_time-requires-clause-row : goal.time_of-cause_time-requires-clause-row
time_of-cause_time-requires-clause-row c =
    let (n, b, kept, holds, is) = c.requires in
    omega (arith, c.loop-of-test.true, c.len-of-end.ensures.value, many_rows c.args.self.now n b kept holds, many_causes n c.args.block.now c.head-head.result.now is c.head-head.ensures)

pub time_of-cause_time-requires-clause-times : goal.time_of-cause_time-requires-clause-times
time_of-cause_time-requires-clause-times c =
    let (n, b, kept, holds, is) = c.requires in
    within_times c.args.self.now n b kept c.loop-of.of holds (omega (arith, c.loop-of-test.true, c.len-of-end.ensures.value, many_causes n c.args.block.now c.head-head.result.now is c.head-head.ensures))

pub loop-of-preserved : goal.loop-of-preserved
loop-of-preserved c = λ n b kept holds is.
    let k = c.loop-of.of in
    let change = c.args.block.now in
    let head = c.head-head.result.now in
    let past = held_behind b kept in
    let lt : k < n = omega (arith, c.loop-of-test.true, c.len-of-end.ensures.value, many_causes n change head is c.head-head.ensures) in
    let cause = cause_read change head k c.get-cause.result c.head-head.ensures c.get-cause.ensures in
    let found = time_read c.args.self.now n b kept change k c.get-cause.result c.time_of-cause_time.result holds lt cause c.time_of-cause_time.ensures in
    let time = ap (λ (x : Head). x.time) c.head-head.ensures in
    let none : late_cause past change k ≡ None =
    elim c.else-cause-gt0.branch [
      | else-cause-gt0-via-then-cause-gt0+else-cause_time-time w ↦ is_earlier past change k (omega (arith, w.if-cause-gt0.true, cause)) (omega (arith, w.if-cause_time-time.false, found, time))
      | else-cause-gt0-via-else-cause-gt0 w ↦ has_no_cause past change k (omega (arith, w.if-cause-gt0.false, cause))
    ] in
    below_more _ _ (c.loop-of.invariant n b kept holds is) none

pub returns-then-cause_time-time : goal.returns-then-cause_time-time
returns-then-cause_time-time c = λ n b kept holds is.
    let k = c.loop-of.of in
    let change = c.args.block.now in
    let head = c.head-head.result.now in
    let past = held_behind b kept in
    let found = c.time_of-cause_time.result in
    let lt : k < n = omega (arith, c.loop-of-test.true, c.len-of-end.ensures.value, many_causes n change head is c.head-head.ensures) in
    let cause = cause_read change head k c.get-cause.result c.head-head.ensures c.get-cause.ensures in
    let cause_time = time_read c.args.self.now n b kept change k c.get-cause.result found holds lt cause c.time_of-cause_time.ensures in
    let time = ap (λ (x : Head). x.time) c.head-head.ensures in
    let some : 0 < slice_index change.causes k = omega (arith, c.if-cause-gt0.true, cause) in
    sym (first_at (late_cause past change) n k (before_cause k found head.time) lt (c.loop-of.invariant n b kept holds is) (sym (is_not_earlier past change k found head.time cause_time time some c.if-cause_time-time.true)))

pub returns : goal.returns
returns c = λ n b kept holds is.
    sym (first_none (late_cause (held_behind b kept) c.args.block.now) n
    (λ j lt. c.loop-of.invariant n b kept holds is j (omega (arith, c.loop-of-test.false, c.len-of-end.ensures.value, many_causes n c.args.block.now c.head-head.result.now is c.head-head.ensures))))
