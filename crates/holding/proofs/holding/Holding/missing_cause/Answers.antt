use Rattle.std.proofs.Common.{◌<◌, below_more, sym, arith}
use Rattle.model.specs.Held.{held_behind, lacks_cause, missing_cause}
use Rattle.holding.proofs.FirstLaws.{first_at, first_none, is_held, is_missing}
use Rattle.holding.proofs.HoldLaws.{cause_read, count_read, many_causes, many_rows}
use Rattle.holding.proofs.holding.Holding.missing_cause.Goals as goal

pub get-cause-requires : goal.get-cause-requires
get-cause-requires c =
    let (n, b, kept, holds, is) = c.requires in
    omega (arith, c.loop-of-test.true, c.len-of-end.ensures.value, many_rows c.args.self.now n b kept holds, many_causes n c.args.block.now c.head-head.result.now is c.head-head.ensures)

pub loop-of-preserved : goal.loop-of-preserved
loop-of-preserved c = λ n b kept holds is.
    let k = c.loop-of.of in
    let change = c.args.block.now in
    let cause = cause_read change c.head-head.result.now k c.get-cause.result c.head-head.ensures c.get-cause.ensures in
    let lt : k < n = omega (arith, c.loop-of-test.true, c.len-of-end.ensures.value, many_rows c.args.self.now n b kept holds) in
    let held = count_read c.args.self.now n b kept k c.count-held.result holds lt c.count-held.ensures in
    below_more _ _ (c.loop-of.invariant n b kept holds is) (is_held (held_behind b kept) change k (omega (arith, cause, held, c.if-held-cause.false)))

pub returns-then-held-cause : goal.returns-then-held-cause
returns-then-held-cause c = λ n b kept holds is.
    let k = c.loop-of.of in
    let change = c.args.block.now in
    let past = held_behind b kept in
    let cause = cause_read change c.head-head.result.now k c.get-cause.result c.head-head.ensures c.get-cause.ensures in
    let lt : k < n = omega (arith, c.loop-of-test.true, c.len-of-end.ensures.value, many_rows c.args.self.now n b kept holds) in
    let held = count_read c.args.self.now n b kept k c.count-held.result holds lt c.count-held.ensures in
    sym (first_at (missing_cause past change) n k (lacks_cause k c.get-cause.result c.count-held.result) lt (c.loop-of.invariant n b kept holds is) (sym (is_missing past change k c.get-cause.result c.count-held.result cause held c.if-held-cause.true)))

pub returns : goal.returns
returns c = λ n b kept holds is.
    let many = many_rows c.args.self.now n b kept holds in
    sym (first_none (missing_cause (held_behind b kept) c.args.block.now) n (λ j lt. c.loop-of.invariant n b kept holds is j (omega (arith, c.loop-of-test.false, c.len-of-end.ensures.value, many))))
