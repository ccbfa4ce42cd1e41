use Rattle.std.proofs.Common.{ℕ, ◌<◌, List, below_more, slice_index, sym, ap, ◌∙◌, arith}
use Rattle.model.specs.Held.{forgets, forgotten, held_behind}
use Rattle.holding.proofs.FirstLaws.{first_at, first_none, is_forgotten, is_remembered}
use Rattle.holding.proofs.HoldLaws.{cause_read, known_read, many_causes, many_rows, within_rows}
use Rattle.holding.proofs.holding.Holding.forgotten_cause.Goals as goal

pub known-before-requires : goal.known-before-requires
known-before-requires c = let (n, b, kept, holds, is) = c.requires in within_rows c.args.self.now n b kept c.args.block.now c.head-head.result.now holds is c.head-head.ensures

pub get-cause-requires : goal.get-cause-requires
get-cause-requires c =
    let (n, b, kept, holds, is) = c.requires in
    omega (arith, c.loop-of-test.true, c.len-of-end.ensures.value, c.known-before.ensures.each, many_rows c.args.self.now n b kept holds, many_causes n c.args.block.now c.head-head.result.now is c.head-head.ensures)

pub loop-of-preserved : goal.loop-of-preserved
loop-of-preserved c = λ n b kept holds is.
    let k = c.loop-of.of in
    let change = c.args.block.now in
    let head = c.head-head.result.now in
    let cause = cause_read change head k c.get-cause.result c.head-head.ensures c.get-cause.ensures in
    let known = c.get-known.ensures ∙ ap (λ (ks : List ℕ). slice_index ks k) (known_read c.args.self.now n b kept change head c.known-before.result.now holds is c.head-head.ensures c.known-before.ensures.row) in
    below_more _ _ (c.loop-of.invariant n b kept holds is) (is_remembered (held_behind b kept) change k (omega (arith, cause, known, c.if-cause-known.false)))

pub returns-then-cause-known : goal.returns-then-cause-known
returns-then-cause-known c = λ n b kept holds is.
    let k = c.loop-of.of in
    let change = c.args.block.now in
    let head = c.head-head.result.now in
    let past = held_behind b kept in
    let lt : k < n = omega (arith, c.loop-of-test.true, c.len-of-end.ensures.value, c.known-before.ensures.each, many_rows c.args.self.now n b kept holds) in
    let cause = cause_read change head k c.get-cause.result c.head-head.ensures c.get-cause.ensures in
    let known = c.get-known.ensures ∙ ap (λ (ks : List ℕ). slice_index ks k) (known_read c.args.self.now n b kept change head c.known-before.result.now holds is c.head-head.ensures c.known-before.ensures.row) in
    sym (first_at (forgotten past change) n k (forgets k c.get-cause.result c.get-known.result) lt (c.loop-of.invariant n b kept holds is) (sym (is_forgotten past change k c.get-cause.result c.get-known.result cause known c.if-cause-known.true)))

pub returns : goal.returns
returns c = λ n b kept holds is.
    sym (first_none (forgotten (held_behind b kept) c.args.block.now) n
    (λ j lt. c.loop-of.invariant n b kept holds is j (omega (arith, c.loop-of-test.false, c.len-of-end.ensures.value, c.known-before.ensures.each, many_rows c.args.self.now n b kept holds))))
