use Rattle.std.proofs.Common.{List, sym, ap, arith}
use Rattle.std.specs.Prelude.{slice_get}
use Rattle.model.specs.Held.{Misfit, held_behind}
use Rattle.op_grammar.specs.declared.head.Head.{Head}
use Rattle.holding.proofs.FirstLaws.{is_late, is_later}
use Rattle.holding.proofs.HoldLaws.{last_read, within_rows}
use Rattle.holding.proofs.holding.Holding.late_time.Goals as goal

pub last-last-requires : goal.last-last-requires
last-last-requires c = let (n, b, kept, holds, is) = c.requires in within_rows c.args.self.now n b kept c.args.block.now c.head-head.result.now holds is c.head-head.ensures

pub returns-then-last-time : goal.returns-then-last-time
returns-then-last-time c = λ n b kept holds is.
    let change = c.args.block.now in
    let head = c.head-head.result.now in
    let last = last_read c.args.self.now n b kept change head c.last-last.result holds is c.head-head.ensures c.last-last.ensures in
    sym (ap (λ (ms : List Misfit). slice_get ms 0) (is_later (held_behind b kept) change (omega (arith, last, c.if-last-time.true, ap (λ (x : Head). x.time) c.head-head.ensures))))

pub returns-else-last-time : goal.returns-else-last-time
returns-else-last-time c = λ n b kept holds is.
    let change = c.args.block.now in
    let head = c.head-head.result.now in
    let last = last_read c.args.self.now n b kept change head c.last-last.result holds is c.head-head.ensures c.last-last.ensures in
    ap (λ (ms : List Misfit). slice_get ms 0) (is_late (held_behind b kept) change head.time c.last-last.result (ap (λ (x : Head). x.time) c.head-head.ensures) last c.if-last-time.false)
