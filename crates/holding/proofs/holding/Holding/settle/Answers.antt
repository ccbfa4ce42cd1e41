use Rattle.std.proofs.Common.{◌≡◌, ◌+◌, ◌*◌, List, length, ap, arith}
use Rattle.std.specs.Prelude.{sum_by}
use Rattle.model.specs.Cost.{move_count}
use Rattle.tree_log.specs.Moves.{later_count}
use Rattle.tree_log.specs.declared.moves.TreeMove.{TreeMove}
use Rattle.tree_log.proofs.LogLaws.{worked_within}
use Rattle.holding.proofs.CostLaws.{all_counted}
use Rattle.holding.proofs.JoinLaws.{moves_left}
use Rattle.holding.proofs.holding.Holding.settle.Goals as goal

pub returns-clause-tally : goal.returns-clause-tally
returns-clause-tally c = λ n b kept holds.
    let h = c.args.self in
    let late = h.document.moves.late in
    let left = moves_left h n b kept holds c.settle.ensures.rising in
    let none : later_count h.document.moves.log.moves late ≡ 0 = ap (λ (ms : List TreeMove). later_count ms late) holds.undone in
    let all = all_counted kept in
    worked_within c.args.tally.now c.settle.new.tally (2 * later_count h.document.moves.log.moves late + length late) (sum_by move_count kept) c.settle.ensures.tally (omega arith)
