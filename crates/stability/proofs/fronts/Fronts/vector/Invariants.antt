use Rattle.std.proofs.Common.{map}
use Rattle.model.specs.Base.{MemberRow}
use Rattle.stability.specs.Rows.{row_of}
use Rattle.stability.proofs.RowLaws.{Gathered}
use Rattle.stability.proofs.fronts.Fronts.vector.Given as goal

abbrev pub invariant-loop-member : goal.invariant-loop-member
invariant-loop-member l = Gathered (map (λ (r : MemberRow). r.count) (map row_of l.self-inside.rows.items)) l.vector l.member
