use Rattle.std.proofs.Common.{ap, ◌∙◌, arith}
use Rattle.std.specs.Prelude.{map, slice_index}
use Rattle.model.specs.Base.{MemberRow}
use Rattle.stability.specs.Rows.{row_of}
use Rattle.stability.proofs.RowLaws.{number_at, within_rows}
use Rattle.stability.proofs.fronts.Fronts.count.Goals as goal

pub returns : goal.returns
returns c =
    let rows = c.self.inside.rows.items in
    let lt = within_rows rows c.args.self.now c.args.member c.self.view_is c.requires in
    number_at (λ (r : MemberRow). r.count) rows c.from.result c.index.result.now (omega (arith, lt, c.from.ensures)) c.index.ensures
    ∙ ap (slice_index (map (λ (r : MemberRow). r.count) (map row_of rows))) c.from.ensures
    ∙ ap (λ seen. slice_index (map (λ (r : MemberRow). r.count) seen) c.args.member) c.self.view_is
