use Rattle.std.proofs.Common.{ap, ◌∙◌, arith, sym}
use Rattle.std.specs.Prelude.{map, slice_get}
use Rattle.model.specs.Base.{MemberRow}
use Rattle.stability.specs.Rows.{row_of}
use Rattle.stability.proofs.RowLaws.{read_at, within_rows}
use Rattle.stability.proofs.fronts.Fronts.known.Goals as goal

pub returns-clause-row : goal.returns-clause-row
returns-clause-row c =
    let rows = c.self.inside.rows.items in
    let lt = within_rows rows c.args.self.now c.args.member c.self.view_is c.requires in
    ap (λ seen. slice_get (map (λ (r : MemberRow). r.known) seen) c.args.member) (sym c.self.view_is)
    ∙ ap (slice_get (map (λ (r : MemberRow). r.known) (map row_of rows))) (sym c.from.ensures)
    ∙ read_at (λ (r : MemberRow). r.known) rows c.from.result c.index.result.now (omega (arith, lt, c.from.ensures)) c.index.ensures
