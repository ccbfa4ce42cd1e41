use Rattle.std.proofs.Common.{◌∙◌, arith, subst, sym}
use Rattle.std.proofs.lemmas.List.{take_all}
use Rattle.stability.specs.Rows.{AreRows}
use Rattle.stability.proofs.fronts.Fronts.from_rows.Goals as goal

pub invariant_of-result : goal.invariant_of-result
invariant_of-result c =
    let rows = c.args.rows.now in
    let are : AreRows rows = record { some = c.requires.some; few = c.requires.few; known = c.requires.known } in
    subst AreRows (sym (c.loop-row.invariant ∙ take_all c.loop-row.row-index rows (omega (arith, c.loop-row-test.false)))) are
