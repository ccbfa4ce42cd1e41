use Rattle.std.proofs.Common.{◌∙◌, ap, get_or}
use Rattle.model.specs.Operation.{put_key}
use Rattle.model_laws.specs.Arrival.{late_register}
use Rattle.op_grammar.specs.Values.{value_of}
use Rattle.lww_map.specs.Keys.{Table}
use Rattle.lww_map.proofs.TableLaws.{row_written, no_row}
use Rattle.lww_map.proofs.registers.Registers.from_rows.Goals as goal

pub loop-row-preserved : goal.loop-row-preserved
loop-row-preserved c =
    let rows = c.args.rows.now in
    let i = c.loop-row.row-index in
    let r = get_or rows i no_row in
    c.in_ok-write.ensures.ok
    ∙ ap (λ (m : Table). late_register m r.writer (put_key r.node r.key.now (value_of r.value))) c.loop-row.invariant
    ∙ row_written rows i c.loop-row-test.true c.requires
