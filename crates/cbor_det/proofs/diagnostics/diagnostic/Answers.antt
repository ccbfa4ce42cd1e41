use Rattle.std.proofs.lemmas.Result.{err_from_is_err_and}
use Rattle.cbor_det.proofs.PrintingLaws.{cbor_only, never_cbor, no_memory, some_text}
use Rattle.cbor_det.proofs.diagnostics.diagnostic.Goals as goal

pub returns-in_err-check_sequence-clause-flawed : goal.returns-in_err-check_sequence-clause-flawed
returns-in_err-check_sequence-clause-flawed c =
    let p = err_from_is_err_and c.from_residual.result c.from_residual.ensures.1 in
    cbor_only c.args.bytes.now c.from_residual.result p.0 c.in_err-check_sequence.field-0.0 p.1 p.2 c.in_err-check_sequence.ensures.flawed

pub returns-in_err-out-clause-flawed : goal.returns-in_err-out-clause-flawed
returns-in_err-out-clause-flawed c =
    let p = err_from_is_err_and c.from_residual-in_err-out.result c.from_residual-in_err-out.ensures.1 in
    let s = c.in_ok-check_sequence.ensures.spelled in
    never_cbor c.args.bytes.now s.0 c.from_residual-in_err-out.result s.1 (no_memory c.from_residual-in_err-out.result p.0 p.1 p.2)

pub returns-clause-flawed : goal.returns-clause-flawed
returns-clause-flawed c =
    let s = c.in_ok-check_sequence.ensures.spelled in
    never_cbor c.args.bytes.now s.0 _ s.1 (some_text c.from_string.result)
