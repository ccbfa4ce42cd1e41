use Rattle.std.proofs.Common.{List, ℕ, None, Ok, Err, refl, ap}
use Rattle.replica.specs.declared.fault.BadFile.TheVariants as bad
use Rattle.outline_meaning.specs.Outcome.{Outcome}
use Rattle.outline_meaning.specs.declared.status.Status.TheVariants as s
use Rattle.outline_input.proofs.Loads.{read_held}
use Rattle.outline_cmd.proofs.program.items.Goals as goal

abbrev printing : List ℕ → Outcome
printing text = record { text = text; stored = None }

pub returns-in-Ok : goal.returns-in-Ok
returns-in-Ok c = λ name second.
    let printed = c.in-Ok.ensures.printed in
    (Ok (printing c.in-Ok.text), (Ok c.args.bytes.now, read_held 1 c.args.bytes.now c.requires, (printed.0, printed.1, ap printing printed.2)), refl)

pub returns-in-Err-Cbor : goal.returns-in-Err-Cbor
returns-in-Err-Cbor c = λ name second.
    let refusal = s.BadFile 1 (bad.Cbor c.in-Err-Cbor.fault) in
    let flaw = (c.in-Err-Cbor.ensures.flawed c.in-Err-Cbor.fault).0 (ap Err c.in-Err-Cbor.field-0-is) in
    (Err refusal, (Ok c.args.bytes.now, read_held 1 c.args.bytes.now c.requires, (c.in-Err-Cbor.fault, refl, flaw)), refl)
