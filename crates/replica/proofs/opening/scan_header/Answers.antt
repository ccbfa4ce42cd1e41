use Rattle.std.proofs.Common.{Err, ap, ◌∙◌, sym, subst}
use Rattle.std.proofs.lemmas.Result.{err_from_is_err_and}
use Rattle.cbor_det.specs.Unread.{unread}
use Rattle.replica.specs.Scanning.{ScansHeader}
use Rattle.replica.proofs.OpeningLaws.{header_flawed, header_broken}
use Rattle.replica.proofs.opening.scan_header.Goals as goal

pub returns-in_err-span : goal.returns-in_err-span
returns-in_err-span c =
    let p = err_from_is_err_and c.from_residual.result c.from_residual.ensures.1 in
    subst (ScansHeader (unread c.args.cursor.now) (unread c.skip_item.new.self)) (sym (p.1 ∙ ap Err p.2)) (header_flawed (unread c.args.cursor.now) c.in_err-span.field-0.0 c.requires c.in_err-span.ensures.flawed)

pub returns-in-Err-NotHeader : goal.returns-in-Err-NotHeader
returns-in-Err-NotHeader c =
    let k = c.in_ok-span.ensures.found in
    header_broken c.args.cursor.now.len c.args.cursor.now.rest.now k.0 c.skip_item.new.self.rest.now c.requires k.1 k.3 (rw c.in-Err-NotHeader.field-0-is at (c.in-Err-NotHeader.ensures k.0 k.1 k.2))
