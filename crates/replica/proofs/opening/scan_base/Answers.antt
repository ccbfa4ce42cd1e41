use Rattle.std.proofs.Common.{Err, ap, ◌∙◌, sym, subst}
use Rattle.std.proofs.lemmas.Result.{err_from_is_err_and}
use Rattle.cbor_det.specs.Unread.{unread}
use Rattle.model.specs.File.{headed}
use Rattle.replica.specs.Heads.{header_by}
use Rattle.replica.specs.Scanning.{ScansBase}
use Rattle.replica.proofs.OpeningLaws.{flawed_front, flawed_no_item}
use Rattle.replica.proofs.opening.scan_base.Goals as goal

pub returns-in_err-span : goal.returns-in_err-span
returns-in_err-span c =
    let p = err_from_is_err_and c.from_residual.result c.from_residual.ensures.1 in
    let old = unread c.args.cursor.now in
    let d = c.in_err-span.ensures.flawed in
    subst (ScansBase c.args.head.now old (unread c.skip_item.new.self)) (sym (p.1 ∙ ap Err p.2))
    (flawed_front (headed (header_by c.args.head.now)) 1 old c.in_err-span.field-0.0 (λ w. w) d, flawed_no_item old c.in_err-span.field-0.0 d)
