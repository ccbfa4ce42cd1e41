use Rattle.std.proofs.Common.{Err, ap, ◌∙◌, sym, subst}
use Rattle.std.proofs.lemmas.Result.{err_from_is_err_and}
use Rattle.cbor_det.specs.Unread.{unread}
use Rattle.replica.specs.Scanning.{ScansOpening}
use Rattle.replica.proofs.OpeningLaws.{opens_bundle, opens_based, opens_not}
use Rattle.replica.proofs.opening.scan_opening.Goals as goal

pub returns-then-head-eq-BUNDLE : goal.returns-then-head-eq-BUNDLE
returns-then-head-eq-BUNDLE c =
    opens_bundle c.in_ok-head.head (unread c.args.cursor.now) (unread c.scan_header.new.cursor) c.requires c.in_ok-head.ensures c.if-head-eq-BUNDLE.true

pub returns-in_err-scan_base : goal.returns-in_err-scan_base
returns-in_err-scan_base c =
    let p = err_from_is_err_and c.from_residual-in_err-scan_base.result c.from_residual-in_err-scan_base.ensures.1 in
    subst (ScansOpening (unread c.args.cursor.now) (unread c.scan_base.new.cursor)) (sym (p.1 ∙ ap Err p.2))
    (opens_not c.in_ok-head.head (unread c.args.cursor.now) (unread c.scan_header.new.cursor) c.requires c.in_ok-head.ensures (unread c.scan_base.new.cursor) c.if-head-eq-BUNDLE.false c.in_err-scan_base.field-0.0 c.in_err-scan_base.ensures)

pub returns : goal.returns
returns c =
    opens_based c.in_ok-head.head (unread c.args.cursor.now) (unread c.scan_header.new.cursor) c.requires c.in_ok-head.ensures (unread c.scan_base.new.cursor) c.if-head-eq-BUNDLE.false c.in_ok-scan_base.ensures
