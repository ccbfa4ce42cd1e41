use Rattle.std.proofs.Common.{◌++◌, Err, ap, sym, subst, refl, ◌∙◌}
use Rattle.std.specs.Prelude.{IfErr}
use Rattle.std.proofs.lemmas.Result.{err_from_is_err_and}
use Rattle.cbor_det.specs.Unread.{unread}
use Rattle.replica.specs.Scanning.{IsNoChange}
use Rattle.replica.proofs.scan.check_item.Goals as goal

pub returns-in_err-span-clause-err : goal.returns-in_err-span-clause-err
returns-in_err-span-clause-err c =
    let p = err_from_is_err_and c.from_residual.result c.from_residual.ensures.1 in
    subst (λ r. IfErr r (IsNoChange c.args.n c.args.item (unread c.args.cursor.now))) (sym (p.1 ∙ ap Err p.2)) c.in_err-span.ensures.flawed

pub returns-in-Ok-clause-ok : goal.returns-in-Ok-clause-ok
returns-in-Ok-clause-ok c =
    let k = c.in_ok-span.ensures.found in
    let ok = c.in-Ok.ensures.ok in
    (ok.1, k.3 ∙ ap (λ t. t ++ c.skip_item.new.self.rest.now) (sym k.2 ∙ ok.0))

pub returns-in-Err-clause-err : goal.returns-in-Err-clause-err
returns-in-Err-clause-err c =
    let k = c.in_ok-span.ensures.found in
    subst (IsNoChange c.args.n c.args.item (unread c.args.cursor.now)) (sym c.broken.ensures) (refl, (k.0, c.skip_item.new.self.rest.now, k.1, k.3, c.in-Err.ensures.err k.0 k.1 k.2))
