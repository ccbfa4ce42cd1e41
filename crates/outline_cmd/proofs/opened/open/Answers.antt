use Rattle.std.proofs.Common.{ap}
use Rattle.std.proofs.lemmas.Result.{err_from_is_err_and}
use Rattle.replica.specs.declared.head.FileHead.{FileHead}
use Rattle.outline_meaning.specs.Meaning.{scanned}
use Rattle.outline_meaning.proofs.StageLaws.{refuses_next}
use Rattle.outline_cmd.proofs.opened.open.Goals as goal

pub returns-in_err-check_kind-clause-told : goal.returns-in_err-check_kind-clause-told
returns-in_err-check_kind-clause-told c = λ taken are.
    let p = err_from_is_err_and c.from_residual-in_err-check_kind.result c.from_residual-in_err-check_kind.ensures.1 in
    let f = c.in_ok-parts.parts in
    rw (p.1, p.2) (refuses_next (scanned c.args.word c.args.bytes.now) _ f c.in_err-check_kind.field-0.0 c.in_ok-parts.ensures.told
    (c.in_err-check_kind.ensures f taken (ap (λ (h : FileHead). h.kind) c.head.ensures.head) are))
