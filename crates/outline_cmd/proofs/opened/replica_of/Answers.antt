use Rattle.std.proofs.Common.{Err, sym, ap, ◌∙◌}
use Rattle.outline_meaning.specs.Outcome.{refused_told}
use Rattle.outline_meaning.specs.declared.status.Status.TheVariants as s
use Rattle.outline_cmd.proofs.InputLaws.{misfit_again}
use Rattle.outline_cmd.proofs.opened.replica_of.Goals as goal

pub returns-in-Ok-clause-told : goal.returns-in-Ok-clause-told
returns-in-Ok-clause-told c = sym (ap (refused_told c.args.word) c.in-Ok.ensures.builds.1)

pub returns-in-Err-Unfit-clause-told : goal.returns-in-Err-Unfit-clause-told
returns-in-Err-Unfit-clause-told c =
    let u = c.in-Err-Unfit in
    let unfit = rw u.field-0-is at u.ensures.builds in
    sym (ap (refused_told c.args.word) unfit ∙ ap (λ m. Err (s.Unfit c.args.word u.member u.number m)) (misfit_again u.misfit))
