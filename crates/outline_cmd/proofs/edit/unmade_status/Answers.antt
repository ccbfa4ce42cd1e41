use Rattle.std.proofs.Common.{Err, sym, ap, subst, ◌∙◌}
use Rattle.member_replica.specs.Making.{Makes}
use Rattle.member_replica.specs.declared.made.MakeFault.{MakeFault}
use Rattle.outline_meaning.specs.Outcome.{told}
use Rattle.outline_meaning.specs.declared.status.Status.TheVariants as s
use Rattle.outline_cmd.proofs.InputLaws.{edit_fault_again}
use Rattle.outline_cmd.proofs.edit.unmade_status.Goals as goal

pub returns-in-Nobody : goal.returns-in-Nobody
returns-in-Nobody c = λ f meant made. sym (ap told (subst (λ (x : MakeFault). Makes f meant (Err x)) c.in-Nobody.is made))

pub returns-in-Edit : goal.returns-in-Edit
returns-in-Edit c = λ f meant made.
    let is = subst (λ (x : MakeFault). Makes f meant (Err x)) c.in-Edit.is made in
    sym (ap told is ∙ ap (λ x. Err (s.Edit x c.in-Edit.word)) (edit_fault_again c.in-Edit.fault))

pub returns-in-ClockFull : goal.returns-in-ClockFull
returns-in-ClockFull c = λ f meant made. sym (ap told (subst (λ (x : MakeFault). Makes f meant (Err x)) c.in-ClockFull.is made))
