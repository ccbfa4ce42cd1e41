use Rattle.std.proofs.Common.{Option, ap, ◌∙◌, ◌++◌}
use Rattle.std.specs.Option.{option_map, option_or}
use Rattle.model.specs.Held.{held_behind}
use Rattle.replica.specs.FaultText.{misfit_of}
use Rattle.replica.specs.declared.fault.Misfit.{Misfit}
use Rattle.holding.specs.Misfits.{forgotten_causes, late_causes, late_times, missing_causes}
use Rattle.holding.proofs.JoinLaws.{told_of_two}
use Rattle.holding.proofs.holding.Holding.head_misfit.Goals as goal

pub returns : goal.returns
returns c = λ n b kept holds is.
    let past = held_behind b kept in
    let change = c.args.block.now in
    let missing = c.missing_cause.result in
    let late = c.late_time.result in
    let forgotten = c.forgotten_cause.result in
    let two = told_of_two missing late (missing_causes n past change) (late_times n past change) (c.missing_cause.ensures n b kept holds is) (c.late_time.ensures n b kept holds is) in
    let three = told_of_two (option_or missing late) forgotten (missing_causes n past change ++ late_times n past change) (forgotten_causes n past change) two (c.forgotten_cause.ensures n b kept holds is) in
    ap (λ (m : Option Misfit). option_map misfit_of m) (c.or-3.ensures ∙ ap (λ (m : Option Misfit). option_or m c.late_cause.result) (c.or-2.ensures ∙ ap (λ (m : Option Misfit). option_or m forgotten) c.or.ensures))
    ∙ told_of_two (option_or (option_or missing late) forgotten) c.late_cause.result (missing_causes n past change ++ late_times n past change ++ forgotten_causes n past change) (late_causes n past change) three (c.late_cause.ensures n b kept holds is)
