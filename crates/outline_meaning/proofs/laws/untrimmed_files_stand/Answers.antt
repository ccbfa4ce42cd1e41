use Rattle.std.proofs.Common.{subst}
use Rattle.model.specs.Stands.{Stands}
use Rattle.outline_meaning.proofs.StandLaws.{untrimmed, state_is, untrimmed_stands, stands_alone, stands_fit}
use Rattle.outline_meaning.proofs.laws.untrimmed_files_stand.Goals as goal

pub returns-clause-stands : goal.returns-clause-stands
returns-clause-stands c = untrimmed_stands

pub returns-clause-alone : goal.returns-clause-alone
returns-clause-alone c = λ f h is stands.
    let whole = untrimmed f is in
    let same = stands_alone f h whole stands in
    (same, stands_fit f whole (subst (Stands f) same stands))

pub returns-clause-state : goal.returns-clause-state
returns-clause-state c = λ f is. state_is f (untrimmed f is)
