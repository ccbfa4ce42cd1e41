-- What building a replica of a file answers.
use Rattle.std.specs.Prelude.{◌≡◌, ℕ, Some, None, Result, Ok, Err}
use Rattle.model.specs.File.{File}
use Rattle.model.specs.Held.{Refused}
use Rattle.model.specs.Reading.{unfit_in}
use Rattle.replica.specs.FaultText.{misfit_of}
use Rattle.replica.specs.declared.fault.Misfit.{Misfit}
use Rattle.member_replica.specs.declared.built.BuildFault.{BuildFault}
use Rattle.member_replica.specs.declared.built.BuildFault.TheVariants.{Unfit, NoMemory}

-- a change by its member and its number, and why it may not join
abbrev pub refused_of : ℕ → ℕ → Misfit → Refused
refused_of member number misfit = record { name = record { member = member; number = number }; misfit = misfit_of misfit }

-- The file, whose kept changes fit; or the first that doesn't. Want of memory is free.
abbrev pub Builds : File → Result File BuildFault → Type 0
Builds f (Ok r) = (r ≡ f) × (unfit_in f ≡ None)
Builds f (Err (Unfit member number misfit)) = unfit_in f ≡ Some (refused_of member number misfit)
Builds f (Err NoMemory) = Unit {0}
