-- Why a change may not join, as far as its head tells.
use Rattle.std.specs.Prelude.{◌≡◌, ℕ, List, ◌++◌, Option, filter_map, slice_get}
use Rattle.std.specs.Option.{option_map}
use Rattle.model.specs.Base.{Base, members}
use Rattle.model.specs.Change.{Change, IsChange}
use Rattle.model.specs.Held as model
use Rattle.model.specs.Held.{Held, forgotten, held_behind, late_cause, late_time, missing_cause}
use Rattle.replica.specs.FaultText.{misfit_of}
use Rattle.replica.specs.declared.fault.Misfit.{Misfit}
use Rattle.holding.specs.Holds.{Holds}
use Rattle.holding.specs.declared.holding.Holding.{Holding}

-- all that are wrong of one kind, member by member
abbrev pub missing_causes : ℕ → Held → Change → List model.Misfit
missing_causes n past c = filter_map (missing_cause past c) (members n)

abbrev pub late_times : ℕ → Held → Change → List model.Misfit
late_times n past c = late_time past c

abbrev pub forgotten_causes : ℕ → Held → Change → List model.Misfit
forgotten_causes n past c = filter_map (forgotten past c) (members n)

abbrev pub late_causes : ℕ → Held → Change → List model.Misfit
late_causes n past c = filter_map (late_cause past c) (members n)

-- all but the wrong references
abbrev pub of_head : ℕ → Held → Change → List model.Misfit
of_head n past c = missing_causes n past c ++ late_times n past c ++ forgotten_causes n past c ++ late_causes n past c

-- It is the first of these, or there is none, whatever is held there.
abbrev pub IsFirst : (ℕ → Held → Change → List model.Misfit) → Holding → Change → Option Misfit → Type 0
IsFirst misfits h c found = (n : ℕ) (b : Base) (kept : List Change) → Holds h n b kept → IsChange n c → option_map misfit_of found ≡ slice_get (misfits n (held_behind b kept) c) 0
