use Rattle.std.proofs.Common.{◌≡◌, ℕ, ◌<◌, List, None}
use Rattle.model.specs.Base.{Base}
use Rattle.model.specs.Change.{Change, IsChange}
use Rattle.model.specs.Held.{held_behind, late_cause}
use Rattle.holding.specs.Holds.{Holds}
use Rattle.holding.proofs.holding.Holding.late_cause.Given as goal

abbrev pub invariant-loop-of : goal.invariant-loop-of
invariant-loop-of l = (n : ℕ) (b : Base) (kept : List Change) → Holds l.self n b kept → IsChange n l.block → (j : ℕ) → j < l.of → late_cause (held_behind b kept) l.block j ≡ None
