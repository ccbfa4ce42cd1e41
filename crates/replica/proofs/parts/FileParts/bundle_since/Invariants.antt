use Rattle.std.proofs.Common.{◌≡◌, take, ltb, get_or}
use Rattle.std.specs.Prelude.{filter}
use Rattle.replica.proofs.parts.FileParts.bundle_since.Given as goal

abbrev pub invariant-kept : goal.invariant-kept
invariant-kept l = l.kept ≡ filter (λ c. ltb (get_or l.vector c.member 0) c.number) (take l.i l.self-inside.kept)
