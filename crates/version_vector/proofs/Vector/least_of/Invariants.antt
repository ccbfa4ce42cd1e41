use Rattle.std.proofs.Common.{◌≡◌, ◌<◌, ◌≤◌, ℕ, length, min, get_or}
use Rattle.version_vector.proofs.Vector.least_of.Given as goal

abbrev pub invariant-loop-member : goal.invariant-loop-member
invariant-loop-member l =
    (l.self-inside.counts.capacity ≡ 32) × (length l.self-inside.counts.items ≡ length l.initial.self-inside.counts.items)
    × ((m : ℕ) → m < l.member → get_or l.self-inside.counts.items m 0 ≡ min (get_or l.initial.self-inside.counts.items m 0) (get_or l.theirs-items m 0))
    × ((m : ℕ) → l.member ≤ m → get_or l.self-inside.counts.items m 0 ≡ get_or l.initial.self-inside.counts.items m 0)
