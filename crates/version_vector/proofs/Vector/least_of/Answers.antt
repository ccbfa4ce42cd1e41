use Rattle.std.proofs.Common.{◌≡◌, ◌∙◌, length, ap, arith}
use Rattle.version_vector.specs.Counts.{least_counts}
use Rattle.version_vector.proofs.Parts.{least_counts-at}
use Rattle.version_vector.proofs.Vector.least_of.Goals as goal

pub returns : goal.returns
returns c =
    let mine = c.self.inside.counts.items in
    let theirs = c.deref-theirs-items.result.now in
    let others : theirs ≡ c.args.other.now = c.deref-theirs-items.ensures ∙ c.other.view_is in
    let same : length mine ≡ length theirs = omega (arith, ap length c.self.view_is, ap length others, c.requires) in
    least_counts-at mine theirs c.loop-member.self-inside.counts.items same c.loop-member.invariant.1
    (λ k within. c.loop-member.invariant.2 k (omega arith))
    ∙ ap (λ ms. least_counts ms theirs) c.self.view_is ∙ ap (least_counts c.args.self.now) others
