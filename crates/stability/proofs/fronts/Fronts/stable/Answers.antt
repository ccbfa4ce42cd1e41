use Rattle.std.proofs.Common.{ℕ, All, List, ap, arith, length, subst, sym}
use Rattle.stability.proofs.StableLaws.{Knows, Lowered, lowered_is_stable, lowered_next}
use Rattle.stability.proofs.fronts.Fronts.stable.Goals as goal

pub loop-row-preserved : goal.loop-row-preserved
loop-row-preserved c =
    let items = c.deref-row-items.result.now in
    let all = subst (λ rows. All (Knows (length rows)) rows) (sym c.deref-row-items.ensures.value) c.self.invariant.known in
    rw c.least_of.ensures (lowered_next items c.copy-stable.result c.loop-row.stable c.loop-row.row-index c.row-item.result all c.loop-row-test.true c.row-item.is c.loop-row.invariant)

pub returns : goal.returns
returns c past =
    let rows = c.self.inside.rows.items in
    let first = c.index.result.now in
    let same = c.deref-row-items.ensures.value in
    let counts = c.loop-row.stable in
    let i = c.loop-row.row-index in
    let lowered = subst (λ (known : List ℕ). Lowered rows known counts i) c.copy-stable.ensures (subst (λ items. Lowered items c.copy-stable.result counts i) same c.loop-row.invariant) in
    lowered_is_stable past rows c.args.self.now first counts i c.self.invariant c.self.view_is c.index.ensures lowered (omega (arith, c.loop-row-test.false, ap length same))
