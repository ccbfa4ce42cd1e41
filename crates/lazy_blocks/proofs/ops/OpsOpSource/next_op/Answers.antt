use Rattle.std.proofs.Common.{◌≡◌, ◌≤◌, length, ap, sym, ◌∙◌, arith}
use Rattle.op_grammar.specs.declared.head.Head.{Head}
use Rattle.lazy_blocks.proofs.HandingLaws.{next_left, no_fault, next_read, still_left, atom_handed}
use Rattle.lazy_blocks.proofs.ops.OpsOpSource.next_op.Goals as goal

pub unreachable-requires : goal.unreachable-requires
unreachable-requires c =
    let members : c.len.result ≡ length c.self.inside.block.now.causes = c.len.ensures.value ∙ ap (λ (h : Head). length h.causes) c.head-head.ensures in
    let next = next_left c.self.inside c.self.invariant (omega arith) (omega (arith, members, c.len.ensures.few)) in
    no_fault c.self.inside next c.len.result members c.in-Err.field-0 c.in-Err.ensures

pub invariant_of-self : goal.invariant_of-self
invariant_of-self c =
    let members : c.len.result ≡ length c.self.inside.block.now.causes = c.len.ensures.value ∙ ap (λ (h : Head). length h.causes) c.head-head.ensures in
    let some : 1 ≤ c.self.inside.count = omega arith in
    let next = next_left c.self.inside c.self.invariant some (omega (arith, members, c.len.ensures.few)) in
    let read = next_read c.self.inside c.self.invariant next c.len.result c.in-Ok.read.0 c.in-Ok.read.1 c.width_of.result members (omega (arith, c.len.ensures.few)) c.in-Ok.ensures c.width_of.ensures in
    still_left c.self.inside c.self.invariant some next c.in-Ok.read.0 c.in-Ok.read.1 c.width_of.result read

pub returns-clause-handed : goal.returns-clause-handed
returns-clause-handed c =
    let members : c.len.result ≡ length c.self.inside.block.now.causes = c.len.ensures.value ∙ ap (λ (h : Head). length h.causes) c.head-head.ensures in
    let some : 1 ≤ c.self.inside.count = omega arith in
    let next = next_left c.self.inside c.self.invariant some (omega (arith, members, c.len.ensures.few)) in
    let read = next_read c.self.inside c.self.invariant next c.len.result c.in-Ok.read.0 c.in-Ok.read.1 c.width_of.result members (omega (arith, c.len.ensures.few)) c.in-Ok.ensures c.width_of.ensures in
    sym c.self.view_is
    ∙ atom_handed c.self.inside c.self.invariant some next c.in-Ok.read.0 c.in-Ok.read.1 c.width_of.result read c.head-head.result.now.time c.head-head.result.now.member (ap (λ (h : Head). h.time) c.head-head.ensures) (ap (λ (h : Head). h.member) c.head-head.ensures)
