use Rattle.std.proofs.Common.{◌≡◌, List, length, sym, ap, ◌∙◌, arith}
use Rattle.std.specs.Option.{option_map}
use Rattle.model.specs.Change.{Change}
use Rattle.causal_inbox.specs.Counted.{first_ready, candidate_of, lesser_of}
use Rattle.causal_inbox.proofs.ReadyLaws.{below, below_none, below_all, ready_more, ready_at, seen_joined}
use Rattle.causal_inbox.proofs.ready.first_ready.Goals as goal

pub loop-member-init : goal.loop-member-init
loop-member-init c = sym (ap (λ (ds : List Change). option_map candidate_of (first_ready c.args.held.now ds)) (below_none c.args.pool.now))

pub loop-member-preserved : goal.loop-member-preserved
loop-member-preserved c =
    let held = c.args.held.now in
    let pool = c.args.pool.now in
    let m = c.loop-member.member in
    let so_far = c.loop-member.invariant in
    let one = c.ready_of.ensures in
    c.lesser-best.ensures ∙ (λ i. lesser_of (so_far i) (one i)) ∙ sym (ap (option_map candidate_of) (ready_more held m pool c.len.ensures.rise) ∙ seen_joined (first_ready held (below m pool)) (ready_at held m pool))

pub returns-clause-next : goal.returns-clause-next
returns-clause-next c =
    let held = c.args.held.now in
    let all : c.loop-member.member ≡ length held = omega (arith, c.len-member-end.ensures.value) in
    c.loop-member.invariant ∙ ap (λ (ds : List Change). option_map candidate_of (first_ready held ds)) (ap (λ k. below k c.args.pool.now) all ∙ below_all (length held) c.args.pool.now c.requires)
