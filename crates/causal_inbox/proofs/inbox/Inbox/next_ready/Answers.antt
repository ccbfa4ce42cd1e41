use Rattle.std.proofs.Common.{◌≡◌, Some, sym, ap, subst, ◌∙◌}
use Rattle.std.specs.List.{AllByRecursion, find}
use Rattle.model.specs.Change.{IsChange, has_name}
use Rattle.causal_inbox.specs.Names.{name_by, others}
use Rattle.causal_inbox.specs.Counted.{first_ready}
use Rattle.causal_inbox.specs.Offers.{Waiting, taken_out}
use Rattle.causal_inbox.specs.declared.ready.Candidate.{Candidate}
use Rattle.causal_inbox.proofs.ReadyLaws.{picked, first_found, all_others}
use Rattle.causal_inbox.proofs.inbox.Inbox.next_ready.Goals as goal

pub invariant_of-self : goal.invariant_of-self
invariant_of-self c =
    let next = c.in_ok-next.next in
    subst (AllByRecursion (IsChange c.self.inside.members)) (sym c.remove.ensures.others) (all_others (IsChange c.self.inside.members) (next.stamp.member, next.number) c.self.inside.pool c.self.invariant)

pub returns-clause-least : goal.returns-clause-least
returns-clause-least c =
    let held = c.args.held.now in
    let pool = c.self.inside.pool in
    let p = picked held pool c.in_ok-next.next c.in_ok-next.ensures.next in
    c.remove.ensures.taken ∙ ap (λ (k : Candidate). find (has_name (name_by (k.stamp.member, k.number))) pool) (sym p.2)
    ∙ first_found held pool p.0 c.first_ready.ensures.rise p.1 ∙ sym p.1 ∙ ap (λ (w : Waiting). first_ready held w.pool) c.self.view_is

pub returns-clause-pool : goal.returns-clause-pool
returns-clause-pool c =
    let held = c.args.held.now in
    let pool = c.self.inside.pool in
    let p = picked held pool c.in_ok-next.next c.in_ok-next.ensures.next in
    let key = ap (λ (k : Candidate). find (has_name (name_by (k.stamp.member, k.number))) pool) (sym p.2) in
    let is : c.remove.result ≡ Some p.0 = c.remove.ensures.taken ∙ key ∙ first_found held pool p.0 c.first_ready.ensures.rise p.1 in
    c.remove.ensures.others ∙ ap (λ (k : Candidate). others (k.stamp.member, k.number) pool) (sym p.2)
    ∙ sym (ap (taken_out pool) is) ∙ ap (λ (w : Waiting). taken_out w.pool c.remove.result) c.self.view_is
