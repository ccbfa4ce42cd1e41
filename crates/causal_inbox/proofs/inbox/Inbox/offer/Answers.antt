use Rattle.std.proofs.Common.{List, [], ◌∷◌, ◌++◌, sym, ap, subst, ◌∙◌}
use Rattle.std.specs.List.{AllByRecursion}
use Rattle.model.specs.Change.{Change, IsChange, in_order}
use Rattle.model.specs.Settle.{name_before}
use Rattle.causal_inbox.specs.Offers.{Waiting}
use Rattle.causal_inbox.proofs.OfferLaws.{each_placed, joins}
use Rattle.causal_inbox.proofs.inbox.Inbox.offer.Goals as goal

pub invariant_of-self-in-Joined : goal.invariant_of-self-in-Joined
invariant_of-self-in-Joined c =
    let b = c.args.block in
    let members = c.requires.held ∙ sym (ap (λ (w : Waiting). w.members) c.self.view_is) in
    let is = subst (λ n. IsChange n b) members c.is_known.ensures.change in
    subst (AllByRecursion (IsChange c.self.inside.members)) (sym c.in_ok-insert-in-Joined.ensures.ok) (each_placed (IsChange c.self.inside.members) b c.self.inside.pool is c.self.invariant)

pub returns-in_ok-insert-in-Joined-clause-pool : goal.returns-in_ok-insert-in-Joined-clause-pool
returns-in_ok-insert-in-Joined-clause-pool c =
    let b = c.args.block in
    c.in_ok-insert-in-Joined.ensures.ok ∙ joins c.self.inside.pool b c.offer_new.ensures.rise
    ∙ ap (λ (ds : List Change). in_order name_before (ds ++ b ∷ [])) (ap (λ (w : Waiting). w.pool) c.self.view_is)
