use Rattle.std.proofs.Common.{List, map, ap, subst, ◌∙◌}
use Rattle.model.specs.Change.{Change}
use Rattle.causal_inbox.specs.Names.{key_of}
use Rattle.causal_inbox.specs.Offers.{Waiting, IsRest}
use Rattle.causal_inbox.proofs.OfferLaws.{is_rest}
use Rattle.causal_inbox.proofs.inbox.Inbox.rest.Goals as goal

pub returns : goal.returns
returns c =
    let pool = c.self.inside.pool in
    let waiting = c.in_ok-waiting.waiting in
    let full = c.in_ok-full.full in
    subst (λ (ds : List Change). IsRest ds waiting full) (ap (λ (w : Waiting). w.pool) c.self.view_is)
    (is_rest pool waiting full c.len.ensures.rise c.in_ok-waiting.ensures.taken (c.in_ok-full.ensures ∙ ap (map key_of) c.in_ok-waiting.ensures.left))
