use Rattle.std.proofs.Common.{◌≡◌, ◌≤◌, List, ◌++◌, length, take, drop, sym, ap, ◌∙◌, arith, append-nil}
use Rattle.model.specs.Change.{Change}
use Rattle.model.specs.Settle.{most_waiting}
use Rattle.causal_inbox.proofs.OfferLaws.{first_taken, all_taken}
use Rattle.causal_inbox.proofs.inbox.take_waiting.Goals as goal

pub returns-in-None-clause-taken : goal.returns-in-None-clause-taken
returns-in-None-clause-taken c =
    let waiting = c.loop-taken.waiting in
    let whole : waiting ≡ c.args.pool.now = sym (append-nil waiting) ∙ ap (λ (ds : List Change). waiting ++ ds) (sym c.in-None.ensures.none) ∙ c.loop-taken.invariant.0 in
    let few : length c.args.pool.now ≤ most_waiting = omega (arith, ap (λ (ds : List Change). length ds) whole, c.loop-taken.invariant.1) in
    whole ∙ sym (all_taken c.args.pool.now most_waiting few).0

pub returns-in-None-clause-left : goal.returns-in-None-clause-left
returns-in-None-clause-left c =
    let waiting = c.loop-taken.waiting in
    let whole : waiting ≡ c.args.pool.now = sym (append-nil waiting) ∙ ap (λ (ds : List Change). waiting ++ ds) (sym c.in-None.ensures.none) ∙ c.loop-taken.invariant.0 in
    let few : length c.args.pool.now ≤ most_waiting = omega (arith, ap (λ (ds : List Change). length ds) whole, c.loop-taken.invariant.1) in
    sym c.in-None.ensures.first ∙ c.in-None.ensures.none ∙ sym (all_taken c.args.pool.now most_waiting few).1

pub returns-clause-taken : goal.returns-clause-taken
returns-clause-taken c =
    let t = first_taken c.loop-taken.waiting c.loop-taken.pool most_waiting (omega (arith, c.loop-taken.invariant.1)) in
    sym t.0 ∙ ap (take most_waiting) c.loop-taken.invariant.0

pub returns-clause-left : goal.returns-clause-left
returns-clause-left c =
    let t = first_taken c.loop-taken.waiting c.loop-taken.pool most_waiting (omega (arith, c.loop-taken.invariant.1)) in
    sym t.1 ∙ ap (drop most_waiting) c.loop-taken.invariant.0
