use Rattle.std.proofs.Common.{◌≡◌, true, false, not, cond, sym, ap, ◌∙◌}
use Rattle.std.specs.Prelude.{bytes_eq}
use Rattle.std.specs.List.{find}
use Rattle.model.specs.Change.{has_name, same_bytes}
use Rattle.model.specs.Settle.{differs, is_pooled}
use Rattle.causal_inbox.specs.Names.{name_by}
use Rattle.causal_inbox.specs.declared.inbox.Offered.TheVariants.{Same, Forked, Joined}
use Rattle.causal_inbox.proofs.OfferLaws.{pool_has, pool_lacks}
use Rattle.causal_inbox.proofs.inbox.offer_new.Goals as goal

pub returns-then-eq-clause-value : goal.returns-then-eq-clause-value
returns-then-eq-clause-value c =
    let pool = c.args.pool.now in
    let block = c.args.block.now in
    let waiting = c.in-Some.waiting.now in
    let here = ap (λ k. find (has_name (name_by k)) pool) (sym c.name_in.ensures) ∙ sym c.in-Some.ensures.found in
    let f = pool_has pool block waiting c.find.ensures.rise here in
    let same : c.eq.result ≡ same_bytes block waiting = c.eq.ensures ∙ (λ i. bytes_eq (c.bytes.ensures i) (c.bytes-in-Some.ensures i)) in
    let d : differs pool block ≡ false = f.0 ∙ ap not (sym same ∙ c.if-eq.true) in
    sym (λ i. cond (d i) Forked (cond (f.1 i) Same Joined))

pub returns-else-eq-clause-value : goal.returns-else-eq-clause-value
returns-else-eq-clause-value c =
    let pool = c.args.pool.now in
    let block = c.args.block.now in
    let waiting = c.in-Some.waiting.now in
    let here = ap (λ k. find (has_name (name_by k)) pool) (sym c.name_in.ensures) ∙ sym c.in-Some.ensures.found in
    let f = pool_has pool block waiting c.find.ensures.rise here in
    let same : c.eq.result ≡ same_bytes block waiting = c.eq.ensures ∙ (λ i. bytes_eq (c.bytes.ensures i) (c.bytes-in-Some.ensures i)) in
    let d : differs pool block ≡ true = f.0 ∙ ap not (sym same ∙ c.if-eq.false) in
    sym (λ i. cond (d i) Forked (cond (is_pooled pool block) Same Joined))

pub returns-in-None-clause-value : goal.returns-in-None-clause-value
returns-in-None-clause-value c =
    let pool = c.args.pool.now in
    let block = c.args.block.now in
    let here = ap (λ k. find (has_name (name_by k)) pool) (sym c.name_in.ensures) ∙ sym c.in-None.ensures.found in
    let f = pool_lacks pool block here in
    sym (λ i. cond (f.0 i) Forked (cond (f.1 i) Same Joined))
