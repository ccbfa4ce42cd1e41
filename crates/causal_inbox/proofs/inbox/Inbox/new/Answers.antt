use Rattle.std.proofs.Common.{◌≡◌, ◌+◌, true, false, not, sym, ap, subst, ◌∙◌, arith}
use Rattle.std.specs.List.{AllByRecursion, find}
use Rattle.model.specs.Change.{Change, IsChange, has_name, name_of, placed}
use Rattle.model.specs.Held.{is_known}
use Rattle.model.specs.Settle.{name_before}
use Rattle.causal_inbox.specs.Counted.{counted}
use Rattle.causal_inbox.proofs.OfferLaws.{new_name, one_more, no_more, count_known, count_new, each_placed}
use Rattle.causal_inbox.proofs.inbox.Inbox.new.Goals as goal
use Rattle.causal_inbox.proofs.inbox.Inbox.new.Goals.{then-is_known, else-is_known+in_ok-insert}

pub insert-requires : goal.insert-requires
insert-requires c =
    let block = c.at-block.result.now in
    let p = λ (d : Change). not (is_known (counted c.args.held.now) d) in
    ap (λ (d : Change). find (has_name (name_of d)) c.loop-i.pool) c.copy.ensures ∙ ap (find (has_name (name_of block))) c.loop-i.invariant.pool
    ∙ new_name p c.args.waiting c.loop-i.i block c.at-block.ensures c.requires.rise

pub loop-i-preserved : goal.loop-i-preserved
loop-i-preserved c =
    let held = c.args.held.now in
    let xs = c.args.waiting in
    let i = c.loop-i.i in
    let block = c.at-block.result.now in
    let q = is_known (counted held) in
    let p = λ (d : Change). not (is_known (counted held) d) in
    let at = c.at-block.ensures in
    elim c.if-is_known.branch [
      | then-is_known w ↦
          let known : q block ≡ true = sym c.is_known.ensures.value ∙ w.if-is_known.true in
          record {
            pool = w.pool-is ∙ c.loop-i.invariant.pool ∙ no_more p xs i block at c.requires.rise (ap not known);
            known = w.known-is ∙ ap (λ k. k + 1) c.loop-i.invariant.known ∙ count_known q xs i block at known;
            few = omega (arith, w.known-is, c.loop-i.invariant.few);
            changes = subst (AllByRecursion (IsChange _)) (sym w.pool-is) c.loop-i.invariant.changes;
          }
      | else-is_known+in_ok-insert w ↦
          let new : q block ≡ false = sym c.is_known.ensures.value ∙ w.if-is_known.false in
          let same = w.pool-is ∙ w.in_ok-insert.ensures.ok ∙ ap (λ (d : Change). placed name_before d c.loop-i.pool) w.copy.ensures in
          record {
            pool = same ∙ ap (placed name_before block) c.loop-i.invariant.pool ∙ one_more p xs i block at c.requires.rise (ap not new);
            known = w.known-is ∙ c.loop-i.invariant.known ∙ count_new q xs i block at new;
            few = omega (arith, w.known-is, c.loop-i.invariant.few);
            changes = subst (AllByRecursion (IsChange _)) (sym same) (each_placed (IsChange _) block c.loop-i.pool c.is_known.ensures.change c.loop-i.invariant.changes);
          }
    ]
