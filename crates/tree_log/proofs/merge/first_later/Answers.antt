use Rattle.std.proofs.Common.{◌≡◌, ◌<◌, ◌+◌, ◌-◌, ◌∙◌, sym, subst, true, arith, length, drop}
use Rattle.std.proofs.lemmas.List.{drop_more}
use Rattle.std.specs.List.{AllByRecursion}
use Rattle.op_ids.specs.Order.{id_lt}
use Rattle.tree_log.specs.declared.moves.Held.{Held}
use Rattle.tree_log.proofs.LogLaws.{no_held}
use Rattle.tree_log.proofs.merge.first_later.Goals as goal

pub loop-from-preserved : goal.loop-from-preserved
loop-from-preserved c =
    let k = c.loop-from.from - 1 in
    let hs = c.args.held.now in
    let some = c.loop-from-test.true in
    let within = c.loop-from.invariant.0 in
    let bound : k < length hs = omega arith in
    let next : c.loop-from.from ≡ k + 1 = omega arith in
    let rest = subst (λ n. AllByRecursion (λ (h : Held). id_lt c.args.id h.step.id ≡ true) (drop n hs)) next c.loop-from.invariant.1 in
    (omega arith, subst (AllByRecursion (λ (h : Held). id_lt c.args.id h.step.id ≡ true)) (sym (drop_more hs k no_held bound)) (sym c.is_before.ensures ∙ c.if-is_before.true, rest))
