use Rattle.std.proofs.Common.{◌≡◌, ◌∙◌, ap, sym, ◌+◌, true, false, Bool, Some, not, arith, is_some, refl}
use Rattle.std.specs.Map.{lookup}
use Rattle.op_ids.specs.declared.OpId.{OpId}
use Rattle.op_ids.specs.declared.Stamp.{Stamp}
use Rattle.op_ids.specs.Order.{id_lt, stamp_eq, stamp_of}
use Rattle.op_ids.proofs.OrderLaws.{stamp_eq-exact, stamp_eq-itself}
use Rattle.walk_laws.proofs.Walks.{key_eq}
use Rattle.fugue_text.proofs.IdLaws.{gt_is_lt, behind}
use Rattle.fugue_text.proofs.RunLaws.{no_run, in_no_run}
use Rattle.fugue_text.proofs.run.spot_of.Goals as goal
use Rattle.fugue_text.proofs.run.spot_of.Goals.{In_ok-first}

not_true : (b : Bool) → not b ≡ true → b ≡ false
not_true true h = cc
not_true false h = refl

not_false : (b : Bool) → not b ≡ false → b ≡ true
not_false true h = refl
not_false false h = cc

low : (c : In_ok-first) → id_lt c.args.id c.in_ok-first.first.now ≡ false
low c =
    let h = c.range.ensures.in_range tt in
    sym (gt_is_lt c.in_ok-first.first.now c.args.id) ∙ (h.3 _ _ c.in_ok-first.ensures.steps).0.1

there : (c : In_ok-first) → lookup (key_eq c.in_ok-first.first.now) c.args.runs.now.entries ≡ Some c.in_ok-first.run'.now
there c =
    let h = c.range.ensures.in_range tt in
    (h.3 _ _ c.in_ok-first.ensures.steps).1

last : (c : In_ok-first) (q : OpId) → id_lt c.args.id q ≡ false → is_some (lookup (key_eq q) c.args.runs.now.entries) ≡ true → id_lt c.in_ok-first.first.now q ≡ false
last c q l s =
    let h = c.range.ensures.in_range tt in
    h.4 _ _ c.in_ok-first.ensures.steps q (tt, gt_is_lt q c.args.id ∙ l) s

pub returns-in_err-first-clause-spot : goal.returns-in_err-first-clause-spot
returns-in_err-first-clause-spot c =
    let h = c.range.ensures.in_range tt in
    rw c.from_residual.ensures
    (no_run c.args.id c.args.runs.now.entries c.requires.rising c.requires.filled (λ q l. h.5 c.in_err-first.ensures.steps.0 q (tt, gt_is_lt q c.args.id ∙ l)))

pub returns-then-ne-clause-spot : goal.returns-then-ne-clause-spot
returns-then-ne-clause-spot c =
    let u = (goal.at.returns-then-ne-clause-spot c).In_ok-first in
    let apart : stamp_eq c.stamp.result c.stamp-2.result ≡ false = not_true (stamp_eq c.stamp.result c.stamp-2.result) (sym c.ne.ensures ∙ c.if-ne.true) in
    in_no_run c.args.id c.in_ok-first.first.now c.args.runs.now.entries c.in_ok-first.run'.now c.requires.rising c.requires.filled (there u) (low u) (last u)
    (λ k l e.
    let same : c.stamp.result ≡ c.stamp-2.result = c.stamp.ensures ∙ sym (c.stamp-2.ensures ∙ ap stamp_of e) in
    let no : true ≡ false = sym (ap (λ (s : Stamp). stamp_eq s c.stamp-2.result) same ∙ stamp_eq-itself c.stamp-2.result) ∙ apart in
    absurd (let d : true ≡ false = no in cc))

pub returns-then-offset-len-clause-spot : goal.returns-then-offset-len-clause-spot
returns-then-offset-len-clause-spot c =
    let u = (goal.at.returns-then-offset-len-clause-spot c).In_ok-first in
    let same : stamp_of c.in_ok-first.first.now ≡ stamp_of c.args.id =
    sym c.stamp.ensures ∙ stamp_eq-exact c.stamp.result c.stamp-2.result (not_false (stamp_eq c.stamp.result c.stamp-2.result) (sym c.ne.ensures ∙ c.if-ne.false)) ∙ c.stamp-2.ensures in
    record { run = c.in_ok-first.run'.now; there = there u; within = omega (arith, c.len.ensures, c.if-offset-len.true); is = behind c.in_ok-first.first.now c.args.id same (low u) }

pub returns-else-offset-len-clause-spot : goal.returns-else-offset-len-clause-spot
returns-else-offset-len-clause-spot c =
    let u = (goal.at.returns-else-offset-len-clause-spot c).In_ok-first in
    in_no_run c.args.id c.in_ok-first.first.now c.args.runs.now.entries c.in_ok-first.run'.now c.requires.rising c.requires.filled (there u) (low u) (last u)
    (λ k l e. let index : c.args.id.index ≡ c.in_ok-first.first.now.index + k = ap (λ (x : OpId). x.index) e in absurd (omega (arith, index, c.len.ensures, c.if-offset-len.false)))
