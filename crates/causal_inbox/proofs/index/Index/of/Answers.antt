use Rattle.std.proofs.Common.{◌≡◌, length, Some, cond, ap, subst, ◌∙◌, arith}
use Rattle.std.proofs.lemmas.List.{take_all}
use Rattle.std.specs.Map.{lookup}
use Rattle.std.specs.BTreeMap.{is_at}
use Rattle.std.specs.Option.{option_map}
use Rattle.causal_inbox.specs.Names.{key_cmp}
use Rattle.causal_inbox.specs.Kept.{mark_seen, marked_more, AreMarks}
use Rattle.causal_inbox.proofs.KeptLaws.{seen, marked_one_more}
use Rattle.causal_inbox.proofs.index.Index.of.Goals as goal

pub loop-i-preserved : goal.loop-i-preserved
loop-i-preserved c =
    let old = c.loop-i.marks.entries in
    let mark = c.marked-mark.result in
    let name = c.name_in-name.ensures in
    let found = c.get.ensures.value ∙ ap (λ k. lookup (is_at (key_cmp k)) old) name in
    let own = c.bytes.ensures in
    marked_one_more c.args.kept.now c.loop-i.i c.at-block.result.now old c.insert.new.self.entries mark c.at-block.ensures c.loop-i.invariant
    (λ q. c.in_ok-insert.ensures.updates.0 q ∙ ap (λ k. cond (is_at (key_cmp k) q) (Some mark) (lookup (is_at (key_cmp q)) old)) name)
    (c.marked-mark.ensures ∙ (λ i. marked_more (option_map mark_seen (found i)) (own i)))

pub returns : goal.returns
returns c =
    let kept = c.args.kept.now in
    let all : c.loop-i.i ≡ length kept = omega (arith, c.len-i-end.ensures) in
    subst (AreMarks (seen c.loop-i.marks.entries)) (take_all c.loop-i.i kept (omega arith)) c.loop-i.invariant
