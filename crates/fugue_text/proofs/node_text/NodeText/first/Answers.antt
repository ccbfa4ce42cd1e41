use Rattle.std.proofs.Common.{subst, Some}
use Rattle.fugue_tree.specs.Tree.{IsFirstChild}
use Rattle.fugue_tree.proofs.PlaceLaws.{first_is}
use Rattle.fugue_text.specs.Runs.{TextRows, places, starts}
use Rattle.fugue_text.proofs.CountLaws.{rising_of}
use Rattle.fugue_text.proofs.NextLaws.{first_next, first_without}
use Rattle.fugue_text.proofs.node_text.NodeText.first.Goals as goal

pub next_beside-requires-clause-rising : goal.next_beside-requires-clause-rising
next_beside-requires-clause-rising c = rising_of _ c.self.invariant.tree

pub returns-in-Some-clause-first : goal.returns-in-Some-clause-first
returns-in-Some-clause-first c =
    let es = c.self.inside.runs.entries in
    subst (λ (rs : TextRows). IsFirstChild (places rs) c.args.anchor c.args.side (Some c.in-Some.next)) c.self.view_is
    (first_next es (rising_of _ c.self.invariant.tree) c.self.invariant.filled c.self.invariant.tree c.args.anchor c.args.side c.in-Some.next c.in-Some.ensures.next)

pub returns-in-None-clause-first : goal.returns-in-None-clause-first
returns-in-None-clause-first c =
    let es = c.self.inside.runs.entries in
    subst (λ (rs : TextRows). IsFirstChild (places rs) c.args.anchor c.args.side c.first_child.result) c.self.view_is
    (first_without es (rising_of _ c.self.invariant.tree) c.self.invariant.filled c.args.anchor c.args.side c.in-None.ensures.next c.first_child.result
    (first_is (starts es) c.self.inside.children c.self.invariant.index c.args.anchor c.args.side c.first_child.result c.first_child.ensures))
