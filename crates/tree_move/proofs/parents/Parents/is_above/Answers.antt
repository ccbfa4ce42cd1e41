use Rattle.std.proofs.Common.{◌∙◌, ap, sym}
use Rattle.tree_move.specs.Parents.{place_of, place_if}
use Rattle.tree_move.proofs.PlaceLaws.{climb_more, climb_end, climb_falls, climb_here, ne-apart, ne-same}
use Rattle.tree_move.proofs.parents.Parents.is_above.Goals as goal

pub loop-a-smaller : goal.loop-a-smaller
loop-a-smaller c = climb_falls _ c.parent_of.ensures.tree.tree _ (place_of c.in-Some.place) (sym c.parent_of.ensures.place ∙ ap place_if c.in-Some.is)

pub loop-a-preserved : goal.loop-a-preserved
loop-a-preserved c =
    climb_more _ c.parent_of.ensures.tree.tree c.args.a c.loop-a.at (ne-apart c.loop-a.at c.args.a (sym c.ne.ensures ∙ c.loop-a-test.true)) (place_of c.in-Some.place) (sym c.parent_of.ensures.place ∙ ap place_if c.in-Some.is)
    ∙ c.loop-a.invariant

pub returns-in-None : goal.returns-in-None
returns-in-None c =
    sym (climb_end _ c.parent_of.ensures.tree.tree c.args.a c.loop-a.at (ne-apart c.loop-a.at c.args.a (sym c.ne.ensures ∙ c.loop-a-test.true)) (sym c.parent_of.ensures.place ∙ ap place_if c.in-None.is))
    ∙ c.loop-a.invariant

pub returns : goal.returns
returns c =
    sym (climb_here c.args.self.now.places c.args.a c.loop-a.at (sym (ne-same c.loop-a.at c.args.a (sym c.ne.ensures ∙ c.loop-a-test.false)))) ∙ c.loop-a.invariant
