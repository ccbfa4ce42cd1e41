use Rattle.std.proofs.Common.{◌∙◌, sym}
use Rattle.tree_move.specs.Parents.{place_if}
use Rattle.tree_move.proofs.PlaceLaws.{not_above, some-place_if, none_from_is_some}
use Rattle.tree_move.proofs.parents.Parents.makes_cycle.Goals as goal

pub returns-else-is_some : goal.returns-else-is_some
returns-else-is_some c =
    c.if-is_some.false
    ∙ sym (not_above c.args.self.now.places c.requires.tree c.args.child c.args.parent c.requires.below
    (sym c.requires.before ∙ none_from_is_some (place_if c.args.before) (some-place_if c.args.before ∙ sym c.is_some.ensures ∙ c.if-is_some.false)) c.requires.parent)
