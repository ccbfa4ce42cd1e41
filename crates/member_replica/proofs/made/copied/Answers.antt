use Rattle.std.proofs.Common.{◌++◌, ◌∷◌, [], sym, ◌∙◌}
use Rattle.replica.proofs.PartLaws.{take_next}
use Rattle.member_replica.proofs.made.copied.Goals as goal

pub blocks-2-preserved : goal.blocks-2-preserved
blocks-2-preserved c = c.in_ok-push.ensures.ok ∙ (λ i. c.blocks-2.invariant i ++ c.copy.ensures i ∷ []) ∙ sym (take_next c.args.shelf.now c.blocks-2.i c.at.result.now c.at.ensures)
