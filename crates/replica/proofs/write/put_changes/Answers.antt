use Rattle.std.proofs.Common.{◌++◌, ◌∙◌}
use Rattle.replica.proofs.WriteLaws.{changes_more}
use Rattle.replica.proofs.write.put_changes.Goals as goal

pub changes-preserved : goal.changes-preserved
changes-preserved c =
    c.in_ok-extend_from_slice.ensures.items ∙ (λ i. c.changes.invariant i ++ c.bytes.ensures i) ∙ changes_more c.args.out.now.items c.args.shelf.now c.changes.i c.at.result.now c.at.ensures
