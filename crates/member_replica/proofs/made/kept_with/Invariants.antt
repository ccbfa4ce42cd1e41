use Rattle.std.proofs.Common.{◌≡◌, List, length}
use Rattle.std.specs.List.{AllByRecursion}
use Rattle.cbor_det.specs.Unread.{unread}
use Rattle.model.specs.Change.{Change, IsChange}
use Rattle.model.specs.File.{spell_changes}
use Rattle.member_replica.proofs.WriteLaws.{TakesUp}
use Rattle.member_replica.proofs.made.kept_with.Given as goal

abbrev pub invariant-spelled : goal.invariant-spelled
invariant-spelled l = record {
  len : (unread l.cursor).len ≡ length l.spelled;
  takes : (cs : List Change) → AllByRecursion (IsChange l.n) cs → l.spelled ≡ spell_changes cs → TakesUp l.n l.kept cs l.all (unread l.cursor);
}

abbrev pub decreases-spelled : goal.decreases-spelled
decreases-spelled l = length (unread l.cursor).rest
