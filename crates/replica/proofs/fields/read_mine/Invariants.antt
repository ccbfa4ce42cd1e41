use Rattle.cbor_det.specs.Unread.{unread}
use Rattle.replica.proofs.FieldLaws.{MineSoFar}
use Rattle.replica.proofs.fields.read_mine.Given as goal

abbrev pub invariant-mine : goal.invariant-mine
invariant-mine l = MineSoFar l.n l.read l.least l.mine (unread l.initial.cursor) (unread l.cursor)
