use Rattle.std.proofs.Common.{◌≡◌, List, length}
use Rattle.cbor_det.specs.Item.{Item, Spells}
use Rattle.cbor_det.specs.Unread.{unread}
use Rattle.op_grammar.specs.Parts.{AreRead, LeftToRead}
use Rattle.op_grammar.proofs.check.are_operations.Given as goal

abbrev pub invariant-loop-read : goal.invariant-loop-read
invariant-loop-read l = record {
  before : AreRead l.n l.fn.body l.width l.read (unread l.cursor) l.left;
  behind : (xs : List Item) → Spells l.fn.body xs → length xs ≡ l.count → LeftToRead l.n xs l.width l.read (unread l.cursor) l.left;
}
