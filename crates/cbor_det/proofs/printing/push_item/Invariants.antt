use Rattle.std.proofs.Common.{◌≡◌, ◌++◌, ℕ, List, length, string_bytes, ◌+◌, ◌*◌}
use Rattle.cbor_det.specs.Item.{Item, IsSpelled, spell}
use Rattle.cbor_det.specs.Notation.{notation}
use Rattle.cbor_det.specs.Printing.{IsPrinting}
use Rattle.cbor_det.proofs.printing.push_item.Given as goal

abbrev pub invariant-loop-task : goal.invariant-loop-task
invariant-loop-task l = (x : Item) (more : List ℕ) → IsSpelled x → l.bytes ≡ spell x ++ more → IsPrinting (string_bytes l.fn.out ++ notation x) more l.tasks.items l.rest (string_bytes l.out)

abbrev pub decreases-loop-task : goal.decreases-loop-task
decreases-loop-task l = 2 * length l.rest + length l.tasks.items
