use Rattle.std.proofs.Common.{arith}
use Rattle.cbor_det.specs.Unread.{unread}
use Rattle.lazy_blocks.proofs.BlockLaws.{block_taken}
use Rattle.lazy_blocks.proofs.block.Block.take.Goals as goal

pub invariant_of-result : goal.invariant_of-result
invariant_of-result c = (block_taken c.args.n (unread c.args.cursor.now) (unread c.take_change.new.cursor) c.in_ok-taken.taken (omega arith) c.in_ok-taken.ensures.found).0.parts

pub returns-clause-found : goal.returns-clause-found
returns-clause-found c =
    let made = block_taken c.args.n (unread c.args.cursor.now) (unread c.take_change.new.cursor) c.in_ok-taken.taken (omega arith) c.in_ok-taken.ensures.found in
    (made.0.is, made.1)
