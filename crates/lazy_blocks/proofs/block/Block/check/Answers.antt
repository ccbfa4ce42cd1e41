use Rattle.std.proofs.Common.{rules, arith}
use Rattle.std.proofs.lemmas.Result.{err_from_is_err_and}
use Rattle.cbor_det.specs.Head.{IsBytes}
use Rattle.lazy_blocks.proofs.BlockLaws.{block_made}
use Rattle.lazy_blocks.proofs.block.Block.check.Goals as goal

pub returns-in_err-head-clause-err : goal.returns-in_err-head-clause-err
returns-in_err-head-clause-err c = let p = err_from_is_err_and c.from_residual.result c.from_residual.ensures.1 in rw (p.1, p.2) c.in_err-head.ensures

pub invariant_of-result : goal.invariant_of-result
invariant_of-result c =
    let i = c.requires.item in
    let fits : IsBytes c.args.span.now = search rules in
    (block_made c.args.n (record { head = c.in_ok-head.head; span = c.args.span; body = c.in_ok-head.body }) (omega arith) fits i.0 i.1 i.2 (c.in_ok-head.ensures i.0 i.1 i.2)).parts

pub returns-clause-ok : goal.returns-clause-ok
returns-clause-ok c =
    let i = c.requires.item in
    let fits : IsBytes c.args.span.now = search rules in
    let made = block_made c.args.n (record { head = c.in_ok-head.head; span = c.args.span; body = c.in_ok-head.body }) (omega arith) fits i.0 i.1 i.2 (c.in_ok-head.ensures i.0 i.1 i.2) in
    (made.span, made.is)
