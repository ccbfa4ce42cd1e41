use Rattle.std.proofs.Common.{◌∙◌, arith, ap, length, max, get_or}
use Rattle.std.proofs.Math.ListN.{length-set}
use Rattle.cbor_det.specs.Unread.{unread}
use Rattle.op_grammar.proofs.PartsLaws.{count_stops, count_too_great, count_more, count_ends}
use Rattle.op_grammar.proofs.head.read_counts.Goals as goal

pub returns-in_err-count-clause-numbers : goal.returns-in_err-count-clause-numbers
returns-in_err-count-clause-numbers c = count_stops c.args.n c.loop-member.member (unread c.args.causes.now) (unread c.loop-member.causes) (unread c.read_number.new.cursor) c.loop-member.counts c.loop-member.invariant.counted c.loop-member-test.true c.in_err-count.ensures.item c.from_residual.result (cc (c.from_residual.ensures))

pub returns-then-count-gt-MAX_NUMBER-clause-numbers : goal.returns-then-count-gt-MAX_NUMBER-clause-numbers
returns-then-count-gt-MAX_NUMBER-clause-numbers c = count_too_great c.args.n c.loop-member.member (unread c.args.causes.now) (unread c.loop-member.causes) (unread c.read_number.new.cursor) c.loop-member.counts c.loop-member.invariant.counted c.loop-member-test.true c.in_ok-count.count (omega arith) c.in_ok-count.ensures.item

pub loop-member-preserved : goal.loop-member-preserved
loop-member-preserved c =
    let counted = count_more c.args.n c.loop-member.member (unread c.args.causes.now) (unread c.loop-member.causes) (unread c.read_number.new.cursor) c.loop-member.counts c.loop-member.invariant.counted c.loop-member-test.true c.in_ok-count.count (omega arith) c.in_ok-count.ensures.item in
    record {
      sizes = ap length c.raise.ensures ∙ length-set c.loop-member.counts c.loop-member.member (max (get_or c.loop-member.counts c.loop-member.member 0) c.in_ok-count.count) ∙ c.loop-member.invariant.sizes;
      counted = rw c.raise.ensures counted;
    }

pub returns-clause-numbers : goal.returns-clause-numbers
returns-clause-numbers c = count_ends c.args.n c.loop-member.member (unread c.args.causes.now) (unread c.loop-member.causes) c.loop-member.counts c.loop-member.invariant.counted (omega arith)
