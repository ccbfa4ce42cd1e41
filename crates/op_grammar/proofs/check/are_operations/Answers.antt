use Rattle.std.proofs.Common.{arith, ap}
use Rattle.std.proofs.lemmas.Bool.{eqb-true}
use Rattle.cbor_det.specs.Unread.{Unread, unread}
use Rattle.op_grammar.specs.Operations.{operation_of}
use Rattle.op_grammar.proofs.BodyLaws.{left_all, none_read, op_stops, op_too_wide, op_read, more_read, left_none, none_left, all_read}
use Rattle.op_grammar.proofs.check.are_operations.Goals as goal

pub returns-in_default : goal.returns-in_default
returns-in_default c = (λ yes. absurd cc, λ h. absurd (op_stops c.args.n c.args.body.now c.args.count c.args.width c.loop-read.read (unread c.loop-read.cursor) (unread c.read_operation.new.cursor) c.loop-read.left c.loop-read.invariant.behind c.loop-read-test.true c.in_default.ensures.item h.0 h.1 h.2 h.3))

pub returns-then-ids-left : goal.returns-then-ids-left
returns-then-ids-left c = (
  λ yes. absurd cc,
  λ h. absurd (op_too_wide c.args.n c.args.body.now c.args.count c.args.width c.loop-read.read (unread c.loop-read.cursor) (unread c.read_operation.new.cursor) c.loop-read.left c.loop-read.invariant.behind c.in-Some.op c.in-Some.ensures.item c.loop-read-test.true
      (omega (arith, c.if-ids-left.true, c.from-ids.ensures, c.width_of.ensures)) h.0 h.1 h.2 h.3),
)

pub loop-read-init : goal.loop-read-init
loop-read-init c = record {
  before = none_read c.args.n c.args.body.now c.args.width (unread c.new-cursor.result) (ap (λ (u : Unread). u.rest) c.new-cursor.ensures);
  behind = left_all c.args.n c.args.body.now c.args.count c.args.width (unread c.new-cursor.result) (ap (λ (u : Unread). u.rest) c.new-cursor.ensures);
}

pub loop-read-preserved : goal.loop-read-preserved
loop-read-preserved c = rw (c.from-ids.ensures, c.width_of.ensures) (record {
  before = more_read c.args.n c.args.body.now c.args.width c.loop-read.read (unread c.loop-read.cursor) (unread c.read_operation.new.cursor) c.loop-read.left c.loop-read.invariant.before (operation_of c.in-Some.op) c.in-Some.ensures.found.0 c.in-Some.ensures.found.1
      (omega (arith, c.if-ids-left.false, c.from-ids.ensures, c.width_of.ensures));
  behind = op_read c.args.n c.args.body.now c.args.count c.args.width c.loop-read.read (unread c.loop-read.cursor) (unread c.read_operation.new.cursor) c.loop-read.left c.loop-read.invariant.behind c.in-Some.op c.in-Some.ensures.item c.loop-read-test.true
      (omega (arith, c.if-ids-left.false, c.from-ids.ensures, c.width_of.ensures));
})

pub returns-then-left-eq0 : goal.returns-then-left-eq0
returns-then-left-eq0 c = (
  λ yes. all_read c.args.n c.args.body.now c.args.count c.args.width c.loop-read.read (unread c.loop-read.cursor) c.loop-read.left (omega arith) (omega arith) c.loop-read.invariant.before (omega arith) c.if-left-eq0.true (c.is_end.ensures.0 yes),
  λ h. c.is_end.ensures.1 (none_left c.args.n c.args.body.now c.args.count c.args.width c.loop-read.read (unread c.loop-read.cursor) c.loop-read.left c.loop-read.invariant.behind (omega arith) h.0 h.1 h.2),
)

pub returns-else-left-eq0 : goal.returns-else-left-eq0
returns-else-left-eq0 c = (
  λ yes. absurd (c.if-left-eq0.false (eqb-true c.loop-read.left 0 yes)),
  λ h. absurd (c.if-left-eq0.false ((left_none c.args.n c.args.body.now c.args.count c.args.width c.loop-read.read (unread c.loop-read.cursor) c.loop-read.left c.loop-read.invariant.behind (omega arith) h.0 h.1 h.2).0 h.3)),
)
