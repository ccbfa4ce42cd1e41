use Rattle.std.proofs.Common.{sym, ◌∙◌}
use Rattle.cbor_det.specs.Unread.{unread}
use Rattle.op_grammar.proofs.PartsLaws.{causes_no_row, causes_other, causes_read}
use Rattle.op_grammar.proofs.head.read_causes.Goals as goal

pub returns-in_err-count-clause-numbers : goal.returns-in_err-count-clause-numbers
returns-in_err-count-clause-numbers c = causes_no_row c.args.n (unread c.args.causes) (unread c.read_row.new.cursor) c.in_err-count.ensures.item c.from_residual.result (cc (c.from_residual.ensures))

pub returns-then-count-from-clause-numbers : goal.returns-then-count-from-clause-numbers
returns-then-count-from-clause-numbers c = causes_other c.args.n (unread c.args.causes) (unread c.read_row.new.cursor) c.in_ok-count.count c.in_ok-count.ensures.item (λ e. c.if-count-from.true (e ∙ sym c.from.ensures))

pub returns-clause-numbers : goal.returns-clause-numbers
returns-clause-numbers c = causes_read c.args.n (unread c.args.causes) (unread c.read_row.new.cursor) c.in_ok-count.count c.in_ok-count.ensures.item (cc (c.if-count-from.false, c.from.ensures)) c.read_counts.result c.read_counts.ensures.numbers
