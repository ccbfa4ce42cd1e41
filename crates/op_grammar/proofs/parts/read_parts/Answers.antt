use Rattle.std.proofs.lemmas.Option.{IfSome_then}
use Rattle.cbor_det.specs.Unread.{unread}
use Rattle.op_grammar.proofs.PartsLaws.{seven_only, not_seven, no_row_there}
use Rattle.op_grammar.proofs.FoundLaws.{parts_found}
use Rattle.op_grammar.proofs.parts.read_parts.Goals as goal

pub returns-in_err-count-clause-item : goal.returns-in_err-count-clause-item
returns-in_err-count-clause-item c = no_row_there (unread c.args.cursor.now) (unread c.read_row.new.cursor) c.from_residual.result (cc (c.from_residual.ensures)) c.in_err-count.ensures.item

pub returns-then-count-ne-FIELDS-clause-item : goal.returns-then-count-ne-FIELDS-clause-item
returns-then-count-ne-FIELDS-clause-item c = not_seven (unread c.args.cursor.now) (unread c.read_row.new.cursor) c.in_ok-count.count c.if-count-ne-FIELDS.true c.in_ok-count.ensures.item

pub returns-clause-item : goal.returns-clause-item
returns-clause-item c = seven_only (unread c.args.cursor.now) (unread c.read_row.new.cursor) c.read_seven.result (rw c.if-count-ne-FIELDS.false at c.in_ok-count.ensures.item) c.read_seven.ensures.item

pub returns-clause-found : goal.returns-clause-found
returns-clause-found c = IfSome_then c.read_seven.result c.read_seven.ensures.found (λ p. parts_found (unread c.args.cursor.now) (unread c.read_row.new.cursor) (unread c.read_seven.new.cursor) p (rw c.if-count-ne-FIELDS.false at c.in_ok-count.ensures.took))
