use Rattle.std.proofs.Common.{refl, arith}
use Rattle.cbor_det.specs.Unread.{unread}
use Rattle.op_grammar.proofs.PartsLaws.{first_three_not, causes_not, rest_not, seven_read}
use Rattle.op_grammar.proofs.FoundLaws.{seven_found}
use Rattle.op_grammar.proofs.parts.read_seven.Goals as goal

pub returns-in_err-member-clause-item : goal.returns-in_err-member-clause-item
returns-in_err-member-clause-item c = first_three_not (unread c.args.cursor.now) (unread c.read_numbers.new.cursor) c.from_residual.result (cc (c.from_residual.ensures)) c.in_err-member.ensures.item

pub returns-in_err-skip_row-clause-item : goal.returns-in_err-skip_row-clause-item
returns-in_err-skip_row-clause-item c = causes_not (unread c.args.cursor.now) (unread c.read_numbers.new.cursor) (unread c.skip_row.new.cursor) (c.in_ok-member.member, (c.in_ok-member.number, c.in_ok-member.time)) c.in_ok-member.ensures.item c.from_residual-in_err-skip_row.result (cc (c.from_residual-in_err-skip_row.ensures)) c.in_err-skip_row.ensures.item

pub returns-in_err-count-clause-item : goal.returns-in_err-count-clause-item
returns-in_err-count-clause-item c = rest_not (unread c.args.cursor.now) (unread c.read_numbers.new.cursor) (unread c.skip_row.new.cursor) (c.in_ok-member.member, (c.in_ok-member.number, c.in_ok-member.time)) c.in_ok-member.ensures.item (unread c.read_rest.new.cursor) c.in_ok-skip_row.field-0 c.from_residual-in_err-count.result (cc (c.from_residual-in_err-count.ensures)) c.in_ok-skip_row.ensures.item c.in_err-count.ensures.item

pub returns-clause-item : goal.returns-clause-item
returns-clause-item c = seven_read (unread c.args.cursor.now) (unread c.read_numbers.new.cursor) (unread c.skip_row.new.cursor) (c.in_ok-member.member, (c.in_ok-member.number, c.in_ok-member.time)) c.in_ok-member.ensures.item (unread c.read_rest.new.cursor) c.in_ok-skip_row.field-0 _ refl refl refl refl c.in_ok-skip_row.ensures.item c.in_ok-count.ensures.item

pub returns-clause-found : goal.returns-clause-found
returns-clause-found c =
    let fits = c.in_ok-count.ensures.fits in
    seven_found (unread c.args.cursor.now) (unread c.read_numbers.new.cursor) (unread c.skip_row.new.cursor) (unread c.read_rest.new.cursor) _ refl
    (omega arith, omega arith, omega arith, fits.0, fits.1, fits.2) c.in_ok-member.ensures.took c.in_ok-skip_row.ensures.found c.in_ok-count.ensures.item.found.1
