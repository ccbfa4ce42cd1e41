use Rattle.std.proofs.Common.{arith}
use Rattle.std.proofs.lemmas.Option.{IfSome_then}
use Rattle.cbor_det.specs.Unread.{unread}
use Rattle.op_grammar.proofs.PartsLaws.{row_passed}
use Rattle.op_grammar.proofs.FoundLaws.{row_found}
use Rattle.op_grammar.proofs.parts.skip_row.Goals as goal

pub returns-clause-item : goal.returns-clause-item
returns-clause-item c = row_passed c.in_ok-count.count (unread c.args.cursor.now) (unread c.read_row.new.cursor) (unread c.skip_numbers.new.cursor) c.skip_numbers.result c.in_ok-count.ensures.item c.skip_numbers.ensures.item

pub returns-clause-found : goal.returns-clause-found
returns-clause-found c = IfSome_then c.skip_numbers.result c.skip_numbers.ensures.found (λ _. row_found c.in_ok-count.count (unread c.args.cursor.now) (unread c.read_row.new.cursor) (unread c.skip_numbers.new.cursor) (omega arith) c.in_ok-count.ensures.took)
