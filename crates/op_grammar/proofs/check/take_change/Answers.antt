use Rattle.std.proofs.Common.{◌-◌, ◌∙◌, length, take, ap, arith, length-append}
use Rattle.cbor_det.specs.Item.{spell}
use Rattle.cbor_det.specs.Unread.{unread}
use Rattle.model.specs.Change.{parts_item}
use Rattle.op_grammar.specs.Rules.{rule_of}
use Rattle.op_grammar.proofs.CheckLaws.{first_of_all, change_taken, no_parts, parts_break}
use Rattle.op_grammar.proofs.check.take_change.Goals as goal

pub returns-in_err-parts-clause-none : goal.returns-in_err-parts-clause-none
returns-in_err-parts-clause-none c = λ _. no_parts c.args.n (omega arith) (unread c.args.cursor.now) c.in_err-parts.ensures.item

pub returns-in_default-clause-none : goal.returns-in_default-clause-none
returns-in_default-clause-none c = λ _. parts_break c.args.n (omega arith) (unread c.args.cursor.now) c.in_default.field-0 c.in_ok-parts.parts c.in_ok-parts.ensures.item
    (λ x whole. first_of_all c.args.n x (rule_of c.in_default.field-0) (c.in_default.ensures x whole))

pub returns-in_default-check_body-clause-none : goal.returns-in_default-check_body-clause-none
returns-in_default-check_body-clause-none c = λ _. parts_break c.args.n (omega arith) (unread c.args.cursor.now) c.in_default-check_body.field-0 c.in_ok-parts.parts c.in_ok-parts.ensures.item
    (λ x whole. c.in_default-check_body.ensures x (c.in-Ok.ensures x whole))

pub returns-clause-found : goal.returns-clause-found
returns-clause-found c = change_taken c.args.n (unread c.args.cursor.now) (unread c.read_parts.new.cursor) c.in_ok-parts.parts c.in-Ok.said _ c.in_ok-parts.ensures.found c.in-Ok.ensures c.in-Ok-check_body.ensures
    (c.taken_from-span.ensures.value ∙ (λ i. take (length (c.rest-rest.ensures i) - length (c.rest.ensures i)) (c.rest-rest.ensures i))) c.taken_from-span.ensures.fits

pub taken_from-span-requires : goal.taken_from-span-requires
taken_from-span-requires c =
    let took = c.in_ok-parts.ensures.found.3 in
    let text = spell (parts_item c.in_ok-parts.ensures.found.0) in
    omega (arith, ap length took, length-append text (unread c.read_parts.new.cursor).rest, ap length c.rest-rest.ensures, ap length c.rest.ensures)
