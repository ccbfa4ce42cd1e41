use Rattle.std.proofs.Common.{◌≡◌, ◌∙◌, refl, subst, arith}
use Rattle.cbor_det.specs.Unread.{unread}
use Rattle.op_grammar.specs.Parts.{FoundNumbers}
use Rattle.op_grammar.proofs.PartsLaws.{pass_stops, pass_none, pass_more, pass_ends}
use Rattle.op_grammar.proofs.FoundLaws.{none_found, more_found}
use Rattle.op_grammar.proofs.parts.skip_numbers.Goals as goal

pub returns-in_err-read_number-clause-item : goal.returns-in_err-read_number-clause-item
returns-in_err-read_number-clause-item c = pass_stops c.args.count c.loop-passed.passed (unread c.args.cursor.now) (unread c.loop-passed.cursor) (unread c.read_number.new.cursor) c.loop-passed.invariant.passed c.loop-passed-test.true c.in_err-read_number.ensures.item c.from_residual.result (cc (c.from_residual.ensures)) (unread c.read_number.new.cursor)

pub loop-passed-init : goal.loop-passed-init
loop-passed-init c = record { passed = pass_none c.args.count (unread c.args.cursor.now); found = none_found (unread c.args.cursor.now); len = refl }

pub loop-passed-preserved : goal.loop-passed-preserved
loop-passed-preserved c =
    let before = unread c.args.cursor.now in
    let now = unread c.loop-passed.cursor in
    let behind = unread c.read_number.new.cursor in
    let i = c.loop-passed.invariant in
    record {
      passed = pass_more c.args.count c.loop-passed.passed before now behind i.passed c.loop-passed-test.true c.in_ok-read_number.field-0 c.in_ok-read_number.ensures.item;
      found = more_found c.loop-passed.passed before now behind i.found c.in_ok-read_number.field-0 (omega arith) c.in_ok-read_number.ensures.took;
      len = c.in_ok-read_number.ensures.len ∙ i.len;
    }

pub returns-clause-item : goal.returns-clause-item
returns-clause-item c = pass_ends c.args.count c.loop-passed.passed (unread c.args.cursor.now) (unread c.loop-passed.cursor) (unread c.loop-passed.cursor) c.loop-passed.invariant.passed (omega arith) c.args.count

pub returns-clause-found : goal.returns-clause-found
returns-clause-found c =
    let all : c.loop-passed.passed ≡ c.args.count = omega arith in
    subst (λ k. FoundNumbers k (unread c.args.cursor.now) (unread c.loop-passed.cursor)) all c.loop-passed.invariant.found
