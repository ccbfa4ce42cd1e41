use Rattle.std.proofs.Common.{◌<◌, ◌^◌, length, Err, ap, ◌∙◌, arith}
use Rattle.std.proofs.lemmas.Result.{err_from_is_err_and}
use Rattle.model.specs.Change.{body}
use Rattle.op_grammar.specs.Operations.{operations_of}
use Rattle.op_grammar.proofs.SpellingLaws.{broken_first, written_whole, appended}
use Rattle.op_grammar.proofs.change.write_change.Goals as goal

pub returns-in_err-check_change-clause-rule : goal.returns-in_err-check_change-clause-rule
returns-in_err-check_change-clause-rule c = λ rule e.
    let p = err_from_is_err_and c.from_residual-in_err-check_change.result c.from_residual-in_err-check_change.ensures.1 in
    let short : length c.in_ok-change.change.items < 2 ^ 64 = omega (arith, c.in_ok-change.change.ok.0, c.in_ok-change.change.ok.1, c.in_ok-change.change.small) in
    broken_first (length c.args.head.now.causes) c.len.result c.args.head.now (operations_of c.args.ops.now) c.deref.result.now c.in_ok-change.change.items c.deref-2.result.now c.len.ensures.value
    (c.deref.ensures.value ∙ c.in_ok-body.ensures.spelled ∙ ap (λ os. body (operations_of os)) c.as_slice.ensures) c.in_ok-change.ensures.spelled c.in_ok-change.ensures.plain c.deref-2.ensures.value short
    rule c.in_err-check_change.field-0.0 c.from_residual-in_err-check_change.result (p.1 ∙ ap Err p.2) c.in_err-check_change.ensures e

pub returns-clause-kept : goal.returns-clause-kept
returns-clause-kept c =
    let short : length c.in_ok-change.change.items < 2 ^ 64 = omega (arith, c.in_ok-change.change.ok.0, c.in_ok-change.change.ok.1, c.in_ok-change.change.small) in
    let few : length c.deref.result.now < 2 ^ 64 = omega (arith, c.in_ok-body.body.ok.0, c.in_ok-body.body.ok.1, c.in_ok-body.body.small, ap length c.deref.ensures.value) in
    let plain = rw c.as_slice.ensures at c.in_ok-body.ensures.plain in
    (written_whole (length c.args.head.now.causes) c.len.result c.args.head.now (operations_of c.args.ops.now) c.deref.result.now c.in_ok-change.change.items c.deref-2.result.now c.len.ensures.value
    (c.deref.ensures.value ∙ c.in_ok-body.ensures.spelled ∙ ap (λ os. body (operations_of os)) c.as_slice.ensures) c.in_ok-change.ensures.spelled c.in_ok-change.ensures.plain c.deref-2.ensures.value short
    c.in_ok-check_change.field-0 (omega (arith, c.len.ensures.value, c.len.ensures.few)) plain few c.in_ok-check_change.ensures).is

pub returns-clause-head : goal.returns-clause-head
returns-clause-head c =
    let short : length c.in_ok-change.change.items < 2 ^ 64 = omega (arith, c.in_ok-change.change.ok.0, c.in_ok-change.change.ok.1, c.in_ok-change.change.small) in
    let few : length c.deref.result.now < 2 ^ 64 = omega (arith, c.in_ok-body.body.ok.0, c.in_ok-body.body.ok.1, c.in_ok-body.body.small, ap length c.deref.ensures.value) in
    let plain = rw c.as_slice.ensures at c.in_ok-body.ensures.plain in
    (written_whole (length c.args.head.now.causes) c.len.result c.args.head.now (operations_of c.args.ops.now) c.deref.result.now c.in_ok-change.change.items c.deref-2.result.now c.len.ensures.value
    (c.deref.ensures.value ∙ c.in_ok-body.ensures.spelled ∙ ap (λ os. body (operations_of os)) c.as_slice.ensures) c.in_ok-change.ensures.spelled c.in_ok-change.ensures.plain c.deref-2.ensures.value short
    c.in_ok-check_change.field-0 (omega (arith, c.len.ensures.value, c.len.ensures.few)) plain few c.in_ok-check_change.ensures).head

pub returns-clause-ok : goal.returns-clause-ok
returns-clause-ok c =
    let short : length c.in_ok-change.change.items < 2 ^ 64 = omega (arith, c.in_ok-change.change.ok.0, c.in_ok-change.change.ok.1, c.in_ok-change.change.small) in
    let few : length c.deref.result.now < 2 ^ 64 = omega (arith, c.in_ok-body.body.ok.0, c.in_ok-body.body.ok.1, c.in_ok-body.body.small, ap length c.deref.ensures.value) in
    let plain = rw c.as_slice.ensures at c.in_ok-body.ensures.plain in
    let b_is = c.deref.ensures.value ∙ c.in_ok-body.ensures.spelled ∙ ap (λ os. body (operations_of os)) c.as_slice.ensures in
    let w = written_whole (length c.args.head.now.causes) c.len.result c.args.head.now (operations_of c.args.ops.now) c.deref.result.now c.in_ok-change.change.items c.deref-2.result.now c.len.ensures.value
    b_is c.in_ok-change.ensures.spelled c.in_ok-change.ensures.plain c.deref-2.ensures.value short
    c.in_ok-check_change.field-0 (omega (arith, c.len.ensures.value, c.len.ensures.few)) plain few c.in_ok-check_change.ensures in
    appended (length c.args.head.now.causes) c.len.result c.args.head.now (operations_of c.args.ops.now) c.deref.result.now c.in_ok-change.change.items c.deref-3.result.now c.len.ensures.value
    b_is c.in_ok-change.ensures.spelled c.in_ok-change.ensures.plain c.deref-3.ensures.value short c.args.out.now.items c.extend_from_slice.new.self.items c.in_ok-extend_from_slice.ensures.items w
