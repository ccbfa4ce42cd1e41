use Rattle.std.proofs.Common.{◌≡◌, Ok, Err, sym}
use Rattle.outline_words.specs.Table.{Order}
use Rattle.outline_words.proofs.OrderForms.{in_form}
use Rattle.outline_meaning.specs.Meaning.{ordered}
use Rattle.outline_meaning.specs.Scope.{taken_order}
use Rattle.outline_cmd.specs.Tasks.{Does}
use Rattle.outline_cmd.specs.declared.scope.Task.{Task}
use Rattle.outline_meaning.specs.declared.status.Status.{Status}
use Rattle.outline_cmd.proofs.OrderLaws.{wrong_refused, order_refused, order_given, if_ok, if_err}
use Rattle.outline_cmd.proofs.program.read_task.Goals as goal

pub returns-in-Ok-clause-ok : goal.returns-in-Ok-clause-ok
returns-in-Ok-clause-ok c =
    let (order, says, spell) = c.in-Ok.ensures.command in
    if_ok c.take.result (λ (task : Task). Does task order × (taken_order order ≡ Ok tt)) (λ (task : Task). (x : Order) × Does task x × ordered 0 c.args.words.now (Ok x))
    (λ task both. (order, both.0, order_given c.args.words.now order (sym c.if-names_untaken.ensures) spell both.1)) (c.take.ensures.ok order says (in_form c.args.words.now order spell))

pub returns-in-Ok-clause-err : goal.returns-in-Ok-clause-err
returns-in-Ok-clause-err c =
    let (order, says, spell) = c.in-Ok.ensures.command in
    if_err c.take.result (λ (status : Status). taken_order order ≡ Err status) (λ (status : Status). ordered 0 c.args.words.now (Err status))
    (λ status refuses. order_refused c.args.words.now order status (sym c.if-names_untaken.ensures) spell refuses) (c.take.ensures.err order says)

pub returns-in-Err-clause-err : goal.returns-in-Err-clause-err
returns-in-Err-clause-err c = wrong_refused c.args.words.now c.in-Err.fault.word (sym c.if-names_untaken.ensures) c.in-Err.ensures.wrong
