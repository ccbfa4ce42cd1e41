use Rattle.std.proofs.Common.{sym, subst}
use Rattle.outline_words.specs.Commands.{IsOrder}
use Rattle.outline_words.specs.Table.{Order}
use Rattle.outline_meaning.specs.Meaning.{exactly, input_bytes, roles}
use Rattle.outline_meaning.specs.Follows.{Follows}
use Rattle.outline_cmd.specs.Stages.{answer_of}
use Rattle.outline_cmd.specs.Tasks.{Tells, order_made_of, over}
use Rattle.outline_meaning.specs.Works.{OrderWorks}
use Rattle.outline_cmd.specs.declared.scope.Task.{Task}
use Rattle.outline_cmd.proofs.WorkLaws.{idle}
use Rattle.outline_cmd.proofs.program.make.Goals as goal

pub returns-in-Found-clause-meant : goal.returns-in-Found-clause-meant
returns-in-Found-clause-meant c = λ order load does follows.
    let same = subst (λ (t : Task). Tells t order) c.in-Found.is does.tells in
    subst (λ (o : Order). Follows answer_of c.found.result (order_made_of o c.args.bytes.now load)) (sym same) (c.found.ensures c.args.bytes.now load)

pub returns-in-Edit-clause-meant : goal.returns-in-Edit-clause-meant
returns-in-Edit-clause-meant c = λ order load does follows.
    let (e, says, same) = subst (λ (t : Task). Tells t order) c.in-Edit.is does.tells in
    let form = subst IsOrder same does.in_form in
    subst (λ (o : Order). Follows answer_of c.edit_file.result (order_made_of o c.args.bytes.now load)) (sym same) (c.edit_file.ensures.meant e load says form)

pub returns-in-Ack-clause-meant : goal.returns-in-Ack-clause-meant
returns-in-Ack-clause-meant c = λ order load does follows.
    let same = subst (λ (t : Task). Tells t order) c.in-Ack.is does.tells in
    subst (λ (o : Order). Follows answer_of c.ack_file.result (order_made_of o c.args.bytes.now load)) (sym same) (c.ack_file.ensures load)

pub returns-in-Show-clause-meant : goal.returns-in-Show-clause-meant
returns-in-Show-clause-meant c = λ order load does follows.
    let same = subst (λ (t : Task). Tells t order) c.in-Show.is does.tells in
    subst (λ (o : Order). Follows answer_of c.show_file.result (order_made_of o c.args.bytes.now load)) (sym same) (c.show_file.ensures.meant c.in-Show.name.now load)

pub returns-in-Items-clause-meant : goal.returns-in-Items-clause-meant
returns-in-Items-clause-meant c = λ order load does follows.
    let same = subst (λ (t : Task). Tells t order) c.in-Items.is does.tells in
    subst (λ (o : Order). Follows answer_of c.items.result (order_made_of o c.args.bytes.now load)) (sym same) (c.items.ensures c.in-Items.name.now load)

pub returns-in-Bundle-clause-meant : goal.returns-in-Bundle-clause-meant
returns-in-Bundle-clause-meant c = λ order load does follows.
    let same = subst (λ (t : Task). Tells t order) c.in-Bundle.is does.tells in
    subst (λ (o : Order). Follows answer_of c.bundle_file.result (order_made_of o c.args.bytes.now load)) (sym same) (c.bundle_file.ensures c.in-Bundle.name.now load)

pub returns-in-Deliver-clause-meant : goal.returns-in-Deliver-clause-meant
returns-in-Deliver-clause-meant c = λ order load does follows.
    let same = subst (λ (t : Task). Tells t order) c.in-Deliver.is does.tells in
    subst (λ (o : Order). Follows answer_of c.deliver_file.result (order_made_of o c.args.bytes.now load)) (sym same)
    (c.deliver_file.ensures.meant c.in-Deliver.offered.now load (subst (λ (o : Order). Follows (λ b. b.items) c.args.second.now (exactly (input_bytes (roles o).second load))) same follows))

pub returns-in-Found-clause-works : goal.returns-in-Found-clause-works
returns-in-Found-clause-works c = λ order load does follows. idle order (over c.args.bytes.now load) c.args.tally.now

pub returns-in-Edit-clause-works : goal.returns-in-Edit-clause-works
returns-in-Edit-clause-works c = λ order load does follows.
    let (e, says, same) = subst (λ (t : Task). Tells t order) c.in-Edit.is does.tells in
    subst (λ (o : Order). OrderWorks o (over c.args.bytes.now load) c.args.tally.now c.edit_file.new.tally) (sym same) (c.edit_file.ensures.works load)

pub returns-in-Ack-clause-works : goal.returns-in-Ack-clause-works
returns-in-Ack-clause-works c = λ order load does follows. idle order (over c.args.bytes.now load) c.args.tally.now

pub returns-in-Show-clause-works : goal.returns-in-Show-clause-works
returns-in-Show-clause-works c = λ order load does follows.
    let same = subst (λ (t : Task). Tells t order) c.in-Show.is does.tells in
    subst (λ (o : Order). OrderWorks o (over c.args.bytes.now load) c.args.tally.now c.show_file.new.tally) (sym same) (c.show_file.ensures.works load)

pub returns-in-Items-clause-works : goal.returns-in-Items-clause-works
returns-in-Items-clause-works c = λ order load does follows. idle order (over c.args.bytes.now load) c.args.tally.now

pub returns-in-Bundle-clause-works : goal.returns-in-Bundle-clause-works
returns-in-Bundle-clause-works c = λ order load does follows. idle order (over c.args.bytes.now load) c.args.tally.now

pub returns-in-Deliver-clause-works : goal.returns-in-Deliver-clause-works
returns-in-Deliver-clause-works c = λ order load does follows.
    let same = subst (λ (t : Task). Tells t order) c.in-Deliver.is does.tells in
    subst (λ (o : Order). OrderWorks o (over c.args.bytes.now load) c.args.tally.now c.deliver_file.new.tally) (sym same)
    (c.deliver_file.ensures.works load (subst (λ (o : Order). Follows (λ b. b.items) c.args.second.now (exactly (input_bytes (roles o).second load))) same follows))
