use Rattle.std.proofs.Common.{◌≡◌, Ok, ap, subst, ◌∙◌}
use Rattle.std.proofs.lemmas.Result.{err_from_is_err_and}
use Rattle.model.specs.File.{File, spell_file}
use Rattle.model.specs.Reading.{settled_in, with_settled}
use Rattle.model.specs.Text.{report_text}
use Rattle.member_replica.specs.Reports.{IsReport}
use Rattle.replica.specs.declared.head.FileHead.{FileHead}
use Rattle.replica.specs.declared.head.DocRef.{DocRef}
use Rattle.outline_meaning.specs.Meaning.{exactly, reads_two}
use Rattle.outline_meaning.specs.Outcome.{same_document}
use Rattle.outline_meaning.specs.Follows.{Refuses}
use Rattle.outline_cmd.proofs.DeliverLaws.{delivery_apart, delivery_means}
use Rattle.outline_cmd.proofs.WorkLaws.{decodes_none, builds_only, builds_and_receives}
use Rattle.outline_cmd.proofs.deliver.deliver_parts.Goals as goal

pub returns-in_err-check_document-clause-meant : goal.returns-in_err-check_document-clause-meant
returns-in_err-check_document-clause-meant c = λ other.
    let p = err_from_is_err_and c.from_residual.result c.from_residual.ensures.1 in
    let refusal = c.in_err-check_document.field-0.0 in
    let told = c.in_err-check_document.ensures.told c.args.parts (ap (λ (h : FileHead). h.doc) c.head.ensures.head) in
    rw (p.1, p.2) (delivery_apart (reads_two c.args.name.now other) c.args.parts c.args.offered.now refusal
    (subst (λ (d : DocRef). Refuses (exactly (same_document c.args.parts d.id d.n)) refusal) (ap (λ (h : FileHead). h.doc) c.head-2.ensures.head) told))

pub returns-clause-meant : goal.returns-clause-meant
returns-clause-meant c = λ other.
    let f = c.args.parts in
    let offered = c.args.offered.now in
    let received = c.in_ok-received.received in
    let is = c.in_ok-replica.ensures.is in
    let told = c.in_ok-check_document.ensures.told f (ap (λ (h : FileHead). h.doc) c.head.ensures.head) in
    let same = subst (λ (d : DocRef). Ok tt ≡ same_document f d.id d.n) (ap (λ (h : FileHead). h.doc) c.head-2.ensures.head) told in
    let report = subst (λ (g : File). IsReport received.report (settled_in g offered.kept)) is c.in_ok-received.ensures.report in
    delivery_means c.args.name.now other f offered c.in_ok-text.text c.in_ok-bytes.bytes same c.in_ok-replica.ensures.told
    (c.in_ok-text.ensures ∙ (λ i. report_text (report.report i) (report.waiting i)))
    (c.in_ok-bytes.ensures ∙ ap spell_file (c.in_ok-received.ensures.parts ∙ ap (λ (g : File). with_settled g (settled_in g offered.kept)) is))

pub returns-in_err-check_document-clause-works : goal.returns-in_err-check_document-clause-works
returns-in_err-check_document-clause-works c = decodes_none c.args.tally.now _

pub returns-in_err-replica-clause-works : goal.returns-in_err-replica-clause-works
returns-in_err-replica-clause-works c = builds_only c.args.parts _ c.args.tally.now c.replica_of.new.tally c.in_err-replica.ensures.tally

pub returns-in_err-received-clause-works : goal.returns-in_err-received-clause-works
returns-in_err-received-clause-works c =
    builds_and_receives c.args.parts c.in_ok-replica.replica c.args.offered.now.kept c.args.tally.now c.replica_of.new.tally c.receive.new.tally c.in_ok-replica.ensures.is c.in_ok-replica.ensures.tally c.in_err-received.ensures.tally

pub returns-in_err-text-clause-works : goal.returns-in_err-text-clause-works
returns-in_err-text-clause-works c =
    builds_and_receives c.args.parts c.in_ok-replica.replica c.args.offered.now.kept c.args.tally.now c.replica_of.new.tally c.receive.new.tally c.in_ok-replica.ensures.is c.in_ok-replica.ensures.tally c.in_ok-received.ensures.tally

pub returns-in_err-bytes-clause-works : goal.returns-in_err-bytes-clause-works
returns-in_err-bytes-clause-works c =
    builds_and_receives c.args.parts c.in_ok-replica.replica c.args.offered.now.kept c.args.tally.now c.replica_of.new.tally c.receive.new.tally c.in_ok-replica.ensures.is c.in_ok-replica.ensures.tally c.in_ok-received.ensures.tally

pub returns-clause-works : goal.returns-clause-works
returns-clause-works c =
    builds_and_receives c.args.parts c.in_ok-replica.replica c.args.offered.now.kept c.args.tally.now c.replica_of.new.tally c.receive.new.tally c.in_ok-replica.ensures.is c.in_ok-replica.ensures.tally c.in_ok-received.ensures.tally
