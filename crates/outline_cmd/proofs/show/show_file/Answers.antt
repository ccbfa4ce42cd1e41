use Rattle.std.proofs.Common.{inl, None, Ok, Err, refl, ap, ◌∙◌}
use Rattle.std.proofs.lemmas.Result.{err_from_is_err_and}
use Rattle.model.specs.Reading.{state_in}
use Rattle.model.specs.Text.{show_text}
use Rattle.model.specs.View.{view}
use Rattle.outline_cmd.specs.declared.answer.Answer.{Answer}
use Rattle.outline_meaning.specs.Meaning.{based_files, reads}
use Rattle.outline_meaning.specs.Outcome.{fitting, printed, shown}
use Rattle.outline_cmd.proofs.InputLaws.{input_refuses, input_follows, step_refuses, show_means}
use Rattle.outline_cmd.proofs.OpenLaws.{not_among_based, opened_based}
use Rattle.outline_cmd.proofs.WorkLaws.{reads_only, reads_and_moves}
use Rattle.outline_cmd.proofs.show.show_file.Goals as goal

pub returns-in_err-parts-clause-meant : goal.returns-in_err-parts-clause-meant
returns-in_err-parts-clause-meant c = λ name second.
    let p = err_from_is_err_and c.from_residual.result c.from_residual.ensures.1 in
    rw (p.1, p.2) (input_refuses (reads name) based_files c.args.bytes.now second shown c.in_err-parts.field-0.0 c.requires (c.in_err-parts.ensures.told based_files refl))

pub replica_of-requires : goal.replica_of-requires
replica_of-requires c = opened_based 1 c.args.bytes.now based_files c.in_ok-parts.parts not_among_based (c.in_ok-parts.ensures.told based_files refl)

pub returns-in_err-replica-clause-meant : goal.returns-in_err-replica-clause-meant
returns-in_err-replica-clause-meant c = λ name second.
    let p = err_from_is_err_and c.from_residual-in_err-replica.result c.from_residual-in_err-replica.ensures.1 in
    let f = c.in_ok-parts.parts in
    rw (p.1, p.2) (input_follows (reads name) based_files c.args.bytes.now second shown f (Err c.in_err-replica.field-0.0) c.requires (c.in_ok-parts.ensures.told based_files refl)
    (step_refuses (reads name) (fitting 1 f) (λ u. printed (show_text (view (state_in f)))) c.in_err-replica.field-0.0 c.in_err-replica.ensures.told))

pub returns-clause-meant : goal.returns-clause-meant
returns-clause-meant c = λ name second.
    let f = c.in_ok-parts.parts in
    let shows : Answer = record { text = c.in_ok-text.text; store = None } in
    let state = c.in_ok-into_doc.ensures.state ∙ ap state_in c.in_ok-replica.ensures.is in
    input_follows (reads name) based_files c.args.bytes.now second shown f (Ok shows) c.requires (c.in_ok-parts.ensures.told based_files refl)
    (show_means (reads name) f c.in_ok-text.text c.in_ok-replica.ensures.told (c.in_ok-text.ensures ∙ ap show_text (c.in_ok-view.ensures ∙ ap view state)))

pub returns-in_err-parts-clause-works : goal.returns-in_err-parts-clause-works
returns-in_err-parts-clause-works c = λ second. inl refl

pub returns-in_err-replica-clause-works : goal.returns-in_err-replica-clause-works
returns-in_err-replica-clause-works c = λ second.
    reads_only c.args.bytes.now second c.in_ok-parts.parts c.args.tally.now c.replica_of.new.tally c.in_ok-parts.ensures.is.stored c.in_err-replica.ensures.tally

pub returns-in_err-into_doc-clause-works : goal.returns-in_err-into_doc-clause-works
returns-in_err-into_doc-clause-works c = λ second.
    let moved = c.in_err-into_doc.ensures.tally in
    reads_and_moves c.args.bytes.now second c.in_ok-parts.parts c.in_ok-replica.replica c.args.tally.now c.replica_of.new.tally c.into_doc.new.tally c.in_ok-parts.ensures.is.stored
    c.in_ok-replica.ensures.is c.in_ok-replica.ensures.tally moved.rose moved.bound moved.decoded

pub returns-in_err-view-clause-works : goal.returns-in_err-view-clause-works
returns-in_err-view-clause-works c = λ second.
    let moved = c.in_ok-into_doc.ensures.tally in
    reads_and_moves c.args.bytes.now second c.in_ok-parts.parts c.in_ok-replica.replica c.args.tally.now c.replica_of.new.tally c.into_doc.new.tally c.in_ok-parts.ensures.is.stored
    c.in_ok-replica.ensures.is c.in_ok-replica.ensures.tally moved.rose moved.bound moved.decoded

pub returns-in_err-text-clause-works : goal.returns-in_err-text-clause-works
returns-in_err-text-clause-works c = λ second.
    let moved = c.in_ok-into_doc.ensures.tally in
    reads_and_moves c.args.bytes.now second c.in_ok-parts.parts c.in_ok-replica.replica c.args.tally.now c.replica_of.new.tally c.into_doc.new.tally c.in_ok-parts.ensures.is.stored
    c.in_ok-replica.ensures.is c.in_ok-replica.ensures.tally moved.rose moved.bound moved.decoded

pub returns-clause-works : goal.returns-clause-works
returns-clause-works c = λ second.
    let moved = c.in_ok-into_doc.ensures.tally in
    reads_and_moves c.args.bytes.now second c.in_ok-parts.parts c.in_ok-replica.replica c.args.tally.now c.replica_of.new.tally c.into_doc.new.tally c.in_ok-parts.ensures.is.stored
    c.in_ok-replica.ensures.is c.in_ok-replica.ensures.tally moved.rose moved.bound moved.decoded
