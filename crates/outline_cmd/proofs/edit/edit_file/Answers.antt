use Rattle.std.proofs.Common.{inl, Err, length, refl, sym, ap, subst, ◌∙◌}
use Rattle.std.proofs.lemmas.Result.{err_from_is_err_and}
use Rattle.model.specs.Command.{made_edit}
use Rattle.model.specs.Edit.{Edit}
use Rattle.model.specs.File.{File}
use Rattle.model.specs.Reading.{held_in}
use Rattle.doc_store.specs.Edits.{edit_of}
use Rattle.keeping_laws.specs.Forms.{IsEdit}
use Rattle.replica.specs.declared.head.FileHead.{FileHead}
use Rattle.member_replica.specs.Making.{Makes}
use Rattle.outline_meaning.specs.Meaning.{member_files, reads}
use Rattle.model.specs.Stands.{IsStored}
use Rattle.outline_cmd.specs.Made.{made_outcome}
use Rattle.outline_meaning.specs.Outcome.{edited}
use Rattle.outline_cmd.specs.Tasks.{GivesValue}
use Rattle.outline_meaning.specs.declared.status.Status.TheVariants as s
use Rattle.replica.specs.declared.fault.MemberFault.TheVariants.{Nobody}
use Rattle.outline_cmd.proofs.InputLaws.{input_refuses, input_follows, same_follows, edit_nobody, edit_somebody, edit_unfit, edit_is}
use Rattle.outline_meaning.proofs.LedgerMeaning.{edit_form}
use Rattle.outline_cmd.proofs.OpenLaws.{not_among_members, opened_based}
use Rattle.outline_cmd.proofs.WorkLaws.{reads_only, reads_and_moves}
use Rattle.outline_cmd.proofs.edit.edit_file.Goals as goal

pub returns-in_err-parts-clause-meant : goal.returns-in_err-parts-clause-meant
returns-in_err-parts-clause-meant c = λ e second says form.
    let p = err_from_is_err_and c.from_residual.result c.from_residual.ensures.1 in
    rw (p.1, p.2) (input_refuses (reads c.args.name.now) member_files c.args.bytes.now second (edited e) c.in_err-parts.field-0.0 c.requires.short (c.in_err-parts.ensures.told member_files refl))

pub replica_of-requires : goal.replica_of-requires
replica_of-requires c = opened_based 1 c.args.bytes.now member_files c.in_ok-parts.parts not_among_members (c.in_ok-parts.ensures.told member_files refl)

pub returns-then-len-eq0-clause-meant : goal.returns-then-len-eq0-clause-meant
returns-then-len-eq0-clause-meant c = λ e second says form.
    let f = c.in_ok-parts.parts in
    let none = sym (ap (λ (h : FileHead). length h.mine) c.head.ensures.head) ∙ sym c.len.ensures ∙ c.if-len-eq0.true in
    input_follows (reads c.args.name.now) member_files c.args.bytes.now second (edited e) f (Err (s.Member Nobody)) c.requires.short (c.in_ok-parts.ensures.told member_files refl)
    (edit_nobody (reads c.args.name.now) f e none)

pub returns-in_err-replica-clause-meant : goal.returns-in_err-replica-clause-meant
returns-in_err-replica-clause-meant c = λ e second says form.
    let p = err_from_is_err_and c.from_residual-in_err-replica.result c.from_residual-in_err-replica.ensures.1 in
    let f = c.in_ok-parts.parts in
    let some = edit_somebody f (λ none. c.if-len-eq0.false (c.len.ensures ∙ ap (λ (h : FileHead). length h.mine) c.head.ensures.head ∙ none)) in
    rw (p.1, p.2) (input_follows (reads c.args.name.now) member_files c.args.bytes.now second (edited e) f (Err c.in_err-replica.field-0.0) c.requires.short (c.in_ok-parts.ensures.told member_files refl)
    (edit_unfit (reads c.args.name.now) f e c.in_err-replica.field-0.0 some c.in_err-replica.ensures.told))

pub edit-made-requires-clause-form : goal.edit-made-requires-clause-form
edit-made-requires-clause-form c =
    let (e, (said, says, word, is), form) = c.requires.said in
    let given = c.edit.ensures said says (subst (GivesValue c.args.words.value said) (sym c.deref.ensures.value) (c.in_ok-given.ensures.ok said says word)) in
    subst IsEdit (is ∙ sym given) (edit_form e form)

pub edit-made-requires-clause-stored : goal.edit-made-requires-clause-stored
edit-made-requires-clause-stored c = (c.args.bytes.now, subst (IsStored c.args.bytes.now) (sym c.in_ok-replica.ensures.is) c.in_ok-parts.ensures.is.stored)

pub returns-clause-meant : goal.returns-clause-meant
returns-clause-meant c = λ e second (said, says, word, same) form.
    let f = c.in_ok-parts.parts in
    let r = reads c.args.name.now in
    let some = edit_somebody f (λ none. c.if-len-eq0.false (c.len.ensures ∙ ap (λ (h : FileHead). length h.mine) c.head.ensures.head ∙ none)) in
    let is = c.edit.ensures said says (subst (GivesValue c.args.words.value said) (sym c.deref.ensures.value) (c.in_ok-given.ensures.ok said says word)) ∙ sym same in
    let makes = subst (λ (x : Edit). Makes f (made_edit f.members (held_in f) f.mine x) c.edit-made.result) is (subst (λ (g : File). Makes g (made_edit g.members (held_in g) g.mine (edit_of c.edit.result)) c.edit-made.result) c.in_ok-replica.ensures.is c.edit-made.ensures.makes) in
    input_follows r member_files c.args.bytes.now second (edited e) f c.made_answer.result c.requires.short (c.in_ok-parts.ensures.told member_files refl)
    (same_follows r (made_outcome f (made_edit f.members (held_in f) f.mine e)) (edited e f) c.made_answer.result (edit_is f e some c.in_ok-replica.ensures.told)
    (c.made_answer.ensures f (made_edit f.members (held_in f) f.mine e) makes))

pub returns-in_err-parts-clause-works : goal.returns-in_err-parts-clause-works
returns-in_err-parts-clause-works c = λ second. inl refl

pub returns-then-len-eq0-clause-works : goal.returns-then-len-eq0-clause-works
returns-then-len-eq0-clause-works c = λ second. inl refl

pub returns-in_err-replica-clause-works : goal.returns-in_err-replica-clause-works
returns-in_err-replica-clause-works c = λ second.
    reads_only c.args.bytes.now second c.in_ok-parts.parts c.args.tally.now c.replica_of.new.tally c.in_ok-parts.ensures.is.stored c.in_err-replica.ensures.tally

pub returns-in_err-given-clause-works : goal.returns-in_err-given-clause-works
returns-in_err-given-clause-works c = λ second.
    reads_only c.args.bytes.now second c.in_ok-parts.parts c.args.tally.now c.replica_of.new.tally c.in_ok-parts.ensures.is.stored c.in_ok-replica.ensures.tally

pub returns-clause-works : goal.returns-clause-works
returns-clause-works c = λ second.
    let moved = c.edit-made.ensures.tally in
    reads_and_moves c.args.bytes.now second c.in_ok-parts.parts c.in_ok-replica.replica c.args.tally.now c.replica_of.new.tally c.edit-made.new.tally c.in_ok-parts.ensures.is.stored
    c.in_ok-replica.ensures.is c.in_ok-replica.ensures.tally moved.rose moved.bound moved.decoded
