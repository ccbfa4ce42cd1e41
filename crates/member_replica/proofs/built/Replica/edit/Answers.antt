use Rattle.std.proofs.Common.{◌≡◌, ◌<◌, ◌∷◌, [], List, Ok, Err, sym, ap, subst, ◌∙◌}
use Rattle.std.specs.Prelude.{slice_get}
use Rattle.std.proofs.lemmas.Result.{err_from_is_err_and}
use Rattle.model.specs.Change.{Change, IsChange}
use Rattle.model.specs.Command.{made_edit, one_made}
use Rattle.model.specs.File.{File}
use Rattle.model.specs.Reading.{base_in, held_in}
use Rattle.model.specs.Stands.{IsStored}
use Rattle.op_grammar.specs.Operations.{operations_of}
use Rattle.doc_store.specs.Edits.{edit_of}
use Rattle.doc_store.specs.Kept.{state_of}
use Rattle.replica.specs.declared.head.FileHead.{FileHead}
use Rattle.member_replica.specs.Making.{IsMade, Makes}
use Rattle.member_replica.specs.Makings.{clocked_by}
use Rattle.member_replica.proofs.MadeLaws.{counts_length, making_more, next_in_form, stops_all}
use Rattle.member_replica.proofs.PlanLaws.{edit_has_room, edit_is, edits_with}
use Rattle.member_replica.proofs.built.Replica.edit.Goals as goal

pub make-requires-clause-within : goal.make-requires-clause-within
make-requires-clause-within c =
    let f = c.self.inside.parts in
    let m = c.at-member.result.now in
    let first = sym (ap (λ (h : FileHead). slice_get h.mine 0) c.head.ensures.head) ∙ c.at-member.ensures.at in
    let state = (c.in_ok-doc.ensures.document f.members (base_in f) f.kept c.self.invariant.holds).state in
    let edits = edits_with f (edit_of c.args.edit.now) m (operations_of c.in_ok-plan.plan) (state_of c.in_ok-doc.doc) (record { is_file = c.head.ensures.is_file; base = c.self.invariant.base }) c.self.invariant.fit c.requires.form first state c.in_ok-plan.ensures.0 c.in_ok-plan.ensures.1 in
    subst (λ n. m < n) (sym (counts_length f [] c.of-makings.result c.of-makings.ensures)) edits.below

pub make-requires-clause-change : goal.make-requires-clause-change
make-requires-clause-change c = λ d clocked.
    let f = c.self.inside.parts in
    let m = c.at-member.result.now in
    let makings = c.of-makings.result in
    let os = operations_of c.in_ok-plan.plan in
    let first = sym (ap (λ (h : FileHead). slice_get h.mine 0) c.head.ensures.head) ∙ c.at-member.ensures.at in
    let state = (c.in_ok-doc.ensures.document f.members (base_in f) f.kept c.self.invariant.holds).state in
    let edits = edits_with f (edit_of c.args.edit.now) m os (state_of c.in_ok-doc.doc) (record { is_file = c.head.ensures.is_file; base = c.self.invariant.base }) c.self.invariant.fit c.requires.form first state c.in_ok-plan.ensures.0 c.in_ok-plan.ensures.1 in
    subst (λ n. IsChange n d) (sym (counts_length f [] makings c.of-makings.ensures)) (next_in_form f [] makings m os d c.of-makings.ensures edits.below edits.planned clocked)

pub returns-in_err-make-clause-makes : goal.returns-in_err-make-clause-makes
returns-in_err-make-clause-makes c =
    let f = c.self.inside.parts in
    let m = c.at-member.result.now in
    let makings = c.of-makings.result in
    let e = edit_of c.args.edit.now in
    let os = operations_of c.in_ok-plan.plan in
    let fault = c.in_err-make.field-0.0 in
    let first = sym (ap (λ (h : FileHead). slice_get h.mine 0) c.head.ensures.head) ∙ c.at-member.ensures.at in
    let state = (c.in_ok-doc.ensures.document f.members (base_in f) f.kept c.self.invariant.holds).state in
    let edits = edits_with f e m os (state_of c.in_ok-doc.doc) (record { is_file = c.head.ensures.is_file; base = c.self.invariant.base }) c.self.invariant.fit c.requires.form first state c.in_ok-plan.ensures.0 c.in_ok-plan.ensures.1 in
    let p = err_from_is_err_and c.from_residual-in_err-make.result c.from_residual-in_err-make.ensures.1 in
    rw (p.1, p.2)
    (subst (λ (g : File). Makes g (made_edit g.members (held_in g) g.mine e) (Err fault)) c.self.view_is
    (stops_all f (clocked_by makings.time makings.counts m os) (made_edit f.members (held_in f) f.mine e) fault c.in_err-make.ensures (λ u full. edit_is f e m os makings edits c.of-makings.ensures ∙ ap one_made full)))

pub stored-requires : goal.stored-requires
stored-requires c =
    let f = c.self.inside.parts in
    let m = c.at-member.result.now in
    let makings = c.of-makings.result in
    let os = operations_of c.in_ok-plan.plan in
    let first = sym (ap (λ (h : FileHead). slice_get h.mine 0) c.head.ensures.head) ∙ c.at-member.ensures.at in
    let state = (c.in_ok-doc.ensures.document f.members (base_in f) f.kept c.self.invariant.holds).state in
    let edits = edits_with f (edit_of c.args.edit.now) m os (state_of c.in_ok-doc.doc) (record { is_file = c.head.ensures.is_file; base = c.self.invariant.base }) c.self.invariant.fit c.requires.form first state c.in_ok-plan.ensures.0 c.in_ok-plan.ensures.1 in
    let (bytes, stored) = c.requires.stored in
    let room = edit_has_room bytes f (subst (IsStored bytes) (sym c.self.view_is) stored) in
    let (d, clocked, more) = c.in_ok-make.ensures in
    (d ∷ [], making_more f [] makings c.make.new.self m os d c.of-makings.ensures edits.below edits.planned room clocked more)

pub returns-clause-makes : goal.returns-clause-makes
returns-clause-makes c =
    let f = c.self.inside.parts in
    let m = c.at-member.result.now in
    let makings = c.of-makings.result in
    let e = edit_of c.args.edit.now in
    let os = operations_of c.in_ok-plan.plan in
    let first = sym (ap (λ (h : FileHead). slice_get h.mine 0) c.head.ensures.head) ∙ c.at-member.ensures.at in
    let state = (c.in_ok-doc.ensures.document f.members (base_in f) f.kept c.self.invariant.holds).state in
    let edits = edits_with f e m os (state_of c.in_ok-doc.doc) (record { is_file = c.head.ensures.is_file; base = c.self.invariant.base }) c.self.invariant.fit c.requires.form first state c.in_ok-plan.ensures.0 c.in_ok-plan.ensures.1 in
    let (bytes, stored) = c.requires.stored in
    let room = edit_has_room bytes f (subst (IsStored bytes) (sym c.self.view_is) stored) in
    let (d, clocked, more) = c.in_ok-make.ensures in
    let making = making_more f [] makings c.make.new.self m os d c.of-makings.ensures edits.below edits.planned room clocked more in
    subst (λ (g : File). (x : List Change) × (made_edit g.members (held_in g) g.mine e ≡ Ok x) × IsMade g x c.in_ok-stored.field-0) c.self.view_is
    (d ∷ [], edit_is f e m os makings edits c.of-makings.ensures ∙ ap one_made clocked, c.in_ok-stored.ensures (d ∷ []) making)
