use Rattle.std.proofs.Common.{◌≡◌, ◌∙◌, [], ◌∷◌, sym, ap, subst, refl}
use Rattle.std.specs.List.{cons_option}
use Rattle.op_grammar.specs.Operations.{operation_of}
use Rattle.model.specs.State.{apart}
use Rattle.model_laws.specs.Arrival.{Contents}
use Rattle.tree_log.specs.Moves.{AllReferBack, IsFresh, Log, has_place, places_now}
use Rattle.tree_log.specs.Open.{Open, whole}
use Rattle.tree_log.specs.Steps.{move_by}
use Rattle.tree_log.specs.declared.moves.TreeMove.{TreeMove}
use Rattle.doc_store.specs.Documents.{all_late}
use Rattle.doc_store.specs.Kept.{Drafted, HavePositions, Kept, MayBeDone, document_of}
use Rattle.doc_store.proofs.TakeLaws.{Taking, Took, all_taken, is_wrong, known, may, move_fresh, move_refers, positions, taking_next, taking_none, took_none, took_one}
use Rattle.doc_store.proofs.draft.Draft.take.Goals as goal
use Rattle.doc_store.proofs.draft.Draft.take.Goals.{in-Some-move_by+in_ok-take, in_default-move_by}

abbrev kept : Contents → Open → Kept
kept rows moves = record { contents = rows; log = whole moves }

pub loop-id-init : goal.loop-id-init
loop-id-init g c = (taking_none (document_of c.args.self) (g.S.OpSource.left c.args.ops) c.args.tally.now c.requires.formed c.requires.rise c.requires.fresh, refl)

pub returns-in-Some-wrong_id-clause-takes : goal.returns-in-Some-wrong_id-clause-takes
returns-in-Some-wrong_id-clause-takes g c =
    let start = document_of c.args.self in
    let all = g.S.OpSource.left c.args.ops in
    let left = g.S.OpSource.left c.next_op.new.self in
    let before = c.args.tally.now in
    let now = document_of c.loop-id.draft in
    let place = c.loop-id.place in
    let work = c.loop-id.tally in
    let id = c.in-Some.id in
    let o = operation_of c.in-Some.op in
    let k : Taking start all before now place work (record { id = id; operation = o } ∷ left) = subst (Taking start all before now place work) c.in-Some.ensures.handed c.loop-id.invariant.0 in
    let known = known start all before now place work id o left k c.new-none.result c.new-none.ensures in
    (k.at, is_wrong start all before now place work id o left k c.in-Some-wrong_id.wrong (sym (c.in-Some-wrong_id.ensures k.state known)), k.counted)

pub do_op-requires : goal.do_op-requires
do_op-requires g c =
    let start = document_of c.args.self in
    let all = g.S.OpSource.left c.args.ops in
    let left = g.S.OpSource.left c.next_op.new.self in
    let before = c.args.tally.now in
    let now = document_of c.loop-id.draft in
    let place = c.loop-id.place in
    let work = c.loop-id.tally in
    let id = c.in-Some.id in
    let o = operation_of c.in-Some.op in
    let k : Taking start all before now place work (record { id = id; operation = o } ∷ left) = subst (Taking start all before now place work) c.in-Some.ensures.handed c.loop-id.invariant.0 in
    let known = known start all before now place work id o left k c.new-none.result c.new-none.ensures in
    let none = sym (c.in_default-wrong_id.ensures k.state known) in
    let view = c.draft-in-loop-id.view_is in
    subst (λ (d : Drafted). MayBeDone d.contents id o) (sym view) (may start all before now place work id o left k none)

pub take-requires-clause-fresh : goal.take-requires-clause-fresh
take-requires-clause-fresh g c =
    let start = document_of c.args.self in
    let all = g.S.OpSource.left c.args.ops in
    let left = g.S.OpSource.left c.next_op.new.self in
    let before = c.args.tally.now in
    let now = document_of c.loop-id.draft in
    let place = c.loop-id.place in
    let work = c.loop-id.tally in
    let id = c.in-Some.id in
    let o = operation_of c.in-Some.op in
    let k : Taking start all before now place work (record { id = id; operation = o } ∷ left) = subst (Taking start all before now place work) c.in-Some.ensures.handed c.loop-id.invariant.0 in
    let known = known start all before now place work id o left k c.new-none.result c.new-none.ensures in
    let none = sym (c.in_default-wrong_id.ensures k.state known) in
    let view = c.draft-in-loop-id.view_is in
    let have : HavePositions now.contents.positions now.log.moves = subst (λ (d : Drafted). HavePositions d.contents.positions (whole d.moves).moves) view c.draft-in-loop-id.invariant in
    let step = c.in-Some-move_by.step in
    (subst (λ (d : Drafted). IsFresh (whole d.moves).moves step.id) (sym view) (move_fresh start all before now place work id o left k none step have (sym c.move_by.ensures ∙ c.in-Some-move_by.is)), tt)

pub take-requires-clause-refer : goal.take-requires-clause-refer
take-requires-clause-refer g c =
    let start = document_of c.args.self in
    let all = g.S.OpSource.left c.args.ops in
    let left = g.S.OpSource.left c.next_op.new.self in
    let before = c.args.tally.now in
    let now = document_of c.loop-id.draft in
    let place = c.loop-id.place in
    let work = c.loop-id.tally in
    let id = c.in-Some.id in
    let o = operation_of c.in-Some.op in
    let k : Taking start all before now place work (record { id = id; operation = o } ∷ left) = subst (Taking start all before now place work) c.in-Some.ensures.handed c.loop-id.invariant.0 in
    let known = known start all before now place work id o left k c.new-none.result c.new-none.ensures in
    let none = sym (c.in_default-wrong_id.ensures k.state known) in
    let view = c.draft-in-loop-id.view_is in
    let step = c.in-Some-move_by.step in
    subst (λ (d : Drafted). AllReferBack (has_place (places_now (whole d.moves))) (step ∷ [])) (sym view)
    (move_refers start all before now place work id o left k none step (sym c.move_by.ensures ∙ c.in-Some-move_by.is))

-- what the log took in where the operation is a move
took_step : (was : Open) (now : Open) (d : Drafted) (rows : Contents) (step : TreeMove) → record { contents = rows; moves = was } ≡ d → now.log ≡ was.log → Took (whole was) (whole now) (step ∷ []) → Took (whole d.moves) (whole now) (step ∷ [])
took_step was now d rows step view log took = subst (λ (e : Drafted). Took (whole e.moves) (whole now) (step ∷ [])) view took

pub invariant_of-draft : goal.invariant_of-draft
invariant_of-draft g c =
    let start = document_of c.args.self in
    let all = g.S.OpSource.left c.args.ops in
    let left = g.S.OpSource.left c.next_op.new.self in
    let before = c.args.tally.now in
    let now = document_of c.loop-id.draft in
    let place = c.loop-id.place in
    let work = c.loop-id.tally in
    let id = c.in-Some.id in
    let o = operation_of c.in-Some.op in
    let k : Taking start all before now place work (record { id = id; operation = o } ∷ left) = subst (Taking start all before now place work) c.in-Some.ensures.handed c.loop-id.invariant.0 in
    let known = known start all before now place work id o left k c.new-none.result c.new-none.ensures in
    let none = sym (c.in_default-wrong_id.ensures k.state known) in
    let view = c.draft-in-loop-id.view_is in
    let have : HavePositions now.contents.positions now.log.moves = subst (λ (d : Drafted). HavePositions d.contents.positions (whole d.moves).moves) view c.draft-in-loop-id.invariant in
    let rows : c.do_op.new.self ≡ all_late now.contents (apart id o) = c.in_ok-do_op.ensures ∙ ap (λ (d : Drafted). all_late d.contents (apart id o)) view in
    let step = c.in-Some-move_by.step in
    let log = c.in_ok-take.ensures.log in
    let took = took_step c.draft-in-loop-id.inside.log c.take.new.self c.loop-id.draft c.draft-in-loop-id.inside.rows step view log (record { base = ap (λ (l : Log). l.base) log; moves = c.in_ok-take.ensures.whole; there = c.in_ok-take.ensures.there }) in
    positions start all before now place work id o left k none (kept c.do_op.new.self c.take.new.self) rows (took_one now.log (whole c.take.new.self) (move_by id o) step (sym c.move_by.ensures ∙ c.in-Some-move_by.is) took) have

pub invariant_of-draft-in_default-move_by : goal.invariant_of-draft-in_default-move_by
invariant_of-draft-in_default-move_by g c =
    let start = document_of c.args.self in
    let all = g.S.OpSource.left c.args.ops in
    let left = g.S.OpSource.left c.next_op.new.self in
    let before = c.args.tally.now in
    let now = document_of c.loop-id.draft in
    let place = c.loop-id.place in
    let work = c.loop-id.tally in
    let id = c.in-Some.id in
    let o = operation_of c.in-Some.op in
    let k : Taking start all before now place work (record { id = id; operation = o } ∷ left) = subst (Taking start all before now place work) c.in-Some.ensures.handed c.loop-id.invariant.0 in
    let known = known start all before now place work id o left k c.new-none.result c.new-none.ensures in
    let none = sym (c.in_default-wrong_id.ensures k.state known) in
    let view = c.draft-in-loop-id.view_is in
    let have : HavePositions now.contents.positions now.log.moves = subst (λ (d : Drafted). HavePositions d.contents.positions (whole d.moves).moves) view c.draft-in-loop-id.invariant in
    let rows : c.do_op.new.self ≡ all_late now.contents (apart id o) = c.in_ok-do_op.ensures ∙ ap (λ (d : Drafted). all_late d.contents (apart id o)) view in
    let took = took_none now.log (move_by id o) (sym c.move_by.ensures ∙ c.in_default-move_by.is) in
    subst (λ (d : Drafted). HavePositions c.do_op.new.self.positions (whole d.moves).moves) (sym view)
    (positions start all before now place work id o left k none (kept c.do_op.new.self c.loop-id.draft.moves) rows took have)

pub loop-id-preserved : goal.loop-id-preserved
loop-id-preserved g c =
    let start = document_of c.args.self in
    let all = g.S.OpSource.left c.args.ops in
    let left = g.S.OpSource.left c.next_op.new.self in
    let before = c.args.tally.now in
    let now = document_of c.loop-id.draft in
    let place = c.loop-id.place in
    let work = c.loop-id.tally in
    let id = c.in-Some.id in
    let o = operation_of c.in-Some.op in
    let k : Taking start all before now place work (record { id = id; operation = o } ∷ left) = subst (Taking start all before now place work) c.in-Some.ensures.handed c.loop-id.invariant.0 in
    let known = known start all before now place work id o left k c.new-none.result c.new-none.ensures in
    let none = sym (c.in_default-wrong_id.ensures k.state known) in
    let view = c.draft-in-loop-id.view_is in
    let rows : c.do_op.new.self ≡ all_late now.contents (apart id o) = c.in_ok-do_op.ensures ∙ ap (λ (d : Drafted). all_late d.contents (apart id o)) view in
    let up = c.saturating_add-place.result in
    elim c.match-move_by.branch [
      | in-Some-move_by+in_ok-take w ↦
          let step = w.in-Some-move_by.step in
          let log = w.in_ok-take.ensures.log in
          let took = took_step c.draft-in-loop-id.inside.log w.take.new.self c.loop-id.draft c.draft-in-loop-id.inside.rows step view log (record { base = ap (λ (l : Log). l.base) log; moves = w.in_ok-take.ensures.whole; there = w.in_ok-take.ensures.there }) in
          let next = taking_next start all before now place work id o left k none (kept c.do_op.new.self w.take.new.self) rows (took_one now.log (whole w.take.new.self) (move_by id o) step (sym c.move_by.ensures ∙ w.in-Some-move_by.is) took) up c.saturating_add-place.ensures in
          subst (λ (d : Drafted). Taking start all before (document_of d) up c.next_op.new.tally left × (d.moves.log ≡ c.args.self.moves.log)) (sym w.draft-is)
          (subst (λ t. Taking start all before (kept c.do_op.new.self w.take.new.self) up t left) (sym c.in-Some.ensures.counted) next, log ∙ ap (λ (d : Drafted). d.moves.log) view ∙ c.loop-id.invariant.1)
      | in_default-move_by w ↦
          let inside = c.draft-in-loop-id.inside in
          let took = took_none (whole inside.log) (move_by id o) (sym c.move_by.ensures ∙ w.in_default-move_by.is) in
          let from : Took now.log (whole inside.log) (cons_option (move_by id o) []) = subst (λ (d : Drafted). Took (whole d.moves) (whole inside.log) (cons_option (move_by id o) [])) view took in
          let next = taking_next start all before now place work id o left k none (kept c.do_op.new.self inside.log) rows from up c.saturating_add-place.ensures in
          subst (λ (d : Drafted). Taking start all before (document_of d) up c.next_op.new.tally left × (d.moves.log ≡ c.args.self.moves.log)) (sym w.draft-is)
          (subst (λ t. Taking start all before (kept c.do_op.new.self inside.log) up t left) (sym c.in-Some.ensures.counted) next, ap (λ (d : Drafted). d.moves.log) view ∙ c.loop-id.invariant.1)
    ]

pub returns-clause-takes : goal.returns-clause-takes
returns-clause-takes g c =
    let start = document_of c.args.self in
    let all = g.S.OpSource.left c.args.ops in
    let now = document_of c.loop-id.draft in
    all_taken start all c.args.tally.now now c.loop-id.place c.loop-id.tally (subst (Taking start all c.args.tally.now now c.loop-id.place c.loop-id.tally) c.in_default.ensures.handed.0 c.loop-id.invariant.0) c.requires.formed c.requires.rise c.requires.fresh
