use Rattle.std.proofs.Common.{sym, subst, refl, arith}
use Rattle.std.specs.Prelude.{Some}
use Rattle.doc_store.specs.Kept.{document_of, state_of}
use Rattle.doc_store.specs.References.{HasMade}
use Rattle.doc_store.proofs.WorkLaws.{OnceAdded, Reading, reading_added, reading_next, reading_wrong}
use Rattle.doc_store.proofs.draft.Draft.refs_known.Goals as goal

pub loop-id-init : goal.loop-id-init
loop-id-init g c =
    let s = state_of (document_of c.args.self.now) in (
      tt,
      record {
        at = 0;
        now = s;
        has = λ m e. subst (λ x. HasMade s x s) (sym e) (c.new-made.ensures s);
        rest = refl;
        counted = refl;
        formed = c.requires;
        same = refl;
        rose = omega arith;
        bound = omega arith;
      },
    )

pub returns-in-Some-wrong_id-clause-first : goal.returns-in-Some-wrong_id-clause-first
returns-in-Some-wrong_id-clause-first g c =
    let s = state_of (document_of c.args.self.now) in
    let all = g.S.OpSource.left c.args.ops in
    let r = reading_added s all c.args.tally.now c.loop-id.made c.loop-id.last c.loop-id.place c.loop-id.tally _ c.add_last.new.self c.in_ok-add_last.ensures
    (subst (Reading s all c.args.tally.now (OnceAdded s c.loop-id.made c.loop-id.last) c.loop-id.place c.loop-id.tally) c.in-Some.ensures.handed c.loop-id.invariant.1) in
    (r.at, reading_wrong s all c.args.tally.now c.add_last.new.self c.loop-id.place c.loop-id.tally _ _ c.in-Some-wrong_id.wrong r (sym (c.in-Some-wrong_id.ensures r.now r.has)), r.counted)

pub loop-id-preserved : goal.loop-id-preserved
loop-id-preserved g c =
    let s = state_of (document_of c.args.self.now) in
    let all = g.S.OpSource.left c.args.ops in
    let r = reading_added s all c.args.tally.now c.loop-id.made c.loop-id.last c.loop-id.place c.loop-id.tally _ c.add_last.new.self c.in_ok-add_last.ensures
    (subst (Reading s all c.args.tally.now (OnceAdded s c.loop-id.made c.loop-id.last) c.loop-id.place c.loop-id.tally) c.in-Some.ensures.handed c.loop-id.invariant.1) in
    let left = g.S.OpSource.left c.next_op.new.self in (
      r.formed.0,
      subst (λ w. Reading s all c.args.tally.now (OnceAdded s c.add_last.new.self (Some (c.in-Some.id, c.in-Some.op))) c.saturating_add-place.result w left) (sym c.in-Some.ensures.counted)
          (reading_next s all c.args.tally.now c.add_last.new.self c.loop-id.place c.loop-id.tally c.in-Some.id c.in-Some.op left c.saturating_add-place.result r
          (sym (c.in_default-wrong_id.ensures r.now r.has)) c.saturating_add-place.ensures),
    )
