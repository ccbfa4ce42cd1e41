use Rattle.std.proofs.Common.{◌∙◌, sym, ap, subst, refl}
use Rattle.std.specs.List.{AllByRecursion}
use Rattle.model_laws.specs.Arrival.{Contents}
use Rattle.tree_log.specs.Open.{Open, whole}
use Rattle.tree_log.specs.Steps.{moves_of}
use Rattle.tree_log.specs.Moves.{Log, Rises, IsFresh, AllReferBack, has_place, inserted, places_now}
use Rattle.tree_log.specs.declared.moves.TreeMove.{TreeMove}
use Rattle.doc_store.specs.Kept.{HavePositions, Drafted, Kept, document_of}
use Rattle.doc_store.specs.Documents.{Joins}
use Rattle.doc_store.proofs.DocumentLaws.{Comes, fresh_moves, joins, moves_back, rows_done}
use Rattle.doc_store.proofs.MoveLaws.{moves_rise, positions_kept}
use Rattle.doc_store.proofs.draft.Draft.apply.Goals as goal

abbrev kept : Contents → Open → Kept
kept rows moves = record { contents = rows; log = whole moves }

pub do_all-requires : goal.do_all-requires
do_all-requires g c κs =
    let come : Comes (document_of c.args.self) (g.S.OpSource.left c.args.ops) = record { formed = c.requires.formed; refer = c.requires.refer; rise = c.requires.rise; fresh = c.requires.fresh } in
    ((refl, tt), rows_done (kept c.self.inside.rows c.self.inside.log) _ (subst (λ (d : Drafted). Comes (document_of d) (g.S.OpSource.left c.args.ops)) (sym c.self.view_is) come))

pub take-requires-clause-rises : goal.take-requires-clause-rises
take-requires-clause-rises g c = subst Rises (sym (c.deref.ensures.value ∙ c.in_ok-moves.ensures.moves)) (moves_rise (g.S.OpSource.left c.args.ops) c.requires.rise)

pub take-requires-clause-fresh : goal.take-requires-clause-fresh
take-requires-clause-fresh g c =
    let come : Comes (document_of c.args.self) (g.S.OpSource.left c.args.ops) = record { formed = c.requires.formed; refer = c.requires.refer; rise = c.requires.rise; fresh = c.requires.fresh } in
    subst (AllByRecursion (λ (x : TreeMove). IsFresh (whole c.self.inside.log).moves x.id)) (sym (c.deref.ensures.value ∙ c.in_ok-moves.ensures.moves))
    (fresh_moves (kept c.self.inside.rows c.self.inside.log) _ (subst (λ (d : Drafted). Comes (document_of d) (g.S.OpSource.left c.args.ops)) (sym c.self.view_is) come) c.self.invariant)

pub take-requires-clause-refer : goal.take-requires-clause-refer
take-requires-clause-refer g c =
    let come : Comes (document_of c.args.self) (g.S.OpSource.left c.args.ops) = record { formed = c.requires.formed; refer = c.requires.refer; rise = c.requires.rise; fresh = c.requires.fresh } in
    subst (AllReferBack (has_place (places_now (whole c.self.inside.log)))) (sym (c.deref.ensures.value ∙ c.in_ok-moves.ensures.moves))
    (moves_back (kept c.self.inside.rows c.self.inside.log) _ (subst (λ (d : Drafted). Comes (document_of d) (g.S.OpSource.left c.args.ops)) (sym c.self.view_is) come))

pub invariant_of-result : goal.invariant_of-result
invariant_of-result g c =
    let ops = g.S.OpSource.left c.args.ops in
    let held = c.in_ok-take.ensures.whole ∙ ap (inserted (whole c.self.inside.log).moves) (c.deref.ensures.value ∙ c.in_ok-moves.ensures.moves) in
    subst (HavePositions c.do_all.new.self.positions) (sym held)
    (subst (λ (k : Contents). HavePositions k.positions (inserted (whole c.self.inside.log).moves (moves_of ops))) (sym c.in_ok-moves.ensures.rows)
    (positions_kept c.self.inside.rows (whole c.self.inside.log).moves ops c.self.invariant))

pub returns-clause-joins : goal.returns-clause-joins
returns-clause-joins g c =
    let ops = g.S.OpSource.left c.args.ops in
    let come : Comes (document_of c.args.self) ops = record { formed = c.requires.formed; refer = c.requires.refer; rise = c.requires.rise; fresh = c.requires.fresh } in
    let held = c.in_ok-take.ensures.whole ∙ ap (inserted (whole c.self.inside.log).moves) (c.deref.ensures.value ∙ c.in_ok-moves.ensures.moves) in
    subst (λ (d : Drafted). Joins (document_of d) ops (kept c.do_all.new.self c.take.new.self)) c.self.view_is
    (joins (kept c.self.inside.rows c.self.inside.log) (kept c.do_all.new.self c.take.new.self) ops (subst (λ (d : Drafted). Comes (document_of d) ops) (sym c.self.view_is) come) c.in_ok-moves.ensures.rows
    (ap (λ (l : Log). l.base) c.in_ok-take.ensures.log) held)
