use Rattle.std.proofs.Common.{◌≡◌, sym, subst, refl, true, is_some, nat_lt}
use Rattle.std.specs.FinMap.{get}
use Rattle.arrival_laws.proofs.AddLaws.{all_kept}
use Rattle.tree_log.specs.declared.moves.TreeMove.{TreeMove}
use Rattle.doc_store.specs.Documents.{Forgets}
use Rattle.doc_store.specs.Kept.{HavePositions, Kept}
use Rattle.doc_store.proofs.ForgetLaws.{forgets}
use Rattle.doc_store.proofs.doc.Doc.forget_through.Goals as goal

pub invariant_of-self : goal.invariant_of-self
invariant_of-self c =
    let positions = c.self.inside.rows.positions in
    subst (HavePositions positions) (sym c.drop_through.ensures.moves) (all_kept (λ (t : TreeMove). is_some (get positions (t.parent, t.id)) ≡ true) (λ t. nat_lt c.args.time t.id.time) c.self.inside.log.moves c.self.invariant)

pub returns : goal.returns
returns c =
    let old : Kept = record { contents = c.self.inside.rows; log = c.self.inside.log } in
    let now : Kept = record { contents = c.self.inside.rows; log = c.drop_through.new.self } in
    subst (λ d. Forgets d c.args.time now) c.self.view_is (forgets old now c.args.time refl c.drop_through.ensures.base c.drop_through.ensures.moves c.drop_through.ensures.places)
