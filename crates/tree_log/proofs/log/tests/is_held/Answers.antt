use Rattle.std.proofs.Common.{◌≡◌, ◌∙◌, ap, sym, subst, Bool, true, false, List, [], ◌∷◌, ◌||◌, refl}
use Rattle.std.specs.List.{list_any}
use Rattle.op_ids.specs.declared.OpId.{OpId}
use Rattle.op_ids.specs.Order.{id_eq}
use Rattle.tree_log.specs.declared.moves.Held.{Held}
use Rattle.tree_log.specs.Log.{steps}
use Rattle.tree_log.specs.Moves.{IsFresh, Log}
use Rattle.tree_log.proofs.LogLaws.{on_false}
use Rattle.tree_log.proofs.log.tests.is_held.Goals as goal

neither : (a b : Bool) → (a || b) ≡ false → (a ≡ false) × (b ≡ false)
neither true b e = let k : true ≡ false = e in cc
neither false b e = (refl, e)

fresh_from_held : (hs : List Held) (id : OpId) → list_any (λ (h : Held). id_eq h.step.id id) hs ≡ false → IsFresh (steps hs) id
fresh_from_held [] id e = tt
fresh_from_held (h ∷ hs) id e = let k = neither _ _ e in (k.0, fresh_from_held hs id k.1)

pub returns-clause-fresh : goal.returns-clause-fresh
returns-clause-fresh c =
    on_false c.has_id.result (IsFresh c.args.log.now.moves c.args.id)
    (λ no. let none = ap (list_any (λ (h : Held). id_eq h.step.id c.args.id)) (sym c.deref.ensures.value) ∙ sym c.has_id.ensures ∙ no in
    subst (λ (l : Log). IsFresh l.moves c.args.id) c.log.view_is (fresh_from_held c.log.inside.held.items c.args.id none))
