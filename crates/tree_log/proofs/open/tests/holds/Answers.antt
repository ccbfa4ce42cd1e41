use Rattle.std.proofs.Common.{◌≡◌, ◌∙◌, ap, sym, subst, false, [], ◌∷◌}
use Rattle.std.proofs.lemmas.Map.{NonePasses, none_passes_from_lookup}
use Rattle.std.specs.BTreeMap.{is_at}
use Rattle.op_ids.specs.declared.OpId.{OpId}
use Rattle.op_ids.specs.Order.{id_cmp, id_eq}
use Rattle.op_ids.proofs.OrderLaws.{eq_by_cmp-id, id_equiv}
use Rattle.tree_log.specs.declared.moves.TreeMove.{TreeMove}
use Rattle.tree_log.specs.Moves.{IsFresh}
use Rattle.tree_log.specs.Open.{Open, late_in, whole}
use Rattle.tree_move.proofs.PlaceLaws.{none_from_is_some}
use Rattle.tree_log.proofs.LogLaws.{all_merged, on_false}
use Rattle.tree_log.proofs.OpenLaws.{AtIds, Entries}
use Rattle.tree_log.proofs.SortLaws.{inserted_merged}
use Rattle.tree_log.proofs.open.tests.holds.Goals as goal

fresh_from_keys : (id : OpId) (es : Entries) → AtIds es → NonePasses (is_at (id_cmp id)) es → IsFresh (late_in es) id
fresh_from_keys id [] h n = tt
fresh_from_keys id (e ∷ es) h n = (id_equiv.symm e.1.id id ∙ ap (id_eq id) (sym h.0) ∙ sym (eq_by_cmp-id id e.0) ∙ n.0, fresh_from_keys id es h.1 n.1)

pub returns-else-is_held : goal.returns-else-is_held
returns-else-is_held c =
    let log = c.open.inside.log in
    let es = c.open.inside.late.entries in
    on_false c.contains_key.result (IsFresh (whole c.args.open.now).moves c.args.id)
    (λ no. let keys = none_passes_from_lookup (is_at (id_cmp c.args.id)) es (none_from_is_some _ (sym c.contains_key.ensures ∙ no)) in
    subst (λ (o : Open). IsFresh (whole o).moves c.args.id) c.open.view_is
    (subst (λ ts. IsFresh ts c.args.id) (sym (inserted_merged log.moves (late_in es) c.is_held.ensures.rising c.open.invariant.rises c.open.invariant.fresh))
    (all_merged (λ (t : TreeMove). id_eq t.id c.args.id ≡ false) log.moves (late_in es) c.if-is_held.ensures.fresh (fresh_from_keys c.args.id es c.open.invariant.at_ids keys))))
