use Rattle.std.proofs.Common.{◌≡◌, ◌∙◌, ap, sym, subst, true, take, ◌+◌, is_some, get_or, not}
use Rattle.std.specs.List.{AllByRecursion}
use Rattle.std.specs.FinSet as set
use Rattle.op_ids.specs.Order.{id_cmp}
use Rattle.tree_log.specs.declared.moves.TreeMove.{TreeMove}
use Rattle.tree_log.proofs.LogLaws.{all_take_more, admitted_more, admitted_same, no_move}
use Rattle.tree_move.proofs.PlaceLaws.{some-place_if}
use Rattle.tree_log.proofs.log.admit_new.Goals as goal
use Rattle.tree_log.proofs.log.admit_new.Goals.{then-is_none+in_ok-admit, else-is_none}

pub loop-step-preserved : goal.loop-step-preserved
loop-step-preserved c =
    let inv = c.loop-step.invariant in
    let l = c.loop-step-test.true in
    let i = c.loop-step.step-index in
    let child = (get_or c.args.moves.now i no_move).child in
    elim c.if-is_none.branch [
      | then-is_none+in_ok-admit w ↦
          let now = w.in_ok-admit.ensures.ok in
          rw w.parents-is
          (record {
            places = w.admit.ensures.places ∙ inv.places;
            tree = w.admit.ensures.tree;
            admitted = subst (λ (s : set.FinSet id_cmp). AllByRecursion (λ (t : TreeMove). set.contains s t.child ≡ true) (take (i + 1) c.args.moves.now)) (sym now)
                (all_take_more (λ (t : TreeMove). set.contains (set.insert c.loop-step.parents.admitted child) t.child ≡ true) c.args.moves.now i l
                (admitted_more c.loop-step.parents.admitted child (take i c.args.moves.now) inv.admitted)
                (admitted_same c.loop-step.parents.admitted child));
          })
      | else-is_none w ↦
          let there : is_some c.parent_of.result ≡ true = c.is_none.ensures ∙ ap not w.if-is_none.false in
          rw w.parents-is
          (record {
            places = inv.places;
            tree = inv.tree;
            admitted = all_take_more (λ (t : TreeMove). set.contains c.loop-step.parents.admitted t.child ≡ true) c.args.moves.now i l inv.admitted
                (inv.tree.placed child (ap is_some (sym c.parent_of.ensures.place) ∙ some-place_if c.parent_of.result ∙ there));
          })
    ]
