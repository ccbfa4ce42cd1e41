use Rattle.std.proofs.Common.{◌∙◌, sym, inl, inr}
use Rattle.op_ids.specs.Order.{root_id}
use Rattle.op_ids.proofs.OrderLaws.{id_eq-exact}
use Rattle.fugue_tree.proofs.TreesLaws.{is_row-own}
use Rattle.fugue_tree.proofs.tests.place_of.Goals as goal
use Rattle.fugue_tree.proofs.tests.place_of.Goals.{then-eq, else-eq}

pub place_after-requires : goal.place_after-requires
place_after-requires c =
    elim c.if-eq.branch [
      | then-eq w ↦ inl (id_eq-exact c.args.left root_id (sym c.eq.ensures ∙ w.if-eq.true))
      | else-eq w ↦ inr (is_row-own c.args.trees.now c.args.owner c.args.left ∙ sym w.has.ensures.row ∙ sym w.value-is ∙ c.if-has.true)
    ]
