use Rattle.std.proofs.Common.{◌≡◌, ◌∙◌, ap, sym, subst, Some, None}
use Rattle.std.specs.FinMap as fin
use Rattle.op_ids.specs.Order.{id_cmp}
use Rattle.walk_laws.specs.Insertion.{IsInsertionTree}
use Rattle.fugue_tree.proofs.GrowLaws.{tree_empty}
use Rattle.move_list.specs.Kept.{AreAt}
use Rattle.move_list.specs.Items.{items_of}
use Rattle.move_list.proofs.PlaceLaws.{Elements, at_empty}
use Rattle.move_list.proofs.list.NodeList.new.Goals as goal

pub invariant_of-result : goal.invariant_of-result
invariant_of-result c = record {
  tree = subst IsInsertionTree (sym c.new.ensures.rows) tree_empty;
  items = subst (λ (m : Elements). AreAt c.new.result.rows m) (sym (ap items_of c.new-2.ensures.empty)) (at_empty c.new.result.rows);
}
