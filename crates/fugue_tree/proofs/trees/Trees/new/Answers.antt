use Rattle.std.proofs.Common.{ap}
use Rattle.std.specs.List.{list_any}
use Rattle.std.specs.BTreeMap.{is_at}
use Rattle.fugue_tree.specs.Trees.{owned_cmp, table_of}
use Rattle.fugue_tree.proofs.TreesLaws.{none_kept}
use Rattle.fugue_tree.proofs.trees.Trees.new.Goals as goal

pub invariant_of-result : goal.invariant_of-result
invariant_of-result c =
    none_kept (table_of c.new.result.entries) c.new-2.result (ap table_of c.new.ensures.empty) (λ k. ap (list_any (is_at (owned_cmp k))) c.new-2.ensures.empty)
