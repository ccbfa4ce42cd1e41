use Rattle.std.proofs.Common.{◌≡◌, ◌≤◌, ◌++◌, length, map}
use Rattle.model.specs.Edit.{grouped}
use Rattle.model.specs.Operation.{erase_text}
use Rattle.op_grammar.specs.Operations.{operations_of}
use Rattle.doc_store.proofs.plan_text.erasures.Given as goal

abbrev pub invariant-loop-first : goal.invariant-loop-first
invariant-loop-first l = record {
  most : length l.left ≤ length l.fn.ids;
  made : operations_of l.plan ++ map (λ g. erase_text l.node g.first g.count) (grouped l.left) ≡ map (λ g. erase_text l.node g.first g.count) (grouped l.fn.ids);
}

abbrev pub decreases-loop-first : goal.decreases-loop-first
decreases-loop-first l = length l.left
