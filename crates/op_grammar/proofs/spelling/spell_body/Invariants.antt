use Rattle.std.proofs.Common.{◌≡◌, take}
use Rattle.std.specs.List.{AllByRecursion}
use Rattle.cbor_det.proofs.PlainLaws.{Plain}
use Rattle.model.specs.Operation.{operation_item}
use Rattle.model.specs.Change.{body}
use Rattle.op_grammar.specs.Operations.{operations_of}
use Rattle.op_grammar.proofs.spelling.spell_body.Given as goal

abbrev pub invariant-loop-op : goal.invariant-loop-op
invariant-loop-op l = record {
  spelled : l.body.items ≡ body (operations_of (take l.op-index l.ops));
  plain : AllByRecursion (λ o. Plain (operation_item o) 2) (operations_of (take l.op-index l.ops));
}
