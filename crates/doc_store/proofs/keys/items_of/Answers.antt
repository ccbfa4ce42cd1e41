use Rattle.std.proofs.Common.{◌≡◌, ◌∙◌, ap, map, refl, List, [], ◌∷◌}
use Rattle.op_ids.specs.declared.OpId.{OpId}
use Rattle.op_grammar.specs.Values.{own_value_of}
use Rattle.op_grammar.specs.declared.value.OwnValue.{OwnValue}
use Rattle.move_list.specs.Lists.{values_of}
use Rattle.doc_store.proofs.keys.items_of.Goals as goal

values_seen : (items : List (OpId × OwnValue)) → map own_value_of (map (λ item. item.1) items) ≡ values_of items
values_seen [] = refl
values_seen (item ∷ items) = ap (λ vs. own_value_of item.1 ∷ vs) (values_seen items)

pub returns : goal.returns
returns c = ap (map own_value_of) c.in_ok-items.ensures ∙ values_seen c.in_ok-elements.field-0.items ∙ c.in_ok-elements.ensures.values
