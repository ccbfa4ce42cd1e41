use Rattle.std.proofs.Common.{◌≡◌, ◌++◌, flat_map, take, string_bytes}
use Rattle.model.specs.Text.{item_line}
use Rattle.op_grammar.specs.Values.{own_value_of}
use Rattle.outline_show.proofs.show.push_items.Given as goal

abbrev pub invariant-loop-item : goal.invariant-loop-item
invariant-loop-item l = string_bytes l.text ≡ string_bytes l.initial.text ++ flat_map (λ v. item_line (own_value_of v)) (take l.item-index l.item-items)
