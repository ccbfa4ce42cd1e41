-- Elements as they are kept.
use Rattle.std.specs.Prelude.{true, false, Option, Some, None, List, map}
use Rattle.std.specs.FinMap.{FinMap, get, insert, from_entries}
use Rattle.op_ids.specs.declared.OpId.{OpId}
use Rattle.op_ids.specs.Order.{id_cmp}
use Rattle.model.specs.Value.{Value}
use Rattle.model.specs.State.{Element}
use Rattle.op_grammar.specs.Values.{own_value_of}
use Rattle.move_list.specs.declared.item.Item.{Item}

abbrev pub seen : Item → Element
seen i = record { position = i.position; writer = i.writer; value = own_value_of i.value; dropped = i.dropped }

abbrev pub kept_entry : OpId × Item → OpId × Element
kept_entry e = (e.0, seen e.1)

abbrev pub items_of : List (OpId × Item) → FinMap id_cmp Element
items_of es = from_entries (map kept_entry es)

-- an element as it is added
abbrev pub added : OpId → Value → Element
added id value = record { position = id; writer = id; value = value; dropped = false }

abbrev pub dropped_of : Element → Element
dropped_of e = record e { dropped = true }

-- the elements with what f makes of one, where it is there
abbrev pub edit_if : FinMap id_cmp Element → OpId → (Element → Element) → Option Element → FinMap id_cmp Element
edit_if elements id f None = elements
edit_if elements id f (Some e) = insert elements id (f e)

abbrev pub edited : FinMap id_cmp Element → OpId → (Element → Element) → FinMap id_cmp Element
edited elements id f = edit_if elements id f (get elements id)
