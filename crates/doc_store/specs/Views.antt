-- How a view is made: the index of children, and the nodes that are still to be shown.
use Rattle.std.specs.Prelude.{◌≡◌, ℕ, ◌-◌, Option, List, flat_map, find, reverse}
use Rattle.std.specs.Option.{option_map}
use Rattle.std.specs.BTreeMap as maps
use Rattle.std.specs.FinMap.{len}
use Rattle.op_ids.specs.declared.OpId.{OpId}
use Rattle.model.specs.State.{State, Place, row_cmp}
use Rattle.model.specs.View.{ViewNode, is_at, listed, outline}
use Rattle.doc_store.specs.declared.children.ChildIndex.{ChildIndex}
use Rattle.doc_store.specs.declared.children.Pending.{Pending}

-- ---- the index of children

-- the node that the index has at a position of a parent
abbrev pub child_found : ChildIndex → OpId → OpId → Option OpId
child_found index parent position = maps.get row_cmp index.children (parent, position)

-- It finds the first of these nodes at each position.
abbrev pub Finds : ChildIndex → List (OpId × Place) → Type 0
Finds index nodes = (parent position : OpId) → child_found index parent position ≡ option_map (λ e. e.0) (find (is_at parent position) nodes)

-- ---- the stack

abbrev pub pending_at : ℕ → OpId → Pending
pending_at depth id = record { depth = depth; id = id }

-- what is still to be shown: of each node of the stack, from its top, it and all below it
abbrev pub still_to_show : State → List Pending → List ViewNode
still_to_show s stack = flat_map (λ o. listed (len s.nodes - o.depth) (outline s) o.depth o.id) (reverse stack)
