use Rattle.std.proofs.Common.{◌≡◌, filter_map, take}
use Rattle.doc_store.specs.Views.{child_found}
use Rattle.doc_store.proofs.children.ChildIndex.at_positions.Given as goal

abbrev pub invariant-loop-position : goal.invariant-loop-position
invariant-loop-position l = l.found.items ≡ filter_map (child_found l.self l.parent) (take l.position-index l.positions)
