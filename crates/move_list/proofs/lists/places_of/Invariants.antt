use Rattle.std.proofs.Common.{◌≡◌, ◌++◌}
use Rattle.move_list.specs.Kept.{AreListsOf, all_rows, places_in}
use Rattle.move_list.specs.Lists.{place_entries}
use Rattle.move_list.proofs.lists.places_of.Given as goal

abbrev pub invariant-loop-list : goal.invariant-loop-list
invariant-loop-list l = AreListsOf l.list-iterator × (place_entries l.rows.items ++ all_rows places_in l.list-iterator ≡ all_rows places_in l.nodes.entries)
