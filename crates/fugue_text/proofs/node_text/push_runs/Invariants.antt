use Rattle.std.proofs.Common.{◌≡◌, ◌++◌}
use Rattle.move_list.specs.Kept.{tagged}
use Rattle.fugue_text.specs.Runs.{AreFilled, rows_in}
use Rattle.fugue_text.specs.Texts.{text_entries}
use Rattle.fugue_text.proofs.node_text.push_runs.Given as goal

abbrev pub invariant-loop-first : goal.invariant-loop-first
invariant-loop-first l =
    AreFilled l.first-iterator × (text_entries l.rows.items ++ tagged l.fn.node (rows_in l.first-iterator) ≡ text_entries l.fn.rows.items ++ tagged l.fn.node (rows_in l.runs.entries))
