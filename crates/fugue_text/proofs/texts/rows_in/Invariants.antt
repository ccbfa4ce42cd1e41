use Rattle.std.proofs.Common.{◌≡◌, ◌++◌}
use Rattle.move_list.specs.Kept.{all_rows}
use Rattle.fugue_text.specs.Texts.{own_rows, text_entries}
use Rattle.fugue_text.proofs.texts.rows_in.Given as goal

abbrev pub invariant-loop-node : goal.invariant-loop-node
invariant-loop-node l = text_entries l.rows.items ++ all_rows own_rows l.node-iterator ≡ all_rows own_rows l.nodes.entries
