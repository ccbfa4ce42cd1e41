use Rattle.std.proofs.Common.{◌≡◌, ◌++◌, drop}
use Rattle.op_ids.specs.Order.{id_plus}
use Rattle.move_list.specs.Kept.{tagged}
use Rattle.fugue_text.specs.Runs.{run_anchor, run_rows}
use Rattle.fugue_text.specs.Texts.{text_entries}
use Rattle.fugue_text.proofs.node_text.push_run.Given as goal

abbrev pub invariant-loop-letter : goal.invariant-loop-letter
invariant-loop-letter l =
    (l.count ≡ l.letter-index)
    × (text_entries l.rows.items ++ tagged l.fn.node (run_rows (id_plus l.fn.first l.letter-index) (record { on = l.anchor; side = l.side }) (drop l.letter-index l.letters))
    ≡ text_entries l.fn.rows.items ++ tagged l.fn.node (run_rows l.fn.first (run_anchor l.fn.run) l.letters))
