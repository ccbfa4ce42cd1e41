use Rattle.std.proofs.Common.{◌≡◌, take}
use Rattle.std.specs.FinMap as fin
use Rattle.fugue_text.specs.Texts.{text_entries}
use Rattle.fugue_text.proofs.texts.Texts.from_rows.Given as goal

abbrev pub invariant-loop-row : goal.invariant-loop-row
invariant-loop-row l = l.texts ≡ fin.from_entries (text_entries (take l.row-index l.rows))
