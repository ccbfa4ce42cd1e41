use Rattle.std.proofs.Common.{◌≡◌, flat_map, take, string_bytes}
use Rattle.outline_cmd.proofs.MadeLines.{note_line}
use Rattle.outline_cmd.proofs.lines.made_text.Given as goal

abbrev pub invariant-loop-note : goal.invariant-loop-note
invariant-loop-note l = string_bytes l.text ≡ flat_map note_line (take l.note-index l.notes)
