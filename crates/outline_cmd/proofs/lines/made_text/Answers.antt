use Rattle.std.proofs.Common.{◌∙◌, string_bytes}
use Rattle.outline_cmd.proofs.MadeLines.{lines_all}
use Rattle.outline_cmd.proofs.lines.made_text.Goals as goal

pub returns : goal.returns
returns c = λ cs are. c.from_string.ensures ∙ lines_all c.args.notes.now cs c.loop-note.note-index (string_bytes c.loop-note.text) c.loop-note-test.false are c.loop-note.invariant
