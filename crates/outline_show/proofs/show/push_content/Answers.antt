use Rattle.std.proofs.Common.{◌∙◌, sym, arith, string_bytes}
use Rattle.std.proofs.lemmas.Grind.{common_steps}
use Rattle.std.proofs.lemmas.List.{append-nil}
use Rattle.outline_show.proofs.LineLaws.{line_of_text, no_line}
use Rattle.outline_show.proofs.show.push_content.Goals as goal

pub returns-then-is_empty : goal.returns-then-is_empty
returns-then-is_empty c = rw (no_line c.args.content.now (sym c.is_empty.ensures ∙ c.if-is_empty.true)) (sym (append-nil (string_bytes c.args.text.now)))

pub returns : goal.returns
returns c = rw (line_of_text c.args.content.now c.utf8.content (sym c.is_empty.ensures ∙ c.if-is_empty.false)) (grind (arith, common_steps))
