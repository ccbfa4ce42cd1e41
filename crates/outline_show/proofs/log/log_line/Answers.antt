use Rattle.std.proofs.Common.{◌∙◌, append_assoc, codes, cond, string_bytes}
use Rattle.outline_show.proofs.LineLaws.{head_words-line}
use Rattle.outline_show.proofs.log.log_line.Goals as goal

pub returns : goal.returns
returns c = λ change is.
    c.from_string.ensures ∙ c.in_ok-text.ensures.ok
    ∙ simp append_assoc (head_words-line c.first_word-word.result.now (cond c.args.waits (codes "waits") (codes "change")) (string_bytes c.in_ok-causes.causes) c.args.head.now change c.first_word-word.ensures c.in_ok-causes.ensures is)
