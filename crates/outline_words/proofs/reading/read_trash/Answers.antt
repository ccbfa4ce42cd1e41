use Rattle.std.proofs.Common.{refl}
use Rattle.outline_words.proofs.reading.read_trash.Goals as goal

pub returns-clause-command : goal.returns-clause-command
returns-clause-command c =
    let name_read = c.in_ok-name.ensures.found in
    let child_read = c.in_ok-child.ensures.found in
    (_, refl, (_, _, name_read.valid, name_read.words, (_, _, child_read.valid, child_read.words, (c.in_ok-end.ensures.ended, refl))))
