use Rattle.std.proofs.Common.{refl}
use Rattle.outline_words.proofs.reading.read_new.Goals as goal

pub returns-clause-command : goal.returns-clause-command
returns-clause-command c =
    let name_read = c.in_ok-name.ensures.found in
    let parent_read = c.in_ok-parent.ensures.found in
    let i_read = c.in_ok-i.ensures.found in
    (_, refl, (_, _, name_read.valid, name_read.words, (_, _, parent_read.valid, parent_read.words, (_, _, i_read.valid, i_read.words, (c.in_ok-end.ensures.ended, refl)))))
