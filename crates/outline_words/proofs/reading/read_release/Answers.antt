use Rattle.std.proofs.Common.{refl}
use Rattle.outline_words.proofs.reading.read_release.Goals as goal

pub returns-clause-command : goal.returns-clause-command
returns-clause-command c =
    let name_read = c.in_ok-name.ensures.found in
    let member_read = c.in_ok-member.ensures.found in
    (_, refl, (_, _, name_read.valid, name_read.words, (_, _, member_read.valid, member_read.words, (c.in_ok-end.ensures.ended, refl))))
