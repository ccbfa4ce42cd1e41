use Rattle.std.proofs.Common.{refl}
use Rattle.outline_words.proofs.reading.read_snapshot.Goals as goal

pub returns-clause-command : goal.returns-clause-command
returns-clause-command c =
    let name_read = c.in_ok-name.ensures.found in
    let out_read = c.in_ok-out.ensures.found in
    (_, refl, (_, _, name_read.valid, name_read.words, (_, _, out_read.valid, out_read.words, (c.in_ok-end.ensures.ended, refl))))
