use Rattle.std.proofs.Common.{refl}
use Rattle.outline_words.proofs.reading.read_sample.Goals as goal

pub returns-clause-command : goal.returns-clause-command
returns-clause-command c =
    let seed_read = c.in_ok-seed.ensures.found in
    let size_read = c.in_ok-size.ensures.found in
    let name_read = c.in_ok-name.ensures.found in
    (_, refl, (_, _, seed_read.valid, seed_read.words, (_, _, size_read.valid, size_read.words, (_, _, name_read.valid, name_read.words, (c.in_ok-end.ensures.ended, refl)))))
