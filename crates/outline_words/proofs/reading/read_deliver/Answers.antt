use Rattle.std.proofs.Common.{refl}
use Rattle.outline_words.proofs.reading.read_deliver.Goals as goal

pub returns-clause-command : goal.returns-clause-command
returns-clause-command c =
    let name_read = c.in_ok-name.ensures.found in
    let bundle_read = c.in_ok-bundle.ensures.found in
    (_, refl, (_, _, name_read.valid, name_read.words, (_, _, bundle_read.valid, bundle_read.words, (c.in_ok-end.ensures.ended, refl))))
