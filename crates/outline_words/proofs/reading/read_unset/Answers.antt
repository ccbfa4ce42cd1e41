use Rattle.std.proofs.Common.{refl}
use Rattle.outline_words.proofs.reading.read_unset.Goals as goal

pub returns-clause-command : goal.returns-clause-command
returns-clause-command c =
    let name_read = c.in_ok-name.ensures.found in
    let node_read = c.in_ok-node.ensures.found in
    let key_read = c.in_ok-key.ensures.found in
    (_, refl, (_, _, name_read.valid, name_read.words, (_, _, node_read.valid, node_read.words, (_, _, key_read.valid, key_read.words, (c.in_ok-end.ensures.ended, refl)))))
