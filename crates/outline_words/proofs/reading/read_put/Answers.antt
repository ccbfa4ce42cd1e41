use Rattle.std.proofs.Common.{refl}
use Rattle.outline_words.proofs.reading.read_put.Goals as goal

pub returns-clause-command : goal.returns-clause-command
returns-clause-command c =
    let name_read = c.in_ok-name.ensures.found in
    let node_read = c.in_ok-node.ensures.found in
    let key_read = c.in_ok-key.ensures.found in
    let value_read = c.in_ok-value.ensures.found.2 in
    (_, (c.in_ok-value.ensures.found.0, c.in_ok-value.ensures.found.1, refl), (_, _, name_read.valid, name_read.words, (_, _, node_read.valid, node_read.words, (_, _, key_read.valid, key_read.words, (_, _, value_read.valid, value_read.words, (c.in_ok-end.ensures.ended, refl))))))
