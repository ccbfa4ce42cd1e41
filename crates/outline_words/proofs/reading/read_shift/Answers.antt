use Rattle.std.proofs.Common.{refl}
use Rattle.outline_words.proofs.reading.read_shift.Goals as goal

pub returns-clause-command : goal.returns-clause-command
returns-clause-command c =
    let name_read = c.in_ok-name.ensures.found in
    let node_read = c.in_ok-node.ensures.found in
    let from_read = c.in_ok-from.ensures.found in
    let to_read = c.in_ok-to.ensures.found in
    (_, refl, (_, _, name_read.valid, name_read.words, (_, _, node_read.valid, node_read.words, (_, _, from_read.valid, from_read.words, (_, _, to_read.valid, to_read.words, (c.in_ok-end.ensures.ended, refl))))))
