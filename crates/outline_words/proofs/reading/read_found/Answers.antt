use Rattle.std.proofs.Common.{refl}
use Rattle.outline_words.proofs.reading.read_found.Goals as goal

pub returns-clause-command : goal.returns-clause-command
returns-clause-command c =
    let doc_read = c.in_ok-doc.ensures.found in
    let n_read = c.in_ok-n.ensures.found in
    let name_read = c.in_ok-name.ensures.found in
    (_, refl, (_, _, doc_read.valid, doc_read.words, (_, _, n_read.valid, n_read.words, (_, _, name_read.valid, name_read.words, (c.in_ok-end.ensures.ended, refl)))))
