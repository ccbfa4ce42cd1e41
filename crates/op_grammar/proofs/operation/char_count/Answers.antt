use Rattle.std.proofs.lemmas.Iterator.{YieldsList-from_chars}
use Rattle.std.proofs.lemmas.Iterator.Consumers.{count_from_yields_List}
use Rattle.op_grammar.proofs.TextLaws.{text_scalars}
use Rattle.op_grammar.proofs.operation.char_count.Goals as goal

pub returns-clause-value : goal.returns-clause-value
returns-clause-value c = count_from_yields_List c.chars.result c.count.result c.count.ensures.ran (YieldsList-from_chars c.args.text.now c.utf8.text c.chars.ensures.rest)

pub returns-clause-fits : goal.returns-clause-fits
returns-clause-fits c = text_scalars c.args.text.now c.utf8.text
