use Rattle.std.specs.Prelude.{IsUtf8}
use Rattle.std.proofs.Common.{sym, subst}
use Rattle.std.proofs.lemmas.Str.{encodes-chars}
use Rattle.op_grammar.proofs.writing.spell_characters.Goals as goal

pub returns-clause-ok : goal.returns-clause-ok
returns-clause-ok c = rw (encodes-chars c.args.text.now c.utf8.text) c.put_text.ensures.ok

pub returns-clause-plain : goal.returns-clause-plain
returns-clause-plain c = subst IsUtf8 (sym (encodes-chars c.args.text.now c.utf8.text)) c.utf8.text
