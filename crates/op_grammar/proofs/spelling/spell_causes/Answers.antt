use Rattle.std.proofs.Common.{arith}
use Rattle.op_grammar.proofs.SpellingLaws.{all_numbers, numbers_plain}
use Rattle.op_grammar.proofs.spelling.spell_causes.Goals as goal

pub returns-clause-ok : goal.returns-clause-ok
returns-clause-ok c = all_numbers c.args.out.now.items c.loop-member.out.items c.args.causes.now c.loop-member.member (omega arith) c.loop-member.invariant.spelled

pub returns-clause-plain : goal.returns-clause-plain
returns-clause-plain c = numbers_plain c.args.causes.now c.loop-member.member (omega arith) c.loop-member.invariant.few
