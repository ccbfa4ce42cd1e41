use Rattle.std.proofs.Common.{rules}
use Rattle.outline_words.specs.Forms.{number}
use Rattle.outline_words.proofs.RestLaws.{passed}
use Rattle.outline_words.proofs.rest.Rest.number.Goals as goal

pub returns-clause-passed : goal.returns-clause-passed
returns-clause-passed c = passed (number c.args.least c.args.most) _ _ _ c.in_ok-word.ensures.ok.1 (search rules)
