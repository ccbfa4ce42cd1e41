use Rattle.std.proofs.Common.{arith}
use Rattle.fugue_text.proofs.PieceLaws.{free_from}
use Rattle.fugue_text.proofs.pieces.free_rows.Goals as goal

pub returns-in-Some-clause-free : goal.returns-in-Some-clause-free
returns-in-Some-clause-free c =
    free_from c.args.runs.now.entries c.requires.rising c.requires.filled c.args.children.now c.requires.index c.args.id c.letters_from.result.now c.letters_from.ensures.letters c.min.result
    (omega (arith, c.min.ensures, c.saturating_sub-followed.ensures))
    (λ k l. c.in-Some.ensures k (omega (arith, l, c.min.ensures)))

pub returns-in-None-clause-free : goal.returns-in-None-clause-free
returns-in-None-clause-free c =
    free_from c.args.runs.now.entries c.requires.rising c.requires.filled c.args.children.now c.requires.index c.args.id c.letters_from.result.now c.letters_from.ensures.letters c.saturating_sub-followed.result
    (omega (arith, c.saturating_sub-followed.ensures))
    (λ k l. c.in-None.ensures k)
