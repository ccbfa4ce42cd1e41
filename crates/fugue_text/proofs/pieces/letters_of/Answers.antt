use Rattle.std.proofs.Common.{◌≡◌, ◌≤◌, ◌⊎◌, length, arith}
use Rattle.fugue_text.proofs.LetterLaws.{letters_read}
use Rattle.fugue_text.proofs.pieces.letters_of.Goals as goal

pub returns-clause-letters : goal.returns-clause-letters
returns-clause-letters c =
    let m = c.min-count.result in
    let rest = c.letters_from-rest.result.now in
    let all : (length rest ≤ m) ⊎ (m ≡ c.args.piece.count) = grind (arith, c.min-count.ensures) in
    letters_read c.args.runs.now.entries c.requires.rising c.requires.filled c.args.piece c.requires.piece rest c.letters_from-rest.ensures.letters m (omega (arith, c.min-count.ensures)) all
