use Rattle.std.proofs.Common.{◌≡◌, drop, filter, take}
use Rattle.fugue_text.specs.Runs.{rows_in}
use Rattle.fugue_text.specs.Pieces.{ids_in, still_in}
use Rattle.fugue_text.proofs.LetterLaws.{live_in}
use Rattle.fugue_text.proofs.pieces.ids_from.Given as goal

abbrev pub invariant-loop-piece : goal.invariant-loop-piece
invariant-loop-piece l =
    still_in l.window (filter (live_in (rows_in l.runs.entries)) (ids_in (drop l.piece-index l.pieces))) ≡ take l.fn.count (drop l.fn.at (filter (live_in (rows_in l.runs.entries)) (ids_in l.pieces)))
