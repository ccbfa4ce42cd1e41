use Rattle.std.proofs.Common.{◌≡◌, ◌++◌, drop, filter, filter_map, string_bytes}
use Rattle.std.specs.Str.{chars}
use Rattle.fugue_text.specs.Runs.{character_in, rows_in}
use Rattle.fugue_text.specs.Pieces.{ids_in}
use Rattle.fugue_text.proofs.LetterLaws.{live_in}
use Rattle.fugue_text.proofs.pieces.text_of.Given as goal

abbrev pub invariant-loop-piece : goal.invariant-loop-piece
invariant-loop-piece l =
    chars (string_bytes l.text) ++ filter_map (character_in (rows_in l.runs.entries)) (filter (live_in (rows_in l.runs.entries)) (ids_in (drop l.piece-index l.pieces)))
    ≡ filter_map (character_in (rows_in l.runs.entries)) (filter (live_in (rows_in l.runs.entries)) (ids_in l.pieces))
