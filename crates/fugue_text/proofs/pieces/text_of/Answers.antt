use Rattle.std.proofs.Common.{◌∙◌, ap, sym, ◌+◌, ℕ, List, ◌++◌, drop, get_or, filter, filter_map, string_bytes, append_assoc}
use Rattle.std.specs.Str.{chars}
use Rattle.std.proofs.lemmas.List.{append-nil, drop_more}
use Rattle.std.proofs.lemmas.Str.{chars-nil}
use Rattle.op_ids.specs.declared.OpId.{OpId}
use Rattle.model.specs.State.{run_of}
use Rattle.fugue_text.specs.Runs.{character_in, rows_in}
use Rattle.fugue_text.specs.Pieces.{ids_in}
use Rattle.fugue_text.proofs.LetterLaws.{all_at, drop_past, live_in, no_piece, text_of_pieces, text_read}
use Rattle.fugue_text.proofs.pieces.text_of.Goals as goal

pub loop-piece-init : goal.loop-piece-init
loop-piece-init c =
    let rows = rows_in c.args.runs.now.entries in
    ap (λ cs. cs ++ filter_map (character_in rows) (filter (live_in rows) (ids_in c.args.pieces.now))) (ap chars c.new-text.ensures.bytes ∙ chars-nil)

pub letters_of-requires-clause-piece : goal.letters_of-requires-clause-piece
letters_of-requires-clause-piece c = all_at c.args.runs.now.entries c.args.pieces.now c.loop-piece.piece-index c.requires.pieces c.loop-piece-test.true

pub loop-piece-preserved : goal.loop-piece-preserved
loop-piece-preserved c =
    let rows = rows_in c.args.runs.now.entries in
    let ps = c.args.pieces.now in
    let i = c.loop-piece.piece-index in
    let p = get_or ps i no_piece in
    let more = drop (i + 1) ps in
    let old = chars (string_bytes c.loop-piece.text) in
    let read : List OpId → List ℕ = λ ids. filter_map (character_in rows) (filter (live_in rows) ids) in
    let letters = c.letters_of.result.now in
    let is = c.letters_of.ensures.letters in
    ap (λ cs. cs ++ read (ids_in more)) (c.in_ok-push_alive.ensures ∙ ap (λ cs. old ++ cs) (sym (text_read rows p.id p.count letters is.most is.each)))
    ∙ append_assoc old (read (run_of p.id p.count)) (read (ids_in more))
    ∙ ap (λ cs. old ++ cs) (sym (text_of_pieces rows p more) ∙ ap (λ xs. read (ids_in xs)) (sym (drop_more ps i no_piece c.loop-piece-test.true))) ∙ c.loop-piece.invariant

pub returns : goal.returns
returns c =
    let rows = rows_in c.args.runs.now.entries in
    let ps = c.args.pieces.now in
    let i = c.loop-piece.piece-index in
    let now = chars (string_bytes c.loop-piece.text) in
    sym (append-nil now) ∙ ap (λ xs. now ++ filter_map (character_in rows) (filter (live_in rows) (ids_in xs))) (sym (drop_past ps i c.loop-piece-test.false)) ∙ c.loop-piece.invariant
