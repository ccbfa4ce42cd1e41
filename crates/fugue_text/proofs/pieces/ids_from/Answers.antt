use Rattle.std.proofs.Common.{◌≡◌, ◌∙◌, ap, sym, ◌+◌, ℕ, List, zero, suc, [], ◌∷◌, ◌++◌, drop, take, get_or, filter, refl}
use Rattle.std.proofs.lemmas.List.{drop_more}
use Rattle.op_ids.specs.declared.OpId.{OpId}
use Rattle.fugue_text.specs.Runs.{rows_in}
use Rattle.fugue_text.specs.Pieces.{ids_in, still_in}
use Rattle.fugue_text.proofs.LetterLaws.{all_at, ids_of_pieces, ids_read, live_in, no_piece}
use Rattle.fugue_text.proofs.pieces.ids_from.Goals as goal

nothing_left : (n k : ℕ) (xs : List OpId) → xs ≡ [] → take n (drop k xs) ≡ []
nothing_left n k (x ∷ xs) e = (let no : x ∷ xs ≡ [] = e in cc)
nothing_left zero zero [] e = refl
nothing_left zero (suc k) [] e = refl
nothing_left (suc n) zero [] e = refl
nothing_left (suc n) (suc k) [] e = refl

pub loop-piece-init : goal.loop-piece-init
loop-piece-init c =
    ap (λ ids. ids ++ take c.args.count (drop c.args.at (filter (live_in (rows_in c.args.runs.now.entries)) (ids_in c.args.pieces.now)))) c.new.ensures.items

pub letters_of-requires-clause-piece : goal.letters_of-requires-clause-piece
letters_of-requires-clause-piece c = all_at c.args.runs.now.entries c.args.pieces.now c.loop-piece.piece-index c.requires.pieces c.loop-piece-test.true

pub loop-piece-preserved : goal.loop-piece-preserved
loop-piece-preserved c =
    let rows = rows_in c.args.runs.now.entries in
    let ps = c.args.pieces.now in
    let i = c.loop-piece.piece-index in
    let p = get_or ps i no_piece in
    let more = drop (i + 1) ps in
    let rest = filter (live_in rows) (ids_in more) in
    let is = c.letters_of.ensures.letters in
    c.in_ok-read.ensures rest
    ∙ ap (still_in c.loop-piece.window) (ap (λ ids. ids ++ rest) (sym (ids_read rows p.id p.count c.letters_of.result.now is.most is.each)) ∙ sym (ids_of_pieces rows p more)
    ∙ ap (λ xs. filter (live_in rows) (ids_in xs)) (sym (drop_more ps i no_piece c.loop-piece-test.true))) ∙ c.loop-piece.invariant
