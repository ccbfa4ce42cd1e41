use Rattle.std.proofs.Common.{◌∙◌, ap, sym, refl, ◌+◌, [], ◌∷◌, ◌++◌, drop, get_or, string_bytes, append_assoc}
use Rattle.std.specs.Str.{chars}
use Rattle.std.proofs.lemmas.List.{append-nil, drop_more}
use Rattle.fugue_text.specs.Runs.{no_letter}
use Rattle.fugue_text.specs.Pieces.{alive_characters}
use Rattle.fugue_text.proofs.LetterLaws.{drop_past, letters_more}
use Rattle.fugue_text.proofs.pieces.push_alive.Goals as goal

pub loop-letter-init : goal.loop-letter-init
loop-letter-init c = refl

pub loop-letter-preserved : goal.loop-letter-preserved
loop-letter-preserved c =
    let ls = c.args.letters.now in
    let i = c.loop-letter.letter-index in
    let l = get_or ls i no_letter in
    let more = drop (i + 1) ls in
    let old = chars (string_bytes c.loop-letter.text) in
    ap (λ cs. cs ++ alive_characters more) c.in_ok-push_letter.ensures ∙ append_assoc old (alive_characters (l ∷ [])) (alive_characters more)
    ∙ ap (λ cs. old ++ cs) (sym (letters_more l more) ∙ ap alive_characters (sym (drop_more ls i no_letter c.loop-letter-test.true))) ∙ c.loop-letter.invariant

pub returns : goal.returns
returns c =
    let ls = c.args.letters.now in
    let i = c.loop-letter.letter-index in
    let now = chars (string_bytes c.loop-letter.text) in
    sym (append-nil now) ∙ ap (λ xs. now ++ alive_characters xs) (sym (drop_past ls i c.loop-letter-test.false)) ∙ c.loop-letter.invariant
