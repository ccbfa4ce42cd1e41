use Rattle.std.proofs.Common.{rules, ◌≡◌, ◌∙◌, ap, sym, ◌++◌, ◌∷◌, [], map, cond, string_bytes, not}
use Rattle.std.specs.Prelude.{encode_utf8}
use Rattle.std.specs.Char.{IsScalar}
use Rattle.std.specs.Str.{chars}
use Rattle.std.proofs.lemmas.List.{append-nil}
use Rattle.std.proofs.lemmas.Str.{chars-append, chars-nil, chars_past_char, IsUtf8-encode, IsUtf8-string_bytes}
use Rattle.fugue_text.specs.declared.run.Letter.{Letter}
use Rattle.fugue_text.proofs.pieces.push_letter.Goals as goal

pub returns-then-letter : goal.returns-then-letter
returns-then-letter c =
    let old = chars (string_bytes c.args.text.now) in
    sym (append-nil old) ∙ ap (λ d. old ++ map (λ (l : Letter). l.character) (cond (not d) (c.args.letter ∷ []) [])) (sym c.if-letter.true)

pub returns : goal.returns
returns c =
    let x = c.args.letter.character in
    let old = string_bytes c.args.text.now in
    let scalar : IsScalar x = search rules in
    let pushed : string_bytes c.push.new.self ≡ old ++ encode_utf8 x = search rules in
    let one : chars (encode_utf8 x) ≡ x ∷ [] = chars_past_char (encode_utf8 x) [] x (IsUtf8-encode x scalar) (sym (append-nil (encode_utf8 x))) ∙ ap (λ ys. x ∷ ys) chars-nil in
    ap chars pushed ∙ chars-append old (encode_utf8 x) (IsUtf8-string_bytes c.args.text.now) ∙ ap (λ ys. chars old ++ ys) one
    ∙ ap (λ d. chars old ++ map (λ (l : Letter). l.character) (cond (not d) (c.args.letter ∷ []) [])) (sym c.if-letter.false)
