-- The line that says who holds a file, written member by member.
use Rattle.std.proofs.Common.{◌≡◌, ℕ, zero, suc, ◌+◌, ◌<◌, List, [], ◌∷◌, ◌++◌, length, map, refl, sym, ap, ◌∙◌, append_assoc, zero-add, arith, lit<}
use Rattle.std.specs.Prelude.{codes, decimal}
use Rattle.std.specs.List.{join_with_byte}
use Rattle.std.proofs.lemmas.Fmt.{decimal_digit}
use Rattle.std.proofs.lemmas.List.FromFn.{length-map-range_with_len, map-range_with_len_more}
use Rattle.model.specs.Base.{members}
use Rattle.model.specs.Text.{holds_line}

-- One more piece is joined behind the others.
join_with_byte-push : (c : ℕ) (pieces : List (List ℕ)) (piece : List ℕ) → 0 < length pieces → join_with_byte c (pieces ++ piece ∷ []) ≡ join_with_byte c pieces ++ (c ∷ piece)
join_with_byte-push c [] piece some = absurd (omega arith)
join_with_byte-push c (first ∷ []) piece some = refl
join_with_byte-push c (first ∷ next ∷ pieces) piece some =
    ap (λ (more : List ℕ). first ++ (c ∷ more)) (join_with_byte-push c (next ∷ pieces) piece (omega arith)) ∙ sym (append_assoc first (c ∷ join_with_byte c (next ∷ pieces)) (c ∷ piece))

-- the line's front, with so many members
abbrev pub holds_first : ℕ → List ℕ
holds_first count = codes "holds " ++ join_with_byte 44 (map decimal (members count))

-- The first member comes with no comma.
pub holds_one : codes "holds 0" ≡ holds_first 1
holds_one = ap (λ (digits : List ℕ). codes "holds " ++ digits) (sym (decimal_digit 0 (lit< tt)))

-- The next member comes behind a comma.
pub holds_more : (count : ℕ) → 0 < count → holds_first count ++ (44 ∷ decimal count) ≡ holds_first (count + 1)
holds_more count some =
    let pieces : List (List ℕ) = map decimal (members count) in
    let pushed = join_with_byte-push 44 pieces (decimal count) (rw (length-map-range_with_len decimal 0 count) some) in
    ap (λ (line : List ℕ). codes "holds " ++ line) (sym pushed ∙ ap (join_with_byte 44) (sym (map-range_with_len_more decimal 0 count count (zero-add count))))

-- With all of its members the front is the line, up to its end.
pub holds_all : (count : ℕ) → 0 < count → holds_first count ++ codes "\n" ≡ holds_line (members count)
holds_all zero some = absurd (omega arith)
holds_all (suc count) some = append_assoc (codes "holds ") (join_with_byte 44 (map decimal (members (suc count)))) (codes "\n")
