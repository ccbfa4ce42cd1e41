-- The first bytes of a text as a number. Where those of two texts differ, their order is that of the texts.
use Rattle.std.specs.Prelude.{ℕ, List, [], ◌∷◌, get_or}
use Rattle.std.specs.Int.{from_be_bytes, w64}

-- the first 8 bytes, with zeros past the end
abbrev pub first_bytes : List ℕ → List ℕ
first_bytes text = get_or text 0 0 ∷ get_or text 1 0 ∷ get_or text 2 0 ∷ get_or text 3 0 ∷ get_or text 4 0 ∷ get_or text 5 0 ∷ get_or text 6 0 ∷ get_or text 7 0 ∷ []

abbrev pub prefix_of : List ℕ → ℕ
prefix_of text = from_be_bytes w64 (first_bytes text)
