-- How texts and bytes are printed, and the notation in which items are.
use Rattle.std.specs.Prelude.{ℕ, ◌/◌, ◌%◌, ◌||◌, ◌==◌, nat_lt, if◌then◌else◌, negsuc, List, [], ◌∷◌, ◌++◌, codes, decimal, flat_map, slice_index}
use Rattle.std.specs.Fmt.{signed_decimal}
use Rattle.cbor_det.specs.Item.{Item, unsigned, negative, bytes, text, list, map, tag, simple, Items, no_items, item, Pairs, no_pairs, pair, Simple}
use Rattle.cbor_det.specs.declared.simple.Simple.TheVariants.{False, True, Null}

-- ---- bytes and texts

abbrev pub hex_digit : ℕ → ℕ
hex_digit n = slice_index (codes "0123456789abcdef") n

-- Each byte as two digits.
abbrev pub hex : List ℕ → List ℕ
hex bs = flat_map (λ b. hex_digit (b / 16) ∷ hex_digit (b % 16) ∷ []) bs

-- A byte of a text, by the escape rule: a quote and a backslash get a backslash before them, a control
-- character is its number, and all else stands as it is.
abbrev pub escaped : ℕ → List ℕ
escaped b =
    if b == 34 then codes "\\\"" else
    if b == 92 then codes "\\\\" else
    if nat_lt b 32 || b == 127 then codes "\\u00" ++ hex (b ∷ []) else
    b ∷ []

-- A text between quotes.
abbrev pub quoted : List ℕ → List ℕ
quoted t = codes "\"" ++ (flat_map escaped t ++ codes "\"")

-- ---- items

-- Texts, each behind a comma and a blank.
abbrev pub others : List (List ℕ) → List ℕ
others texts = flat_map (λ t. codes ", " ++ t) texts

-- Texts one after the other, with a comma and a blank between them.
abbrev pub joined : List (List ℕ) → List ℕ
joined [] = []
joined (t ∷ ts) = t ++ others ts

abbrev pub simple_name : Simple → List ℕ
simple_name False = codes "false"
simple_name True = codes "true"
simple_name Null = codes "null"

-- An item as it is printed.
abbrev mutual
  pub notation : Item → List ℕ
  notation (unsigned n) = decimal n
  notation (negative n) = signed_decimal (negsuc n)
  notation (bytes b) = codes "h'" ++ (hex b ++ codes "'")
  notation (text t) = quoted t
  notation (list xs) = codes "[" ++ (joined (notations xs) ++ codes "]")
  notation (map ps) = codes "{" ++ (joined (pair_notations ps) ++ codes "}")
  notation (tag n x) = decimal n ++ (codes "(" ++ (notation x ++ codes ")"))
  notation (simple s) = simple_name s

  -- each of them
  pub notations : Items → List (List ℕ)
  notations no_items = []
  notations (item x xs) = notation x ∷ notations xs

  -- each pair, its key before its value
  pub pair_notations : Pairs → List (List ℕ)
  pair_notations no_pairs = []
  pair_notations (pair k v ps) = (notation k ++ (codes ": " ++ notation v)) ∷ pair_notations ps

-- A line for each item of a sequence.
abbrev pub notation_lines : List Item → List ℕ
notation_lines xs = flat_map (λ x. notation x ++ codes "\n") xs
