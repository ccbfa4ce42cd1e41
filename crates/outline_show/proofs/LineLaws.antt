-- Lemmas on printed lines.
use Rattle.std.proofs.Common.{◌≡◌, ℕ, ◌≤◌, List, [], ◌∷◌, ◌++◌, length, map, take, flat_map, sym, ap, ◌∙◌, true, false, nat_eq, arith}
use Rattle.std.specs.Prelude.{IsUtf8, codes}
use Rattle.std.specs.Str.{chars}
use Rattle.std.proofs.lemmas.List.{take_all}
use Rattle.std.proofs.lemmas.List.Folds.{flat_map-map}
use Rattle.std.proofs.lemmas.Bool.{eqb-true}
use Rattle.std.proofs.lemmas.Str.{chars-nil, encodes-chars}
use Rattle.model.specs.Operation.{utf8}
use Rattle.model.specs.Change.{Change}
use Rattle.model.specs.Text.{field, head_line, numbers_text, quoted, text_line}
use Rattle.op_grammar.specs.Changes.{head_of}
use Rattle.op_grammar.specs.declared.head.Head.{Head}

-- the lines of all items, which contracts see by a view
pub lines_all : {X Y : Type 0} (f : Y → List ℕ) (v : X → Y) (before now : List ℕ) (items : List X) (seen : List Y) (i : ℕ) → length items ≤ i → map v items ≡ seen
    → now ≡ before ++ flat_map (λ x. f (v x)) (take i items) → now ≡ before ++ flat_map f seen
lines_all f v before now items seen i past are so_far =
    so_far ∙ ap (λ xs. before ++ flat_map (λ x. f (v x)) xs) (take_all i items past) ∙ ap (λ ls. before ++ ls) (sym (flat_map-map f v items)) ∙ ap (λ ys. before ++ flat_map f ys) are

-- An empty text has no line.
pub no_line : (text : List ℕ) → nat_eq (length text) 0 ≡ true → text_line (chars text) ≡ []
no_line [] empty = ap text_line chars-nil
no_line (b ∷ bs) empty = absurd (let none : length (b ∷ bs) ≡ 0 = eqb-true (length (b ∷ bs)) 0 empty in omega arith)

-- Any other has one.
pub line_of_text : (text : List ℕ) → IsUtf8 text → nat_eq (length text) 0 ≡ false → text_line (chars text) ≡ codes "text " ++ (quoted text ++ codes "\n")
line_of_text text valid some =
    elim (chars text) as (λ cs. utf8 cs ≡ text → text_line cs ≡ codes "text " ++ (quoted text ++ codes "\n")) [
      | [] ↦ λ same. let empty : true ≡ nat_eq (length text) 0 = ap (λ (t : List ℕ). nat_eq (length t) 0) same in cc
      | c ∷ cs ↦ λ same. ap (λ bytes. codes "text " ++ (quoted bytes ++ codes "\n")) same
    ] (encodes-chars text valid)

-- the line of a change, by its head
abbrev pub head_words : List ℕ → List ℕ → Head → List ℕ
head_words word causes h =
    word ++ (field h.member ++ (field h.number ++ (field h.time ++ (codes " causes " ++ (causes
    ++ (codes " count" ++ (field h.count ++ (codes " width" ++ (field h.width ++ codes "\n")))))))))

pub head_words-line : (word said causes : List ℕ) (h : Head) (c : Change) → word ≡ said → causes ≡ numbers_text h.causes → h ≡ head_of c → head_words word causes h ≡ head_line said c
head_words-line word said causes h c words counts heads =
    ap (λ (w : List ℕ). head_words w causes h) words ∙ ap (λ (ns : List ℕ). head_words said ns h) counts ∙ ap (λ (g : Head). head_words said (numbers_text g.causes) g) heads
