-- Lemmas on the parts of a word between its commas, and on what is read of them.
use Rattle.std.proofs.Common.{Bor, ◌≡◌, ℕ, ◌<◌, ◌≤◌, ◌^◌, List, [], ◌∷◌, ◌++◌, map, length, get_or, refl, sym, ◌∙◌, ap, eqb, false, min, All, Option, Some, None, arith, append_assoc, length-append}
use Rattle.std.specs.declared.str.Split.{Split}
use Rattle.std.specs.Fmt.{decimal}
use Rattle.std.specs.List.{slice_split, join_with_byte, zip}
use Rattle.std.specs.Str.Iter.{split_steps}
use Rattle.std.specs.Str.Pattern.{FindsChar}
use Rattle.std.proofs.lemmas.Fmt.{decimal_injective, digits_decimal}
use Rattle.std.proofs.lemmas.Grind.{get_or_default_zero}
use Rattle.std.proofs.lemmas.Iterator.{YieldsList}
use Rattle.std.proofs.lemmas.List.{append-nil, length-map, map-append, get_or-map, same_lists}
use Rattle.std.proofs.lemmas.List.Elements.{All-from_get_or, All-head, All-tail, All-push}
use Rattle.std.proofs.lemmas.List.Splits.{slice_split_none, slice_split_at, length-slice_split, join_with_byte-slice_split}
use Rattle.std.proofs.lemmas.Slice.Zip.{get_or-zip, length-zip}
use Rattle.std.proofs.lemmas.Str.Parse.{not_in_digits}
use borrow.Author.Tests.{ne_eqb}
use Rattle.op_ids.proofs.Numbers.{digits_model}
use Rattle.version_vector.specs.Counts.{IsCounts, counts_word, least_counts}

abbrev pub IsCount : ℕ → Type 0
IsCount n = n < 2 ^ 32

abbrev pub parts : List ℕ → List (List ℕ)
parts word = slice_split (λ b. eqb b 44) word

no_comma : (n : ℕ) → IsCount n → All (λ b. eqb b 44 ≡ false) (decimal n)
no_comma n small =
    let wide : n < 2 ^ 64 = omega arith in
    All-from_get_or (λ b. eqb b 44 ≡ false) (decimal n) 0
    (λ i within. ne_eqb (get_or (decimal n) i 0) 44 (not_in_digits digits_model (decimal n) 44 (digits_decimal digits_model n wide) (λ digit. omega (arith, digit)) i within))

-- the parts of the word of some counts are the numbers
pub parts-counts_word : (ns : List ℕ) → All IsCount ns → 0 < length ns → parts (counts_word ns) ≡ map decimal ns
parts-counts_word [] small some = absurd (omega arith)
parts-counts_word (n ∷ []) small some = slice_split_none (λ b. eqb b 44) (decimal n) (no_comma n (All-head IsCount n [] small))
parts-counts_word (n ∷ m ∷ ns) small some =
    slice_split_at (λ b. eqb b 44) (decimal n) 44 (counts_word (m ∷ ns)) (no_comma n (All-head IsCount n (m ∷ ns) small)) refl
    ∙ ap (λ ps. decimal n ∷ ps) (parts-counts_word (m ∷ ns) (All-tail IsCount n (m ∷ ns) small) (omega arith))

-- equal numbers in decimal are equal numbers
pub map-decimal_injective : (ms ns : List ℕ) → All IsCount ms → All IsCount ns → map decimal ms ≡ map decimal ns → ms ≡ ns
map-decimal_injective [] [] small_m small_n same = refl
map-decimal_injective [] (n ∷ ns) small_m small_n same = cc
map-decimal_injective (m ∷ ms) [] small_m small_n same = cc
map-decimal_injective (m ∷ ms) (n ∷ ns) small_m small_n same =
    let few_m = All-head IsCount m ms small_m in
    let few_n = All-head IsCount n ns small_n in
    let first : decimal m ≡ decimal n = cc in
    let others : map decimal ms ≡ map decimal ns = cc in
    let one : m ≡ n = decimal_injective m n (omega arith) (omega arith) first in
    let rest : ms ≡ ns = map-decimal_injective ms ns (All-tail IsCount m ms small_m) (All-tail IsCount n ns small_n) others in
    cc

-- among the spellings of counts each one spells a count
among_counts : (ms ns : List ℕ) (part : List ℕ) (more : List (List ℕ)) → All IsCount ns → map decimal ms ++ part ∷ more ≡ map decimal ns → (n : ℕ) × (IsCount n × (part ≡ decimal n))
among_counts [] [] part more small same = cc
among_counts [] (n ∷ ns) part more small same = (n, (All-head IsCount n ns small, cc))
among_counts (m ∷ ms) [] part more small same = cc
among_counts (m ∷ ms) (n ∷ ns) part more small same = among_counts ms ns part more (All-tail IsCount n ns small) cc

-- ---- a split at commas, by its calls

abbrev splits : Split ℕ → Option (Bor (List ℕ)) → Split ℕ → Type 0
splits = split_steps FindsChar (λ a b. b ≡ a)

abbrev pub Left : Split ℕ → List (List ℕ) → Type 0
Left it more = YieldsList splits (λ x. x.now) it more

some_left : (more : List (List ℕ)) (it next : Split ℕ) (part : Bor (List ℕ)) → Left it more → splits it (Some part) next → (rest : List (List ℕ)) × ((more ≡ part.now ∷ rest) × Left next rest)
some_left [] it next part left step = absurd (left.runs part next step)
some_left (p ∷ rest) it next part left step =
    let turn = left.runs.1 part next step in
    (rest, (ap (λ q. q ∷ rest) (sym turn.0), record { runs = turn.1 }))

none_left : (more : List (List ℕ)) (it next : Split ℕ) → Left it more → splits it None next → more ≡ []
none_left [] it next left step = refl
none_left (p ∷ rest) it next left step = absurd (left.runs.0 next step)

-- so many counts are read, and these parts are left
pub record Reads (word items : List ℕ) (it : Split ℕ) : Type 0 where
  pub more : List (List ℕ)
  pub read : parts word ≡ map decimal items ++ more
  pub left : Left it more
  pub small : All IsCount items
  pub few : length items ≤ 32

-- the next part spells a count
pub reads_more : (word items : List ℕ) (it next : Split ℕ) (part : Bor (List ℕ)) (n : ℕ) → Reads word items it → splits it (Some part) next → part.now ≡ decimal n → IsCount n → length items < 32
    → Reads word (items ++ n ∷ []) next
reads_more word items it next part n r step spelled small room =
    let turn = some_left r.more it next part r.left step in
    let first : r.more ≡ decimal n ∷ turn.0 = turn.1.0 ∙ ap (λ q. q ∷ turn.0) spelled in
    record {
      more = turn.0;
      read = r.read ∙ ap (λ ps. map decimal items ++ ps) first ∙ sym (append_assoc (map decimal items) (decimal n ∷ []) turn.0) ∙ ap (λ ps. ps ++ turn.0) (sym (map-append decimal items (n ∷ [])));
      left = turn.1.1;
      small = All-push IsCount items n r.small small;
      few = omega (arith, length-append items (n ∷ []));
    }

-- a word of counts has no part that spells none
pub reads_count : (word items : List ℕ) (it next : Split ℕ) (part : Bor (List ℕ)) (ns : List ℕ) → Reads word items it → splits it (Some part) next → IsCounts ns → word ≡ counts_word ns
    → (n : ℕ) × (IsCount n × (part.now ≡ decimal n))
reads_count word items it next part ns r step counts is =
    let turn = some_left r.more it next part r.left step in
    among_counts items ns part.now turn.0 counts.in_range
    (ap (λ ps. map decimal items ++ ps) (sym turn.1.0) ∙ sym r.read ∙ ap parts is ∙ parts-counts_word ns counts.in_range counts.some)

-- and none after the 32nd
pub reads_few : (word items : List ℕ) (it next : Split ℕ) (part : Bor (List ℕ)) (ns : List ℕ) → Reads word items it → splits it (Some part) next → IsCounts ns → word ≡ counts_word ns → length items < 32
reads_few word items it next part ns r step counts is =
    let turn = some_left r.more it next part r.left step in
    let same : map decimal items ++ part.now ∷ turn.0 ≡ map decimal ns =
    ap (λ ps. map decimal items ++ ps) (sym turn.1.0) ∙ sym r.read ∙ ap parts is ∙ parts-counts_word ns counts.in_range counts.some in
    omega (arith, ap length same, length-append (map decimal items) (part.now ∷ turn.0), length-map items decimal, length-map ns decimal, counts.few)

-- where no part is left, the word spells what was read, and nothing else
pub reads_all : (word items : List ℕ) (it next : Split ℕ) → Reads word items it → splits it None next → IsCounts items × (word ≡ counts_word items)
reads_all word items it next r step =
    let none = none_left r.more it next r.left step in
    let read : parts word ≡ map decimal items = r.read ∙ ap (λ ps. map decimal items ++ ps) none ∙ append-nil (map decimal items) in (
      record { some = omega (arith, ap length read, length-slice_split (λ b. eqb b 44) word, length-map items decimal); few = r.few; in_range = r.small },
      sym (join_with_byte-slice_split 44 word) ∙ ap (join_with_byte 44) read,
    )

pub one_reading : (ms ns : List ℕ) → IsCounts ms → IsCounts ns → counts_word ms ≡ counts_word ns → ms ≡ ns
one_reading ms ns counts others same =
    map-decimal_injective ms ns counts.in_range others.in_range
    (sym (parts-counts_word ms counts.in_range counts.some) ∙ ap parts same ∙ parts-counts_word ns others.in_range others.some)

-- ---- the word of one count more

pub first_word : (ns : List ℕ) (n : ℕ) → length ns ≡ 0 → counts_word ns ++ decimal n ≡ counts_word (ns ++ n ∷ [])
first_word [] n none = refl
first_word (m ∷ ns) n none = absurd (omega arith)

pub next_word : (ns : List ℕ) (n : ℕ) → 0 < length ns → (counts_word ns ++ 44 ∷ []) ++ decimal n ≡ counts_word (ns ++ n ∷ [])
next_word [] n some = absurd (omega arith)
next_word (m ∷ []) n some = append_assoc (decimal m) (44 ∷ []) (decimal n)
next_word (m ∷ k ∷ ns) n some =
    ap (λ w. w ++ decimal n) (append_assoc (decimal m) (44 ∷ counts_word (k ∷ ns)) (44 ∷ []))
    ∙ append_assoc (decimal m) (44 ∷ (counts_word (k ∷ ns) ++ 44 ∷ [])) (decimal n)
    ∙ ap (λ w. decimal m ++ 44 ∷ w) (next_word (k ∷ ns) n (omega arith))

-- ---- the less of each two counts

pub least_counts-at : (ms ns ls : List ℕ) → length ms ≡ length ns → length ls ≡ length ms → ((k : ℕ) → k < length ms → get_or ls k 0 ≡ min (get_or ms k 0) (get_or ns k 0)) → ls ≡ least_counts ms ns
least_counts-at ms ns ls same long each =
    let pairs : length (zip ms ns) ≡ length ms = omega (arith, length-zip ms ns) in
    same_lists ls (least_counts ms ns) (omega (arith, length-map (zip ms ns) (λ both. min both.0 both.1)))
    (λ k d within.
    let in_ms : k < length ms = omega arith in
    let in_ns : k < length ns = omega arith in
    get_or_default_zero ls k d within ∙ each k in_ms
    ∙ sym (get_or-map (λ both. min both.0 both.1) (zip ms ns) k (0, 0) d (omega arith) ∙ ap (λ both. min both.0 both.1) (get_or-zip ms ns k (0, 0) in_ms in_ns)))
