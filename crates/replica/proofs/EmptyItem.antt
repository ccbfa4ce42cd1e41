-- The item of the base of no changes, and its spelling.
use Rattle.std.proofs.Common.{◌≡◌, ℕ, zero, suc, ◌+◌, ◌<◌, ◌^◌, List, [], ◌∷◌, ◌++◌, length, map, replicate, refl, sym, ap, subst, ◌∙◌, append_assoc, arith, lit<}
use Rattle.std.specs.Prelude.{flat_map}
use Rattle.std.specs.List.{AllByRecursion, range_with_len}
use Rattle.std.specs.FinMap.{empty, entries, len-entries, len-empty}
use Rattle.std.specs.declared.cmp.Ordering.{Ordering}
use Rattle.std.proofs.lemmas.List.{append-nil, length-map, length-replicate, flat_map_more, replicate_more}
use Rattle.std.proofs.lemmas.List.Folds.{flat_map-map}
use Rattle.op_ids.specs.Order.{id_cmp}
use Rattle.cbor_det.specs.Head.{head}
use Rattle.cbor_det.specs.Item as cbor
use Rattle.cbor_det.proofs.ItemLaws.{spell-list}
use Rattle.cbor_det.proofs.PlainLaws.{Plain, PlainItems, plain_map}
use Rattle.model.specs.Value.{numbers_item}
use Rattle.model.specs.State.{row_cmp, register_cmp}
use Rattle.model.specs.Base.{member_row}
use Rattle.model.specs.BaseItem.{member_item, node_item, position_item, register_item, character_item, element_item, base_item}
use Rattle.replica.specs.Empty.{empty_base, empty_row_item}

no_entries : {A : Type 0} (es : List A) → length es ≡ 0 → es ≡ []
no_entries [] e = refl
no_entries (x ∷ es) e = absurd (omega arith)

pub entries-empty : {K X : Type 0} (R : K → K → Ordering) → entries (empty {X = X} {R = R}) ≡ []
entries-empty {X = X} R = no_entries (entries (empty {R = R})) (sym (len-entries empty) ∙ len-empty R X)

pub each_zero : (limit n : ℕ) → 0 < limit → AllByRecursion (λ k. k < limit) (replicate n 0)
each_zero limit zero some = tt
each_zero limit (suc n) some = (some, each_zero limit n some)

-- ---- its item

abbrev pub empty_table_item : cbor.Item
empty_table_item = cbor.row []

-- a row for each of n members, and six empty tables, at horizon 0
abbrev pub empty_base_item : ℕ → cbor.Item
empty_base_item n = cbor.row (cbor.unsigned 0 ∷ cbor.row (replicate n (empty_row_item n)) ∷ replicate 6 empty_table_item)

-- Each of the members has the same row.
rows_empty : (n first count : ℕ) → map member_item (map (member_row n []) (range_with_len first count)) ≡ replicate count (empty_row_item n)
rows_empty n first zero = refl
rows_empty n first (suc count) = ap (λ (rows : List cbor.Item). empty_row_item n ∷ rows) (rows_empty n (first + 1) count)

-- no rows are spelled
no_rows : {K X : Type 0} (R : K → K → Ordering) (item : K × X → cbor.Item) → map item (entries (empty {X = X} {R = R})) ≡ []
no_rows R item = ap (map item) (entries-empty R)

pub empty_base_is : (n : ℕ) → base_item (empty_base n) ≡ empty_base_item n
empty_base_is n =
    rw (rows_empty n 0 n, no_rows id_cmp node_item, no_rows row_cmp position_item, no_rows register_cmp register_item, no_rows row_cmp character_item, no_rows row_cmp element_item) refl

-- ---- it may stand in a sequence

zeros_plain : (n count : ℕ) → PlainItems (cbor.items_of (map cbor.unsigned (replicate count 0))) 1
zeros_plain n count = plain_map (λ k. k < 2 ^ 64) cbor.unsigned 1 (λ k lt. lt) (replicate count 0) (each_zero (2 ^ 64) count (lit< tt))

rows_plain : (n count : ℕ) → PlainItems (cbor.items_of (replicate count (empty_row_item n))) 3
rows_plain n zero = tt
rows_plain n (suc count) = ((lit< tt, (lit< tt, (zeros_plain n n, tt))), rows_plain n count)

pub empty_base_plain : (n : ℕ) → Plain (base_item (empty_base n)) 5
empty_base_plain n = subst (λ (x : cbor.Item). Plain x 5) (sym (empty_base_is n)) (lit< tt, (rows_plain n n, (tt, (tt, (tt, (tt, (tt, (tt, tt))))))))

-- ---- what the writers of it append

-- One more of the same is appended.
pub same_more : {X : Type 0} (spelled : X → List ℕ) (x : X) (bytes : List ℕ) (count : ℕ) → (bytes ++ flat_map spelled (replicate count x)) ++ spelled x ≡ bytes ++ flat_map spelled (replicate (count + 1) x)
same_more spelled x bytes count = flat_map_more spelled bytes (replicate count x) x ∙ ap (λ xs. bytes ++ flat_map spelled xs) (replicate_more count x)

pub numbers_spelled : (ks : List ℕ) → cbor.spell (numbers_item ks) ≡ head 4 (length ks) ++ flat_map (head 0) ks
numbers_spelled ks = spell-list (map cbor.unsigned ks) ∙ rw (length-map ks cbor.unsigned, flat_map-map cbor.spell cbor.unsigned ks) refl

-- A list of zeros, one for each of n members.
no_counts_spelled : (n : ℕ) → cbor.spell (numbers_item (replicate n 0)) ≡ head 4 n ++ flat_map (head 0) (replicate n 0)
no_counts_spelled n = numbers_spelled (replicate n 0) ∙ ap (λ (k : ℕ). head 4 k ++ flat_map (head 0) (replicate n 0)) (length-replicate n 0)

-- Two numbers and a list of zeros are the row of a member who made no change.
pub row_written : (bytes : List ℕ) (n : ℕ) → bytes ++ head 4 3 ++ head 0 0 ++ head 0 0 ++ head 4 n ++ flat_map (head 0) (replicate n 0) ≡ bytes ++ cbor.spell (empty_row_item n)
row_written bytes n =
    let known : List ℕ = cbor.spell (numbers_item (replicate n 0)) in
    let spelled : cbor.spell (empty_row_item n) ≡ head 4 3 ++ (head 0 0 ++ (head 0 0 ++ known)) = simp append-nil in
    let regrouped : bytes ++ head 4 3 ++ head 0 0 ++ head 0 0 ++ head 4 n ++ flat_map (head 0) (replicate n 0) ≡ bytes ++ (head 4 3 ++ (head 0 0 ++ (head 0 0 ++ (head 4 n ++ flat_map (head 0) (replicate n 0))))) = simp append_assoc in
    regrouped ∙ ap (λ (t : List ℕ). bytes ++ (head 4 3 ++ (head 0 0 ++ (head 0 0 ++ t)))) (sym (no_counts_spelled n)) ∙ ap (λ (t : List ℕ). bytes ++ t) (sym spelled)

-- A list of so many rows.
rows_spelled : (n : ℕ) → cbor.spell (cbor.row (replicate n (empty_row_item n))) ≡ head 4 n ++ flat_map cbor.spell (replicate n (empty_row_item n))
rows_spelled n = spell-list (replicate n (empty_row_item n)) ∙ ap (λ (k : ℕ). head 4 k ++ flat_map cbor.spell (replicate n (empty_row_item n))) (length-replicate n (empty_row_item n))

-- The horizon, the rows and six empty tables are the base of no changes.
pub base_written : (bytes : List ℕ) (n : ℕ) → bytes ++ head 4 8 ++ head 0 0 ++ head 4 n ++ flat_map cbor.spell (replicate n (empty_row_item n)) ++ flat_map (head 4) (replicate 6 0) ≡ bytes ++ cbor.spell (base_item (empty_base n))
base_written bytes n =
    let rows : List ℕ = flat_map cbor.spell (replicate n (empty_row_item n)) in
    let tables : List ℕ = flat_map (head 4) (replicate 6 0) in
    let spelled : cbor.spell (empty_base_item n) ≡ head 4 8 ++ (head 0 0 ++ (cbor.spell (cbor.row (replicate n (empty_row_item n))) ++ tables)) = simp append-nil in
    let regrouped : bytes ++ head 4 8 ++ head 0 0 ++ head 4 n ++ rows ++ tables ≡ bytes ++ (head 4 8 ++ (head 0 0 ++ ((head 4 n ++ rows) ++ tables))) = simp append_assoc in
    regrouped ∙ ap (λ (t : List ℕ). bytes ++ (head 4 8 ++ (head 0 0 ++ (t ++ tables)))) (sym (rows_spelled n)) ∙ ap (λ (t : List ℕ). bytes ++ t) (sym (ap cbor.spell (empty_base_is n) ∙ spelled))
