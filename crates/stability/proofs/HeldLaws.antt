-- The rows of what is held, with one change more.
use Rattle.std.proofs.Common.{◌≡◌, ◌≢◌, ℕ, ◌<◌, true, false, eqb, List, [], ◌∷◌, ◌++◌, length, map, set, get_or, Option, Some, None, refl, sym, ap, ◌∙◌, arith, inl, inr, append_assoc}
use Rattle.std.specs.Prelude.{filter, fold, slice_get, unwrap_or}
use Rattle.std.specs.List.{last_or}
use Rattle.std.specs.Option.{option_map_or}
use Rattle.std.proofs.lemmas.Bool.{cases_eq, eq-eqb, ne_eqb}
use Rattle.std.proofs.lemmas.List.{append-nil, get_or-set_same, get_or-set_other, get_or_default, length-set, same_lists}
use Rattle.std.proofs.lemmas.List.FromFn.{get_or-map-range_with_len, length-map-range_with_len}
use Rattle.std.proofs.lemmas.Option.{unwrap_or-slice_get}
use Rattle.model.specs.Base.{Base, MemberRow, members, known_by, last_change}
use Rattle.model.specs.Change.{Change}
use Rattle.model.specs.Held.{held_behind, row_behind}
use Rattle.model.specs.Ledger.{add}
use Rattle.op_grammar.specs.Changes.{head_of}
use Rattle.arrival_laws.proofs.AddLaws.{order_from, is_last, last_added, last_other, last_or-append, filter-append}
use Rattle.stability.specs.Laws.{HeadsMakeRows, NextMakesRow, AddedMakesRow}
use Rattle.stability.specs.Rows.{row_by, rows_in, taken}

-- ---- rows by members

-- of rows that are the same but for one member's
set_row : (n : ℕ) (before after : ℕ → MemberRow) (i : ℕ) (r : MemberRow) → after i ≡ r → ((m : ℕ) → m ≢ i → after m ≡ before m) → map after (members n) ≡ set (map before (members n)) i r
set_row n before after i r one others =
    let long : length (map after (members n)) ≡ n = length-map-range_with_len after 0 n in
    let was : length (map before (members n)) ≡ n = length-map-range_with_len before 0 n in
    same_lists (map after (members n)) (set (map before (members n)) i r) (long ∙ sym was ∙ sym (length-set (map before (members n)) i r))
    (λ k d lt.
    let within : k < n = omega (arith, long) in
    get_or-map-range_with_len after 0 n k k d within (omega arith)
    ∙ elim (cases_eq k i) [
      | inl e ↦
          let there : i < length (map before (members n)) = omega (arith, was) in
          ap after e ∙ one ∙ sym (ap (λ j. get_or (set (map before (members n)) i r) j d) e ∙ get_or-set_same (map before (members n)) i r d there)
      | inr ne ↦ others k ne ∙ sym (get_or-set_other (map before (members n)) i k r d ne ∙ get_or-map-range_with_len before 0 n k k d within (omega arith))
    ])

-- the row that a member's last change makes of the base's
abbrev behind : Base → ℕ → Option Change → MemberRow
behind b m o =
    option_map_or (λ c. record { count = c.number; last = c.time; known = known_by c }) o (unwrap_or (slice_get b.rows m) (record { count = 0; last = 0; known = [] }))

-- where the change is its member's last, and the others have the last that they had
row_more : (n : ℕ) (b : Base) (kept more : List Change) (c : Change) → last_change more c.member ≡ Some c → ((m : ℕ) → m ≢ c.member → last_change more m ≡ last_change kept m)
    → rows_in n (held_behind b more) ≡ taken (rows_in n (held_behind b kept)) (head_of c)
row_more n b kept more c last others =
    set_row n (row_behind b kept) (row_behind b more) c.member (row_by (head_of c)) (ap (behind b c.member) last) (λ m ne. ap (behind b m) (others m ne))

-- ---- behind the kept ones

last_pushed : (kept : List Change) (c : Change) → last_change (kept ++ c ∷ []) c.member ≡ Some c
last_pushed kept c =
    let own : eqb c.member c.member ≡ true = eq-eqb c.member c.member refl in
    ap (last_or None) (filter-append (λ d. eqb d.member c.member) kept (c ∷ []))
    ∙ last_or-append None (filter (λ d. eqb d.member c.member) kept) (filter (λ d. eqb d.member c.member) (c ∷ [])) ∙ rw own refl

last_apart : (kept : List Change) (c : Change) (m : ℕ) → m ≢ c.member → last_change (kept ++ c ∷ []) m ≡ last_change kept m
last_apart kept c m other =
    let own : eqb c.member m ≡ false = ne_eqb c.member m (λ e. other (sym e)) in
    ap (last_or None) (filter-append (λ d. eqb d.member m) kept (c ∷ []))
    ∙ last_or-append None (filter (λ d. eqb d.member m) kept) (filter (λ d. eqb d.member m) (c ∷ [])) ∙ rw own refl

pub next_makes_row : NextMakesRow
next_makes_row n b kept c = row_more n b kept (kept ++ c ∷ []) c (last_pushed kept c) (last_apart kept c)

-- ---- in its place among them

-- a time past that of a row is past that of the last change that is kept
later_than_last : (b : Base) (m : ℕ) (o : Option Change) (t : ℕ) → (behind b m o).last < t → option_map_or (λ c. c.time) o 0 < t
later_than_last b m None t late = omega arith
later_than_last b m (Some c) t late = late

pub added_makes_row : AddedMakesRow
added_makes_row n b kept c order late =
    let r = order_from kept order in
    let last = is_last kept c r (later_than_last b c.member (last_change kept c.member) c.time late) in
    row_more n b kept (add kept c) c (last_added kept c last) (λ m ne. last_other kept c m r last ne)

-- ---- all in turn

taken_behind : (n : ℕ) (b : Base) (before kept : List Change) → fold taken (rows_in n (held_behind b before)) (map head_of kept) ≡ rows_in n (held_behind b (before ++ kept))
taken_behind n b before [] = ap (λ cs. rows_in n (held_behind b cs)) (sym (append-nil before))
taken_behind n b before (c ∷ kept) =
    ap (λ rows. fold taken rows (map head_of kept)) (sym (next_makes_row n b before c)) ∙ taken_behind n b (before ++ c ∷ []) kept
    ∙ ap (λ cs. rows_in n (held_behind b cs)) (append_assoc before (c ∷ []) kept)

-- with no change kept the rows are those of the base
rows_of_base : (b : Base) → rows_in (length b.rows) (held_behind b []) ≡ b.rows
rows_of_base b =
    let none : MemberRow = record { count = 0; last = 0; known = [] } in
    let long = length-map-range_with_len (row_behind b []) 0 (length b.rows) in
    same_lists (rows_in (length b.rows) (held_behind b [])) b.rows long
    (λ k d lt.
    let within : k < length b.rows = omega (arith, long) in
    get_or-map-range_with_len (row_behind b []) 0 (length b.rows) k k d within (omega arith) ∙ unwrap_or-slice_get b.rows k none ∙ get_or_default b.rows k none d within)

pub heads_make_rows : HeadsMakeRows
heads_make_rows b kept = ap (λ rows. fold taken rows (map head_of kept)) (sym (rows_of_base b)) ∙ taken_behind (length b.rows) b [] kept
