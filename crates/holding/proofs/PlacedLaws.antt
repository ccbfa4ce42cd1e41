-- A change that is put in its place: the rows, the numbers and the times.
use Rattle.std.proofs.Common.{◌≡◌, ℕ, ◌+◌, ◌<◌, ◌≤◌, true, false, cond, eqb, ◌&&◌, Bool, List, [], ◌∷◌, ◌++◌, Option, Some, None, refl, sym, ap, ◌∙◌, arith, inl, inr}
use Rattle.std.specs.Prelude.{find, length, slice_get, slice_index_or, slice_set, unwrap_or}
use Rattle.std.specs.List.{AllByRecursion}
use Rattle.std.specs.Option.{option_map_or}
use Rattle.std.proofs.lemmas.List.{get_or-set_other, get_or-set_same}
use Rattle.std.proofs.lemmas.Bool.{cases_eq, eq-eqb, eqb-true, ne_eqb}
use Rattle.model.specs.Base.{Base, MemberRow, known_by, last_change, time_of}
use Rattle.model.specs.Change.{Change, Name, AreInTimeOrder, has_name, is_before}
use Rattle.model.specs.Held.{row_behind}
use Rattle.model.specs.Ledger.{add}
use Rattle.model_laws.proofs.ListLaws.{all_append, all_more}
use Rattle.model_laws.proofs.Tables.{both_true}
use Rattle.arrival_laws.proofs.AddLaws.{IsLast, all_kept, all_pass, earlier, in_two, is_last, last_added, last_other, later, order_from, to_order}
use Rattle.arrival_laws.proofs.SoundLaws.{find_skips, not_named, order_kept, rises_between}
use Rattle.holding.specs.Times.{time_at}
use Rattle.holding.proofs.TimesLaws.{one_more_time}

-- the row that a member's last change makes of the base's
abbrev behind : Base → ℕ → Option Change → MemberRow
behind b m o =
    option_map_or (λ c. record { count = c.number; last = c.time; known = known_by c }) o (unwrap_or (slice_get b.rows m) (record { count = 0; last = 0; known = [] }))

later_than_last : (b : Base) (m : ℕ) (o : Option Change) (t : ℕ) → (behind b m o).last < t → option_map_or (λ c. c.time) o 0 < t
later_than_last b m None t late = omega arith
later_than_last b m (Some c) t late = late

-- A change that may come next behind these, which are in order and have no greater number than their members' rows.
pub record ComesNext (b : Base) (kept : List Change) (c : Change) : Type 0 where
  pub in_order : AreInTimeOrder kept
  pub counted : AllByRecursion (λ d. d.number ≤ (row_behind b kept d.member).count) kept
  pub next : c.number ≡ (row_behind b kept c.member).count + 1
  pub later : (row_behind b kept c.member).last < c.time

pub later_is_last : (b : Base) (kept : List Change) (c : Change) → AreInTimeOrder kept → (row_behind b kept c.member).last < c.time → IsLast kept c
later_is_last b kept c in_order later = is_last kept c (order_from kept in_order) (later_than_last b c.member (last_change kept c.member) c.time later)

pub is_latest : (b : Base) (kept : List Change) (c : Change) → ComesNext b kept c → IsLast kept c
is_latest b kept c comes = later_is_last b kept c comes.in_order comes.later

-- With it in its place they are in order.
pub added_in_order : (b : Base) (kept : List Change) (c : Change) → ComesNext b kept c → AreInTimeOrder (add kept c)
added_in_order b kept c comes =
    let order = order_from kept comes.in_order in
    to_order (add kept c)
    (rises_between c (earlier c kept) (later c kept) (order_kept (λ d. is_before d c) kept order) (all_pass (λ d. is_before d c) kept) (order_kept (λ d. is_before c d) kept order) (all_pass (λ d. is_before c d) kept))

-- ---- numbers

count_added : (b : Base) (kept : List Change) (c d : Change) → ComesNext b kept c → d.number ≤ (row_behind b kept d.member).count → d.number ≤ (row_behind b (add kept c) d.member).count
count_added b kept c d comes most =
    let last = is_latest b kept c comes in
    elim (cases_eq d.member c.member) [
      | inl same ↦
          let now : (row_behind b (add kept c) d.member).count ≡ c.number = ap (λ m. (row_behind b (add kept c) m).count) same ∙ ap (λ o. (behind b c.member o).count) (last_added kept c last) in
          let was = ap (λ m. (row_behind b kept m).count) same in
          omega (arith, now, was, most, comes.next)
      | inr other ↦
          let now = ap (λ o. (behind b d.member o).count) (last_other kept c d.member (order_from kept comes.in_order) last other) in
          omega (arith, now, most)
    ]

-- It has the number of its member's row now, and no other has a greater one than its own.
pub added_counted : (b : Base) (kept : List Change) (c : Change) → ComesNext b kept c → AllByRecursion (λ d. d.number ≤ (row_behind b (add kept c) d.member).count) (add kept c)
added_counted b kept c comes =
    let P = λ (d : Change). d.number ≤ (row_behind b (add kept c) d.member).count in
    let all = all_more (λ (d : Change). d.number ≤ (row_behind b kept d.member).count) P (λ d most. count_added b kept c d comes most) kept comes.counted in
    let own : (row_behind b (add kept c) c.member).count ≡ c.number = ap (λ o. (behind b c.member o).count) (last_added kept c (is_latest b kept c comes)) in
    all_append P (earlier c kept) (c ∷ later c kept) (all_kept P (λ d. is_before d c) kept all) (omega (arith, own), all_kept P (λ d. is_before c d) kept all)

-- ---- names

-- no other has its name
none_named : (b : Base) (kept : List Change) (c : Change) (name : Name) → ComesNext b kept c → has_name name c ≡ true → AllByRecursion (λ d. has_name name d ≡ false) kept
none_named b kept c name comes is =
    let both = both_true (eqb c.member name.member) (eqb c.number name.number) is in
    let member = eqb-true c.member name.member both.0 in
    let number = eqb-true c.number name.number both.1 in
    all_more (λ (d : Change). d.number ≤ (row_behind b kept d.member).count) (λ d. has_name name d ≡ false)
    (λ d most. not_named d name.member name.number (λ same e. (let row = ap (λ m. (row_behind b kept m).count) (same ∙ sym member) in omega (arith, row, number, e, most, comes.next))))
    kept comes.counted

-- ---- times

find_without : {A : Type 0} (p : A → Bool) (xs ys : List A) (x : A) → p x ≡ false → find p (xs ++ x ∷ ys) ≡ find p (xs ++ ys)
find_without p [] ys x n = rw n refl
find_without p (a ∷ xs) ys x n = elim (p a) as (λ b. cond b (Some a) (find p (xs ++ x ∷ ys)) ≡ cond b (Some a) (find p (xs ++ ys))) [ true ↦ refl | false ↦ find_without p xs ys x n ]

-- A change in its place has its time, and every other the time that it had.
pub time_added : (b : Base) (kept : List Change) (c : Change) (name : Name) → ComesNext b kept c → time_of (add kept c) name ≡ cond (has_name name c) c.time (time_of kept name)
time_added b kept c name comes =
    elim (has_name name c) as (λ t. has_name name c ≡ t → time_of (add kept c) name ≡ cond t c.time (time_of kept name)) [
      | true ↦ λ is.
          let skips = find_skips (has_name name) (earlier c kept) (c ∷ later c kept) (all_kept (λ d. has_name name d ≡ false) (λ d. is_before d c) kept (none_named b kept c name comes is)) in
          ap (λ o. option_map_or (λ (d : Change). d.time) o 0) (skips ∙ ap (λ t. cond t (Some c) (find (has_name name) (later c kept))) is)
      | false ↦ λ is.
          let two = in_two c kept (order_from kept comes.in_order) (is_latest b kept c comes) in
          ap (λ o. option_map_or (λ (d : Change). d.time) o 0) (find_without (has_name name) (earlier c kept) (later c kept) c is ∙ ap (find (has_name name)) (sym two))
    ] refl

-- so do the lists of times, with its own behind those of its member
pub times_added : (n : ℕ) (b : Base) (kept : List Change) (c : Change) (times : List (List ℕ)) → ComesNext b kept c → c.member < n → length times ≡ n
    → ((name : Name) → name.member < n → time_at (slice_index_or times name.member []) (row_behind b kept name.member).count name.number ≡ time_of kept name)
    → (name : Name) → name.member < n
    → time_at (slice_index_or (slice_set times c.member (slice_index_or times c.member [] ++ c.time ∷ [])) name.member []) (row_behind b (add kept c) name.member).count name.number ≡ time_of (add kept c) name
times_added n b kept c times comes is long were name within =
    let own = slice_index_or times c.member [] in
    let more = own ++ c.time ∷ [] in
    let last = is_latest b kept c comes in
    let count = (row_behind b kept name.member).count in
    elim (cases_eq name.member c.member) [
      | inl same ↦
          let list : slice_index_or (slice_set times c.member more) name.member [] ≡ more = ap (λ m. slice_index_or (slice_set times c.member more) m []) same ∙ get_or-set_same times c.member more [] (omega (arith, is, long)) in
          let up : c.number ≡ count + 1 = comes.next ∙ ap (λ m. (row_behind b kept m).count + 1) (sym same) in
          let now : (row_behind b (add kept c) name.member).count ≡ count + 1 = ap (λ m. (row_behind b (add kept c) m).count) same ∙ ap (λ o. (behind b c.member o).count) (last_added kept c last) ∙ up in
          let yes : eqb c.member name.member ≡ true = eq-eqb c.member name.member (sym same) in
          let named : has_name name c ≡ eqb (count + 1) name.number = ap (λ t. t && eqb c.number name.number) yes ∙ ap (λ q. eqb q name.number) up in
          let was : time_at own count name.number ≡ time_of kept name = ap (λ m. time_at (slice_index_or times m []) count name.number) (sym same) ∙ were name within in
          (λ i. time_at (list i) (now i) name.number) ∙ one_more_time own c.time count name.number ∙ (λ i. cond (sym named i) c.time (was i)) ∙ sym (time_added b kept c name comes)
      | inr other ↦
          let list : slice_index_or (slice_set times c.member more) name.member [] ≡ slice_index_or times name.member [] = get_or-set_other times c.member name.member more [] other in
          let now : (row_behind b (add kept c) name.member).count ≡ count = ap (λ o. (behind b name.member o).count) (last_other kept c name.member (order_from kept comes.in_order) last other) in
          let no : eqb c.member name.member ≡ false = ne_eqb c.member name.member (λ e. other (sym e)) in
          let none : has_name name c ≡ false = ap (λ t. t && eqb c.number name.number) no in
          (λ i. time_at (list i) (now i) name.number) ∙ were name within ∙ sym (time_added b kept c name comes ∙ ap (λ t. cond t c.time (time_of kept name)) none)
    ]
