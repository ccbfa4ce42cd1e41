-- What the next change of a member says, told by the counts and the last time of the changes that a file keeps.
use Rattle.std.proofs.Common.{◌≡◌, ℕ, ◌+◌, ◌-◌, ◌^◌, ◌<◌, ◌≤◌, Bool, true, false, cond, eqb, ltb, ◌&&◌, zero, suc, zero-add, List, [], ◌∷◌, length, map, Option, None, Some, Result, Ok, Err, refl, sym, ap, subst, ◌∙◌, arith}
use Rattle.std.specs.Prelude.{IsTrue, MatchOption, filter, fold, max, slice_get, slice_index, unwrap_or}
use Rattle.std.specs.List.{AllByRecursion, last_or}
use Rattle.std.specs.Option.{IfSome, option_map_or}
use Rattle.std.specs.Ordering.{is_lt}
use Rattle.std.proofs.lemmas.Bool.{eq-eqb, ltb-true}
use Rattle.std.proofs.lemmas.List.FromFn.{get_or-map-range_with_len, length-map-range_with_len}
use Rattle.std.proofs.lemmas.Option.{slice_get-get_or}
use Rattle.op_ids.specs.Order.{stamp_cmp}
use Rattle.op_ids.proofs.OrderLaws.{less_from_is_lt}
use Rattle.model.specs.Base.{MemberRow, base_of, known_by, last_change, member_row, members}
use Rattle.model.specs.Change.{Change, IsChange, change_stamp, is_before}
use Rattle.model.specs.Command.{Unmade, clock_full, clocked}
use Rattle.model.specs.File.{IsLater}
use Rattle.model.specs.Held.{held_behind, row_behind}
use Rattle.model.specs.Ledger.{greatest_time}
use Rattle.model.specs.Operation.{Operation}
use Rattle.model_laws.proofs.ChangeLaws.{stamp_less, stamp_times}
use Rattle.model_laws.proofs.ListLaws.{all_from_map, all_map, all_more, all_of_any, fold_max_each, last_passing}
use Rattle.model_laws.proofs.Tables.{both_true}
use Rattle.arrival_laws.proofs.AddLaws.{InOrder}
use Rattle.arrival_laws.proofs.StableLaws.{of_member}
use Rattle.ledger_laws.proofs.MadeLaws.{same_Ok}
use Rattle.keeping_laws.proofs.EditForms.{ArePlanned}
use Rattle.replica.specs.Counts.{count_behind, counts_behind, time_of_last}
use Rattle.member_replica.specs.Makings.{clocked_by, next_by}

-- ---- the rows behind the empty base

-- the row of a member whose last change is this
abbrev row_of : ℕ → ℕ → Option Change → MemberRow
row_of n m o =
    option_map_or (λ c. record { count = c.number; last = c.time; known = known_by c }) o
    (unwrap_or (slice_get (base_of n [] 0).rows m) (record { count = 0; last = 0; known = [] }))

-- nothing is counted of a member who made no change
empty_row : (n : ℕ) (z : MemberRow) → z.count ≡ 0 → z.last ≡ 0 → (ms : List ℕ) (m : ℕ) → ((unwrap_or (slice_get (map (member_row n []) ms) m) z).count ≡ 0) × ((unwrap_or (slice_get (map (member_row n []) ms) m) z).last ≡ 0)
empty_row n z count last [] m = (count, last)
empty_row n z count last (k ∷ ms) zero = (refl, refl)
empty_row n z count last (k ∷ ms) (suc m) = empty_row n z count last ms m

row_none : (n m : ℕ) → ((row_of n m None).count ≡ 0) × ((row_of n m None).last ≡ 0)
row_none n m = empty_row n (record { count = 0; last = 0; known = [] }) refl refl (members n) m

row_last : (n m most : ℕ) (o : Option Change) → IfSome o (λ c. c.time ≤ most) → (row_of n m o).last ≤ most
row_last n m most None h = omega (arith, (row_none n m).1)
row_last n m most (Some c) h = h

row_count : (n m most : ℕ) (o : Option Change) → IfSome o (λ c. c.number ≤ most) → (row_of n m o).count ≤ most
row_count n m most None h = omega (arith, (row_none n m).0)
row_count n m most (Some c) h = h

-- what holds of each holds of a member's last
of_last : (P : Change → Type 0) (kept : List Change) (m : ℕ) → AllByRecursion P kept → IfSome (last_change kept m) P
of_last P kept m each = last_passing P (λ d. eqb d.member m) None kept tt (all_more P (λ d. eqb d.member m ≡ true → P d) (λ d h passes. h) kept each)

-- ---- the greatest time

latest : (h : List Change) (d : Change) → InOrder (d ∷ h) → AllByRecursion (λ c. c.time ≤ time_of_last (d ∷ h)) (d ∷ h)
latest [] d r = (omega arith, tt)
latest (e ∷ h) d r =
    let rest = latest h e r.1 in
    let first : d.time ≤ e.time = stamp_times (change_stamp d) (change_stamp e) (less_from_is_lt (stamp_cmp (change_stamp d) (change_stamp e)) r.0.0) in
    let next : e.time ≤ time_of_last (e ∷ h) = rest.0 in
    (omega arith, rest)

-- no change is later than the last
all_by_last : (h : List Change) → InOrder h → AllByRecursion (λ c. c.time ≤ time_of_last h) h
all_by_last [] r = tt
all_by_last (d ∷ h) r = latest h d r

fold_most : (most a : ℕ) (ns : List ℕ) → a ≤ most → AllByRecursion (λ n. n ≤ most) ns → fold max a ns ≤ most
fold_most most a [] le each = le
fold_most most a (n ∷ ns) le each = let first : n ≤ most = each.0 in fold_most most (max a n) ns (omega arith) each.1

-- the last of all is the last of those that pass, if it passes
last_filtered : (p : Change → Bool) (c : Change) → p c ≡ true → (o passing : Option Change) (xs : List Change) → (o ≡ Some c → passing ≡ Some c) → last_or o xs ≡ Some c → last_or passing (filter p xs) ≡ Some c
last_filtered p c passes o passing [] first is = first is
last_filtered p c passes o passing (x ∷ xs) first is =
    elim (p x) as (λ b. p x ≡ b → last_or passing (cond b (x ∷ filter p xs) (filter p xs)) ≡ Some c) [
      | true ↦ λ _. last_filtered p c passes (Some x) (Some x) xs (λ e. e) is
      | false ↦ λ fails. last_filtered p c passes (Some x) passing xs (λ e. (let same : x ≡ c = cc in let bad : true ≡ false = sym passes ∙ ap p (sym same) ∙ fails in absurd cc)) is
    ] refl

of_whole_last : (P : Change → Type 0) (o : Option Change) (xs : List Change) → IfSome o P → AllByRecursion P xs → IfSome (last_or o xs) P
of_whole_last P o [] first each = first
of_whole_last P o (x ∷ xs) first each = of_whole_last P (Some x) xs each.0 each.1

-- Behind the empty base the greatest time is that of the last change.
pub greatest_is_last : (n : ℕ) (kept : List Change) → InOrder kept → AllByRecursion (λ c. c.member < n) kept → greatest_time n (held_behind (base_of n [] 0) kept) ≡ time_of_last kept
greatest_is_last n kept in_order below =
    let t : ℕ = time_of_last kept in
    let last : ℕ → ℕ = λ k. (row_behind (base_of n [] 0) kept k).last in
    let greatest : ℕ = fold max 0 (map last (members n)) in
    let each = all_by_last kept in_order in
    let most : (k : ℕ) → last k ≤ t = λ k. row_last n k t (last_change kept k) (of_last (λ d. d.time ≤ t) kept k each) in
    let upper : greatest ≤ t = fold_most t 0 (map last (members n)) (omega arith) (all_map (λ x. x ≤ t) last (members n) (all_of_any (λ k. last k ≤ t) most (members n))) in
    let lower : t ≤ greatest =
    elim (last_or None kept) as (λ o. last_or None kept ≡ o → IfSome o (λ c. c.member < n) → option_map_or (λ c. c.time) o 0 ≤ greatest) [
      | None ↦ λ _ _. omega arith
      | Some c ↦ λ is lt.
          let own : last_change kept c.member ≡ Some c = last_filtered (λ d. eqb d.member c.member) c (eq-eqb c.member c.member refl) None None kept (λ e. e) is in
          let row : last c.member ≡ c.time = ap (λ (o : Option Change). (row_of n c.member o).last) own in
          let le : last c.member ≤ greatest = of_member (λ k. last k ≤ greatest) n c.member (all_from_map (λ x. x ≤ greatest) last (members n) (fold_max_each 0 (map last (members n)))) lt in
          omega arith
    ] refl (of_whole_last (λ c. c.member < n) None kept tt below) in
    omega arith

-- ---- the counts

pub own_count : (n : ℕ) (kept : List Change) (m : ℕ) → m < n → slice_index (counts_behind n kept) m ≡ (row_behind (base_of n [] 0) kept m).count
own_count n kept m lt = get_or-map-range_with_len (count_behind n kept) 0 n m m 0 lt (zero-add m)

pub counts_each : (n : ℕ) (kept : List Change) → length (counts_behind n kept) ≡ n
counts_each n kept = length-map-range_with_len (count_behind n kept) 0 n

pub counts_few : (n : ℕ) (kept : List Change) → AllByRecursion (IsChange n) kept → AllByRecursion (λ k. k < 2 ^ 32) (counts_behind n kept)
counts_few n kept are =
    all_map (λ k. k < 2 ^ 32) (count_behind n kept) (members n)
    (all_of_any (λ m. count_behind n kept m < 2 ^ 32)
    (λ m.
    let few = row_count n m (2 ^ 32 - 1) (last_change kept m) (of_last (λ d. d.number ≤ 2 ^ 32 - 1) kept m (all_more (IsChange n) (λ d. d.number ≤ 2 ^ 32 - 1) (λ d is. omega (arith, is.number_most)) kept are)) in
    let same : count_behind n kept m ≡ (row_of n m (last_change kept m)).count = refl in
    omega arith)
    (members n))

-- ---- the clock

-- the change of these times and counts, unless it would pass its end
abbrev clock : ℕ → List ℕ → ℕ → List Operation → ℕ → Result Change Unmade
clock t counts m os k =
    let c : Change = record { member = m; number = k + 1; time = t + 1; causes = counts; operations = os } in
    cond (ltb (t + 1) (2 ^ 48) && ltb (k + 1) (2 ^ 32)) (Ok c) (Err (clock_full t m k))

-- What a member makes who holds the kept changes.
pub clocked_is : (n : ℕ) (kept : List Change) (m : ℕ) (os : List Operation) → InOrder kept → AllByRecursion (λ c. c.member < n) kept → m < n
    → clocked n (held_behind (base_of n [] 0) kept) m os ≡ clocked_by (time_of_last kept) (counts_behind n kept) m os
clocked_is n kept m os in_order below lt =
    let time = greatest_is_last n kept in_order below in
    let count = own_count n kept m lt in
    λ i. clock (time i) (counts_behind n kept) m os (sym count i)

-- what the clock lets pass
pub record InTime (t : ℕ) (counts : List ℕ) (m : ℕ) (os : List Operation) (c : Change) : Type 0 where
  pub is : next_by t counts m os ≡ c
  pub time : t + 1 < 2 ^ 48
  pub number : slice_index counts m + 1 < 2 ^ 32

pub in_time : (t : ℕ) (counts : List ℕ) (m : ℕ) (os : List Operation) (c : Change) → clocked_by t counts m os ≡ Ok c → InTime t counts m os c
in_time t counts m os c e =
    let k = slice_index counts m in
    let test = ltb (t + 1) (2 ^ 48) && ltb (k + 1) (2 ^ 32) in
    elim test as (λ b. test ≡ b → cond b (Ok (next_by t counts m os)) (Err (clock_full t m k)) ≡ Ok c → InTime t counts m os c) [
      | true ↦ λ s f. (let b = both_true (ltb (t + 1) (2 ^ 48)) (ltb (k + 1) (2 ^ 32)) s in record { is = same_Ok (next_by t counts m os) c f; time = ltb-true _ _ b.0; number = ltb-true _ _ b.1 })
      | false ↦ λ _ f. absurd cc
    ] refl e

-- Of planned operations it is a change.
pub next_is_change : (n t : ℕ) (counts : List ℕ) (m : ℕ) (os : List Operation) (c : Change) → m < n → length counts ≡ n → AllByRecursion (λ k. k < 2 ^ 32) counts → ArePlanned n os → clocked_by t counts m os ≡ Ok c → IsChange n c
next_is_change n t counts m os c lt each few planned e =
    let passed = in_time t counts m os c e in
    subst (IsChange n) passed.is
    (record {
      member = lt;
      number_some = omega arith;
      number_most = passed.number;
      time_some = omega arith;
      time_most = passed.time;
      causes_each = each;
      causes_most = few;
      causes_own = (slice_index counts m, slice_get-get_or counts m 0 (omega arith), refl);
      body_most = planned.body;
      operations = planned.each;
      width_most = planned.width;
    })

pub nothing_planned : (n : ℕ) → ArePlanned n []
nothing_planned n = record { each = tt; width = omega arith; body = omega arith }

-- ---- its place

-- A change that is later than the last comes after it.
pub later_than : (kept : List Change) (c : Change) → time_of_last kept < c.time → IsLater kept c
later_than kept c lt =
    elim (last_or None kept) as (λ o. option_map_or (λ d. d.time) o 0 < c.time → MatchOption o (Unit {0}) (λ d. IsTrue (is_before d c))) [
      | None ↦ λ _. tt
      | Some d ↦ λ later. ap is_lt (stamp_less (change_stamp d) (change_stamp c) later)
    ] lt
