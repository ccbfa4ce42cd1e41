-- The two readings of what is held agree.
use Rattle.std.proofs.Common.{◌≡◌, ℕ, zero, suc, ◌+◌, ◌-◌, ◌<◌, ◌≤◌, ◌⊎◌, ◌&&◌, ◌||◌, true, false, cond, eqb, ltb, leb, not, Bool, List, [], ◌∷◌, ◌++◌, map, refl, sym, ap, subst, ◌∙◌, arith, inl, inr}
use Rattle.std.specs.Prelude.{Option, Some, None, find, slice_get, slice_index, filter_map, replicate, unwrap_or, IfSome}
use Rattle.std.specs.List.{AllByRecursion, list_all, last_or, range_with_len, cons_option}
use Rattle.std.specs.Option.{option_map_or}
use Rattle.std.proofs.lemmas.Bool.{cases_lt, cases_eq, eq-eqb, ne_eqb, lt-ltb, le-ltb, leb-true}
use Rattle.std.proofs.lemmas.Option.{same_Some}
use Rattle.std.proofs.lemmas.List.{append_assoc, append-nil}
use Rattle.model.specs.Base.{Base, MemberRow, members, count_of, last_change, last_of, known_by, time_of, member_row, rows_of_changes, base_of, up_to, past}
use Rattle.model.specs.Change.{Change, has_name, EachAfter}
use Rattle.model.specs.Held.{Held, held, held_behind, row_behind, is_missing, is_ready, Misfit, not_later, before_cause, late_time, forgotten, late_cause, wrong_references, misfits, fits}
use Rattle.model.specs.Held as misfit
use Rattle.model.specs.Ledger.{Joins}
use Rattle.model.specs.Stability.{horizon_of}
use Rattle.model.specs.State.{replay, after, atoms, by_ids}
use Rattle.arrival_laws.specs.Reading.{ReadAlike, BothReadingsAgree}
use Rattle.model_laws.proofs.ListLaws.{all_front, all_more, all_of_any}
use Rattle.model_laws.proofs.ChangeLaws.{EachAfter-front, count_of-append, members_below}
use Rattle.model_laws.proofs.TrimLaws.{up_to-append-past, replay-append}
use Rattle.arrival_laws.proofs.AddLaws.{own, filter-append, last_or-append, all_pass}
use Rattle.arrival_laws.proofs.StableLaws.{of_member, horizon_members}
use Rattle.arrival_laws.proofs.SoundLaws.{Numbered, each_more, joins_numbered, numbers_most, found, not_named, find_skips, find_first, name, is_one, is_none, count_one, back_of}

-- ---- a member's last change and its number

-- the last of numbered changes has the count as its number
pub last_number : (before xs : List Change) (m : ℕ) (o : Option Change) → EachAfter Numbered before xs → IfSome o (λ d. d.number ≡ count_of before m) → IfSome (last_or o (own m xs)) (λ d. d.number ≡ count_of (before ++ xs) m)
last_number before [] m o e h = subst (λ l. IfSome o (λ d. d.number ≡ count_of l m)) (sym (append-nil before)) h
last_number before (x ∷ xs) m o e h =
    elim (cases_eq x.member m) as (λ _. IfSome (last_or o (own m (x ∷ xs))) (λ d. d.number ≡ count_of (before ++ x ∷ xs) m)) [
      | inl same ↦
          let t : eqb x.member m ≡ true = eq-eqb x.member m same in
          let number : x.number ≡ count_of (before ++ x ∷ []) m = e.0 ∙ ap (λ k. count_of before k + 1) same ∙ (let c = count_one before x m in let one = is_one x m same in omega arith) in
          let rest = last_number (before ++ x ∷ []) xs m (Some x) e.1 number in
          let is : last_or o (own m (x ∷ xs)) ≡ last_or (Some x) (own m xs) = rw t refl in
          subst (λ l. IfSome l (λ d. d.number ≡ count_of (before ++ x ∷ xs) m)) (sym is) (subst (λ l. IfSome (last_or (Some x) (own m xs)) (λ d. d.number ≡ count_of l m)) (append_assoc before (x ∷ []) xs) rest)
      | inr other ↦
          let t : eqb x.member m ≡ false = ne_eqb x.member m other in
          let count : count_of (before ++ x ∷ []) m ≡ count_of before m = (let c = count_one before x m in let none = is_none x m other in omega arith) in
          let h' : IfSome o (λ d. d.number ≡ count_of (before ++ x ∷ []) m) = subst (λ k. IfSome o (λ d. d.number ≡ k)) (sym count) h in
          let rest = last_number (before ++ x ∷ []) xs m o e.1 h' in
          let is : last_or o (own m (x ∷ xs)) ≡ last_or o (own m xs) = rw t refl in
          subst (λ l. IfSome l (λ d. d.number ≡ count_of (before ++ x ∷ xs) m)) (sym is) (subst (λ l. IfSome (last_or o (own m xs)) (λ d. d.number ≡ count_of l m)) (append_assoc before (x ∷ []) xs) rest)
    ]

-- the row of a member whose last change this is
abbrev row_by : Change → MemberRow
row_by c = record { count = c.number; last = c.time; known = known_by c }

-- a last change of a list is one whatever stood before, or there is none
last_either : {A : Type 0} (o : Option A) (xs : List A) → ((x : A) × (last_or None xs ≡ Some x) × (last_or o xs ≡ Some x)) ⊎ ((last_or None xs ≡ None) × (last_or o xs ≡ o))
last_either o [] = inr (refl, refl)
last_either {A} o (x ∷ xs) =
    elim (last_either (Some x) xs) as (λ _. ((y : A) × (last_or (Some x) xs ≡ Some y) × (last_or (Some x) xs ≡ Some y)) ⊎ ((last_or (Some x) xs ≡ None) × (last_or (Some x) xs ≡ o))) [
      | inl h ↦ inl (h.0, h.2, h.2)
      | inr h ↦ inl (x, h.1, h.1)
    ]

-- ---- rows by members

pub row_at : (f : ℕ → MemberRow) (a n m : ℕ) → a ≤ m → m < a + n → slice_get (map f (range_with_len a n)) (m - a) ≡ Some (f m)
row_at f a zero m l k = absurd (omega arith)
row_at f a (suc n) m l k =
    elim (cases_eq a m) as (λ _. slice_get (f a ∷ map f (range_with_len (a + 1) n)) (m - a) ≡ Some (f m)) [
      | inl e ↦ (let z : m - a ≡ 0 = omega arith in rw z (ap (λ j. Some (f j)) e))
      | inr ne ↦ (let s : m - a ≡ suc (m - (a + 1)) = omega arith in rw s (row_at f (a + 1) n m (omega arith) (omega arith)))
    ]

-- no number behind is at most the count
numbers_least : (k : ℕ) (before xs : List Change) → EachAfter Numbered before xs → AllByRecursion (λ x. x.member ≡ k → count_of before k < x.number) xs
numbers_least k before [] e = tt
numbers_least k before (x ∷ xs) e =
    let first : x.member ≡ k → count_of before k < x.number = λ same. (let number : x.number ≡ count_of before k + 1 = e.0 ∙ ap (λ m. count_of before m + 1) same in omega arith) in
    let more : count_of before k ≤ count_of (before ++ x ∷ []) k = (let c = count_one before x k in omega arith) in
    (first, all_more (λ y. y.member ≡ k → count_of (before ++ x ∷ []) k < y.number) (λ y. y.member ≡ k → count_of before k < y.number) (λ y f same. let g = f same in omega arith) xs (numbers_least k (before ++ x ∷ []) xs e.1))

-- ---- a ledger in two parts

pub record Halves (n : ℕ) (early kept : List Change) (T : ℕ) : Type 0 where
  pub each : EachAfter (Joins n) [] (early ++ kept)
  pub by_then : AllByRecursion (λ d. d.time ≤ T) early

module _ (n : ℕ) (early kept : List Change) (T : ℕ) (p : Halves n early kept T) where
  abbrev pub b : Base
  b = record { horizon = T; rows = rows_of_changes n early; state = replay early }

  numbered : EachAfter Numbered [] (early ++ kept)
  numbered = each_more (Joins n) Numbered (joins_numbered n) [] (early ++ kept) p.each

  last_in : (m : ℕ) → last_change (early ++ kept) m ≡ last_or (last_change early m) (own m kept)
  last_in m = ap (last_or None) (filter-append (λ d. eqb d.member m) early kept) ∙ last_or-append None (own m early) (own m kept)

  none_counted : (ys : List Change) (m : ℕ) → own m ys ≡ [] → count_of ys m ≡ 0
  none_counted [] m e = refl
  none_counted (y ∷ ys) m e =
      elim (cases_eq y.member m) as (λ _. count_of (y ∷ ys) m ≡ 0) [
        | inl same ↦ (let t : eqb y.member m ≡ true = eq-eqb y.member m same in let bad : y ∷ own m ys ≡ [] = rw t at e in absurd cc)
        | inr ne ↦
            let t : eqb y.member m ≡ false = ne_eqb y.member m ne in
            let e' : own m ys ≡ [] = rw t at e in
            let first = is_none y m ne in
            omega (arith, count_one [] y m, count_of-append (y ∷ []) ys m, none_counted ys m e')
      ]

  nil_last : {A : Type 0} (xs : List A) → last_or None xs ≡ None → xs ≡ []
  nil_last [] e = refl
  nil_last {A} (x ∷ xs) e =
      elim (last_either (Some x) xs) as (λ _. x ∷ xs ≡ []) [
        | inl k ↦ (let bad : Some k.0 ≡ None = sym k.2 ∙ e in absurd cc)
        | inr k ↦ (let bad : Some x ≡ None = sym k.1 ∙ e in absurd cc)
      ]

  pub rows_agree : (m : ℕ) → m < n → row_behind b kept m ≡ member_row n (early ++ kept) m
  rows_agree m lt =
      elim (last_either (last_change early m) (own m kept)) as (λ _. row_behind b kept m ≡ member_row n (early ++ kept) m) [
        | inl k ↦
            let last : last_change (early ++ kept) m ≡ Some k.0 = last_in m ∙ k.2 in
            let number : IfSome (last_change (early ++ kept) m) (λ d. d.number ≡ count_of (early ++ kept) m) = last_number [] (early ++ kept) m None numbered tt in
            let number' : k.0.number ≡ count_of (early ++ kept) m = subst (λ o. IfSome o (λ d. d.number ≡ count_of (early ++ kept) m)) last number in
            let base = unwrap_or (slice_get b.rows m) (record { count = 0; last = 0; known = [] }) in
            ap (λ o. option_map_or row_by o base) k.1
            ∙ (λ i. record { count = number' i; last = k.0.time; known = known_by k.0 })
            ∙ (λ i. record { count = count_of (early ++ kept) m; last = option_map_or (λ d. d.time) (sym last i) 0; known = option_map_or known_by (sym last i) (replicate n 0) })
        | inr k ↦
            let last : last_change (early ++ kept) m ≡ last_change early m = last_in m ∙ k.1 in
            let count : count_of (early ++ kept) m ≡ count_of early m = omega (arith, count_of-append early kept m, none_counted kept m (nil_last (own m kept) k.0)) in
            let at : slice_get (rows_of_changes n early) (m - 0) ≡ Some (member_row n early m) = row_at (member_row n early) 0 n m (omega arith) (omega arith) in
            let z : m - 0 ≡ m = omega arith in
            let at' : slice_get (rows_of_changes n early) m ≡ Some (member_row n early m) = rw z at at in
            ap (λ o. option_map_or row_by o (unwrap_or (slice_get b.rows m) (record { count = 0; last = 0; known = [] }))) k.0
            ∙ ap (λ o. unwrap_or o (record { count = 0; last = 0; known = [] })) at'
            ∙ (λ i. record { count = sym count i; last = option_map_or (λ d. d.time) (sym last i) 0; known = option_map_or known_by (sym last i) (replicate n 0) })
      ]

  -- ---- times

  -- a cause that was trimmed is by then, and any other has its time
  times_agree : (k q : ℕ) → 1 ≤ q → q ≤ count_of (early ++ kept) k → ((time_of (early ++ kept) (name k q) ≤ T) × (time_of kept (name k q) ≡ 0)) ⊎ (time_of (early ++ kept) (name k q) ≡ time_of kept (name k q))
  times_agree k q some most =
      elim (cases_lt (count_of early k) q) as (λ _. ((time_of (early ++ kept) (name k q) ≤ T) × (time_of kept (name k q) ≡ 0)) ⊎ (time_of (early ++ kept) (name k q) ≡ time_of kept (name k q))) [
        | inl l ↦
            let skipped = all_more (λ x. x.member ≡ k → x.number ≤ count_of early k) (λ x. has_name (name k q) x ≡ false) (λ x f. not_named x k q (λ e same. let b = f e in omega arith)) early (numbers_most k [] early (EachAfter-front Numbered [] early kept numbered)) in
            inr (ap (λ o. option_map_or (λ d. d.time) o 0) (find_skips (has_name (name k q)) early kept skipped))
        | inr ge ↦
            let there = found (λ d. d.time ≤ T) k q [] early (EachAfter-front Numbered [] early kept numbered) p.by_then some ge in
            let time : time_of (early ++ kept) (name k q) ≡ there.0.time = ap (λ o. option_map_or (λ d. d.time) o 0) (find_first (has_name (name k q)) early kept there.0 there.1) in
            let most : there.0.time ≤ T = there.2 in
            let later = numbers_least k early kept (back_of Numbered [] early kept numbered) in
            let skipped = all_more (λ x. x.member ≡ k → count_of early k < x.number) (λ x. has_name (name k q) x ≡ false) (λ x f. not_named x k q (λ e same. let b = f e in omega arith)) kept later in
            let none : find (has_name (name k q)) kept ≡ None = ap (find (has_name (name k q))) (sym (append-nil kept)) ∙ find_skips (has_name (name k q)) kept [] skipped in
            inl (subst (λ t. t ≤ T) (sym time) most, ap (λ o. option_map_or (λ d. d.time) o 0) none)
      ]

  -- a number that isn't reached is nowhere
  unreached : (k q : ℕ) → count_of (early ++ kept) k < q → time_of (early ++ kept) (name k q) ≡ time_of kept (name k q)
  unreached k q more =
      let skipped = all_more (λ x. x.member ≡ k → x.number ≤ count_of (early ++ kept) k) (λ x. has_name (name k q) x ≡ false) (λ x f. not_named x k q (λ e same. let b = f e in omega arith)) (early ++ kept) (numbers_most k [] (early ++ kept) numbered) in
      ap (λ o. option_map_or (λ d. d.time) o 0) (find_skips (has_name (name k q)) early kept (all_front (λ x. has_name (name k q) x ≡ false) early kept skipped))

  either_time : (k q : ℕ) → 1 ≤ q → ((time_of (early ++ kept) (name k q) ≤ T) × (time_of kept (name k q) ≡ 0)) ⊎ (time_of (early ++ kept) (name k q) ≡ time_of kept (name k q))
  either_time k q some =
      elim (cases_lt (count_of (early ++ kept) k) q) as (λ _. ((time_of (early ++ kept) (name k q) ≤ T) × (time_of kept (name k q) ≡ 0)) ⊎ (time_of (early ++ kept) (name k q) ≡ time_of kept (name k q))) [
        | inl more ↦ inr (unreached k q more)
        | inr le ↦ times_agree k q some le
      ]

  pub cause_agrees : (c : Change) (k : ℕ) → T < c.time → late_cause (held n (early ++ kept)) c k ≡ late_cause (held_behind b kept) c k
  cause_agrees c k lt =
      let q = slice_index c.causes k in
      elim (cases_lt 0 q) as (λ _. late_cause (held n (early ++ kept)) c k ≡ late_cause (held_behind b kept) c k) [
        | inl some ↦
            elim (either_time k q some) as (λ _. late_cause (held n (early ++ kept)) c k ≡ late_cause (held_behind b kept) c k) [
              | inl t ↦
                  let l : ltb (time_of (early ++ kept) (name k q)) c.time ≡ true = (let x = t.0 in lt-ltb _ _ (omega arith)) in
                  let m : ltb (time_of kept (name k q)) c.time ≡ true = (let x = t.1 in lt-ltb _ _ (omega arith)) in
                  let some : eqb q 0 ≡ false = ne_eqb q 0 (λ z. omega arith) in
                  rw (some, l, m) refl
              | inr t ↦ ap (λ u. cond (eqb q 0 || ltb u c.time) None (Some (before_cause k u c.time))) t
            ]
        | inr none ↦ (let z : eqb q 0 ≡ true = eq-eqb q 0 (omega arith) in rw z refl)
      ]

  -- ---- fitting

  pub state_agrees : replay (early ++ kept) ≡ after b.state (atoms kept)
  state_agrees = replay-append early kept

  pub same_given : {A : Type 0} (f g : ℕ → Option A) (xs : List ℕ) → AllByRecursion (λ x. f x ≡ g x) xs → filter_map f xs ≡ filter_map g xs
  same_given f g [] e = refl
  same_given {A} f g (x ∷ xs) e = ap (λ o. cons_option o (filter_map f xs)) e.0 ∙ ap (cons_option (g x)) (same_given f g xs e.1)

  pub fits_agree : (c : Change) → c.member < n → T ≤ last_of (early ++ kept) c.member → fits n (held n (early ++ kept)) c ≡ fits n (held_behind b kept) c
  fits_agree c below reached =
      let row = rows_agree c.member below in
      let row' : member_row n (early ++ kept) c.member ≡ row_behind b kept c.member = sym row in
      let times : late_time (held n (early ++ kept)) c ≡ late_time (held_behind b kept) c = ap (λ (r : MemberRow). cond (ltb r.last c.time) [] (not_later c.time r.last ∷ [])) row' in
      elim (cases_lt (last_of (early ++ kept) c.member) c.time) as (λ _. fits n (held n (early ++ kept)) c ≡ fits n (held_behind b kept) c) [
        | inr ge ↦
            let t : ltb (last_of (early ++ kept) c.member) c.time ≡ false = le-ltb _ _ ge in
            let first : late_time (held n (early ++ kept)) c ≡ not_later c.time (last_of (early ++ kept) c.member) ∷ [] = rw t refl in
            let rest = λ (past : Held). filter_map (forgotten past c) (members n) ++ (filter_map (late_cause past c) (members n) ++ wrong_references past.state 0 (by_ids c.time c.member 0 c.operations)) in
            ap (λ xs. slice_get (xs ++ rest (held n (early ++ kept))) 0) first ∙ sym (ap (λ xs. slice_get (xs ++ rest (held_behind b kept)) 0) (sym times ∙ first))
        | inl lt ↦
            let forgets : filter_map (forgotten (held n (early ++ kept)) c) (members n) ≡ filter_map (forgotten (held_behind b kept) c) (members n) =
            ap (λ (r : MemberRow). filter_map (λ k. cond (ltb (slice_index c.causes k) (slice_index r.known k)) (Some (misfit.forgets k (slice_index c.causes k) (slice_index r.known k))) None) (members n)) row' in
            let causes : filter_map (late_cause (held n (early ++ kept)) c) (members n) ≡ filter_map (late_cause (held_behind b kept) c) (members n) =
            same_given (late_cause (held n (early ++ kept)) c) (late_cause (held_behind b kept) c) (members n) (all_of_any (λ k. late_cause (held n (early ++ kept)) c k ≡ late_cause (held_behind b kept) c k) (λ k. cause_agrees c k (omega arith)) (members n)) in
            let refs = ap (λ s. wrong_references s 0 (by_ids c.time c.member 0 c.operations)) state_agrees in
            λ i. slice_get (times i ++ (forgets i ++ (causes i ++ refs i))) 0
      ]

  -- a change past the time fits alike
  pub fits_late : (c : Change) → c.member < n → T < c.time → fits n (held n (early ++ kept)) c ≡ fits n (held_behind b kept) c
  fits_late c below late =
      let row' : member_row n (early ++ kept) c.member ≡ row_behind b kept c.member = sym (rows_agree c.member below) in
      let times : late_time (held n (early ++ kept)) c ≡ late_time (held_behind b kept) c = ap (λ (r : MemberRow). cond (ltb r.last c.time) [] (not_later c.time r.last ∷ [])) row' in
      let forgets : filter_map (forgotten (held n (early ++ kept)) c) (members n) ≡ filter_map (forgotten (held_behind b kept) c) (members n) =
      ap (λ (r : MemberRow). filter_map (λ k. cond (ltb (slice_index c.causes k) (slice_index r.known k)) (Some (misfit.forgets k (slice_index c.causes k) (slice_index r.known k))) None) (members n)) row' in
      let causes : filter_map (late_cause (held n (early ++ kept)) c) (members n) ≡ filter_map (late_cause (held_behind b kept) c) (members n) =
      same_given (late_cause (held n (early ++ kept)) c) (late_cause (held_behind b kept) c) (members n) (all_of_any (λ k. late_cause (held n (early ++ kept)) c k ≡ late_cause (held_behind b kept) c k) (λ k. cause_agrees c k late) (members n)) in
      let refs = ap (λ s. wrong_references s 0 (by_ids c.time c.member 0 c.operations)) state_agrees in
      λ i. slice_get (times i ++ (forgets i ++ (causes i ++ refs i))) 0

  same_list : (f g : ℕ → Bool) (xs : List ℕ) → AllByRecursion (λ x. f x ≡ g x) xs → list_all f xs ≡ list_all g xs
  same_list f g [] e = refl
  same_list f g (x ∷ xs) e = ap (λ t. t && list_all f xs) e.0 ∙ ap (λ t. g x && t) (same_list f g xs e.1)

  pub ready_agrees : (c : Change) → c.member < n → is_ready n (held n (early ++ kept)) c ≡ is_ready n (held_behind b kept) c
  ready_agrees c below =
      ap (λ (r : MemberRow). eqb c.number (r.count + 1) && list_all (λ k. not (is_missing (held n (early ++ kept)) c k)) (members n)) (sym (rows_agree c.member below))
      ∙ ap (λ t. eqb c.number ((row_behind b kept c.member).count + 1) && t)
      (same_list (λ k. not (is_missing (held n (early ++ kept)) c k)) (λ k. not (is_missing (held_behind b kept) c k)) (members n)
      (all_more (λ k. k < n) (λ k. not (is_missing (held n (early ++ kept)) c k) ≡ not (is_missing (held_behind b kept) c k)) (λ k lt. ap (λ (r : MemberRow). not (ltb r.count (slice_index c.causes k))) (sym (rows_agree k lt))) (members n) (members_below n)))

less_last : (t r l m : ℕ) → t ≤ r → r ≤ l → m ≡ l → t ≤ m
less_last t r l m a b e = omega arith

-- ---- the law

pub both_readings_agree : BothReadingsAgree
both_readings_agree f h b stands is =
    let n = f.members in
    let T = stands.horizon in
    let early = up_to T h in
    let kept = past T h in
    let whole = up_to-append-past T h stands.sound.in_order in
    let halves : Halves n early kept T = record {
      each = subst (λ l. EachAfter (Joins n) [] l) (sym whole) stands.sound.each;
      by_then = all_more (λ d. leb d.time T ≡ true) (λ d. d.time ≤ T) (λ d e. leb-true d.time T e) early (all_pass (λ d. leb d.time T) h);
    } in
    let same : base_of n h T ≡ b = same_Some (base_of n h T) b (sym stands.base ∙ is) in
    let reached = λ (c : Change) (below : c.member < n). (let l : horizon_of n h ≤ last_of h c.member = of_member (λ m. horizon_of n h ≤ last_of h m) n c.member (horizon_members n h) below in let r = stands.reached in let e = ap (λ l. last_of l c.member) whole in less_last T (horizon_of n h) (last_of h c.member) (last_of (early ++ kept) c.member) r l e) in
    let alike : ReadAlike n (early ++ kept) (base_of n h T) kept = record {
      rows = rows_agree n early kept T halves;
      state = state_agrees n early kept T halves;
      ready = λ c a. ready_agrees n early kept T halves c a.member;
      fitting = λ c a. fits_agree n early kept T halves c a.member (reached c a.member);
    } in
    subst (λ l. ReadAlike n h b l) (sym stands.kept) (subst (λ x. ReadAlike n h x kept) same (subst (λ l. ReadAlike n l (base_of n h T) kept) whole alike))
