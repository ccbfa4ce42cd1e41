-- A change that joins lowers nothing that is known to all.
use Rattle.std.proofs.Common.{◌≡◌, ℕ, zero, suc, ◌+◌, ◌-◌, ◌<◌, ◌≤◌, true, false, cond, ltb, leb, not, min, max, Bool, List, [], ◌∷◌, ◌++◌, length, map, get_or, refl, sym, ap, subst, ◌∙◌, arith, inl, inr}
use Rattle.std.specs.Prelude.{Option, Some, None, fold, filter, slice_index, filter_map, replicate}
use Rattle.std.specs.List.{AllByRecursion, range_with_len, cons_option}
use Rattle.std.specs.Option.{option_map_or}
use Rattle.std.proofs.lemmas.Bool.{le-ltb, cases_lt, cases_eq, lt-ltb, le-leb, lt-leb}
use Rattle.std.proofs.lemmas.List.{get_or-set_same, get_or-set_other, get_or_past}
use Rattle.model.specs.Change.{Change, is_before}
use Rattle.model.specs.Base.{members, last_change, last_of, known_by, known_of}
use Rattle.model.specs.Held.{Held, held, not_later, forgets, late_time, forgotten, late_cause, wrong_references, misfits, fits}
use Rattle.model.specs.State.{by_ids}
use Rattle.model.specs.Ledger.{IsAmong, add}
use Rattle.model.specs.Stability.{least, stable_of, is_stable, horizon_of}
use Rattle.arrival_laws.specs.Joining.{StabilityNeverFalls}
use Rattle.model_laws.proofs.ListLaws.{all_front, all_back, all_append, all_more, all_map, all_from_map, nil_from_none, nil_from_append, all_both}
use Rattle.arrival_laws.proofs.AddLaws.{InOrder, order_from, IsLast, is_last, earlier, later, all_kept, last_added, last_other}

-- ---- the least of some numbers

fold_min_most : (m : ℕ) (ns : List ℕ) → (fold min m ns ≤ m) × AllByRecursion (λ n. fold min m ns ≤ n) ns
fold_min_most m [] = (omega arith, tt)
fold_min_most m (n ∷ ns) =
    let rest = fold_min_most (min m n) ns in
    let first : fold min (min m n) ns ≤ min m n = rest.0 in
    (omega arith, (omega arith, rest.1))

pub least_most : (ns : List ℕ) → AllByRecursion (λ n. least ns ≤ n) ns
least_most [] = tt
least_most (n ∷ ns) = fold_min_most n ns

fold_min_from : (k m : ℕ) (ns : List ℕ) → k ≤ m → AllByRecursion (λ n. k ≤ n) ns → k ≤ fold min m ns
fold_min_from k m [] l h = l
fold_min_from k m (n ∷ ns) l h = let f : k ≤ n = h.0 in fold_min_from k (min m n) ns (omega arith) h.1

-- what is at most each of some numbers is at most the least, if there are any
pub least_from : (k n : ℕ) (ns : List ℕ) → AllByRecursion (λ m. k ≤ m) (n ∷ ns) → k ≤ least (n ∷ ns)
least_from k n ns h = fold_min_from k n ns h.0 h.1

-- ---- what fits says

pub nil_second : {A : Type 0} (xs ys : List A) → xs ++ ys ≡ [] → ys ≡ []
nil_second [] ys e = e
nil_second (x ∷ xs) ys e = absurd cc

pub given_none : {A B : Type 0} (f : A → Option B) (xs : List A) → filter_map f xs ≡ [] → AllByRecursion (λ x. f x ≡ None) xs
given_none f [] e = tt
given_none {B = B} f (x ∷ xs) e =
    elim (f x) as (λ o. cons_option o (filter_map f xs) ≡ [] → (o ≡ None) × AllByRecursion (λ x. f x ≡ None) xs) [
      | None ↦ λ k. (refl, given_none f xs k)
      | Some y ↦ λ k. absurd cc
    ] e

-- a change that fits is later than its member's last, and forgets nothing
pub record Fitting (n : ℕ) (past : Held) (c : Change) : Type 0 where
  pub later : (past.row c.member).last < c.time
  pub remembers : AllByRecursion (λ k. slice_index (past.row c.member).known k ≤ slice_index c.causes k) (members n)
  pub causes_before : AllByRecursion (λ k. late_cause past c k ≡ None) (members n)
  pub refers : wrong_references past.state 0 (by_ids c.time c.member 0 c.operations) ≡ []

pub late_time_none : (past : Held) (c : Change) → late_time past c ≡ [] → (past.row c.member).last < c.time
late_time_none past c e =
    elim (cases_lt (past.row c.member).last c.time) as (λ _. (past.row c.member).last < c.time) [
      | inl l ↦ l
      | inr ge ↦ (let t : ltb (past.row c.member).last c.time ≡ false = le-ltb _ _ ge in let bad : not_later c.time (past.row c.member).last ∷ [] ≡ [] = rw t at e in absurd cc)
    ]

forgotten_none : (past : Held) (c : Change) (k : ℕ) → forgotten past c k ≡ None → slice_index (past.row c.member).known k ≤ slice_index c.causes k
forgotten_none past c k e =
    elim (cases_lt (slice_index c.causes k) (slice_index (past.row c.member).known k)) as (λ _. slice_index (past.row c.member).known k ≤ slice_index c.causes k) [
      | inl l ↦ (let t : ltb (slice_index c.causes k) (slice_index (past.row c.member).known k) ≡ true = lt-ltb _ _ l in let bad : Some (forgets k (slice_index c.causes k) (slice_index (past.row c.member).known k)) ≡ None = rw t at e in absurd cc)
      | inr ge ↦ ge
    ]

pub fitting : (n : ℕ) (past : Held) (c : Change) → fits n past c ≡ None → Fitting n past c
fitting n past c f =
    let none = nil_from_none (misfits n past c) f in
    let a = late_time past c in
    let b = filter_map (forgotten past c) (members n) in
    let d = filter_map (late_cause past c) (members n) in
    let w = wrong_references past.state 0 (by_ids c.time c.member 0 c.operations) in
    let bdw = nil_second a (b ++ (d ++ w)) none in
    let dw = nil_second b (d ++ w) bdw in
    record {
      later = late_time_none past c (nil_from_append a (b ++ (d ++ w)) none);
      remembers = all_more (λ k. forgotten past c k ≡ None) (λ k. slice_index (past.row c.member).known k ≤ slice_index c.causes k) (forgotten_none past c) (members n) (given_none (forgotten past c) (members n) (nil_from_append b (d ++ w) bdw));
      causes_before = given_none (late_cause past c) (members n) (nil_from_append d w dw);
      refers = nil_second d w dw;
    }

-- ---- what members know

at_member : (P : ℕ → Type 0) (a n k : ℕ) → AllByRecursion P (range_with_len a n) → a ≤ k → k < a + n → P k
at_member P a zero k h l m = absurd (omega arith)
at_member P a (suc n) k h l m = elim (cases_eq a k) as (λ _. P k) [ inl e ↦ subst P e h.0 | inr ne ↦ at_member P (a + 1) n k h.1 (omega arith) (omega arith) ]

-- what holds of each member holds of one below n
pub of_member : (P : ℕ → Type 0) (n k : ℕ) → AllByRecursion P (members n) → k < n → P k
of_member P n k h l = at_member P 0 n k h (omega arith) (omega arith)

-- its maker knows at least its causes
pub known_by_most : (c : Change) (k : ℕ) → slice_index c.causes k ≤ slice_index (known_by c) k
known_by_most c k =
    elim (cases_eq k c.member) as (λ _. slice_index c.causes k ≤ slice_index (known_by c) k) [
      | inl e ↦
          elim (cases_lt c.member (length c.causes)) as (λ _. slice_index c.causes k ≤ slice_index (known_by c) k) [
            | inl l ↦ (let s : get_or (known_by c) c.member 0 ≡ max (slice_index c.causes c.member) c.number = get_or-set_same c.causes c.member _ 0 l in
                subst (λ j. slice_index c.causes j ≤ slice_index (known_by c) j) (sym e) (omega arith))
            | inr ge ↦ (let s : get_or c.causes k 0 ≡ 0 = get_or_past c.causes k 0 (omega arith) in omega arith)
          ]
      | inr ne ↦ (let s : get_or (known_by c) k 0 ≡ get_or c.causes k 0 = get_or-set_other c.causes c.member k _ 0 ne in omega arith)
    ]

-- no member knows less when a change was added
known_rises : (n : ℕ) (h : List Change) (c : Change) → InOrder h → IsLast h c → Fitting n (held n h) c → (m k : ℕ) → k < n → slice_index (known_of n h m) k ≤ slice_index (known_of n (add h c) m) k
known_rises n h c r l f m k lt =
    elim (cases_eq m c.member) as (λ _. slice_index (known_of n h m) k ≤ slice_index (known_of n (add h c) m) k) [
      | inl e ↦
          let new : known_of n (add h c) m ≡ known_by c = ap (λ o. option_map_or known_by o (replicate n 0)) (ap (last_change (add h c)) e ∙ last_added h c l) in
          let old : slice_index (known_of n h c.member) k ≤ slice_index c.causes k = of_member (λ k. slice_index (known_of n h c.member) k ≤ slice_index c.causes k) n k f.remembers lt in
          let most = known_by_most c k in
          let old' : slice_index (known_of n h m) k ≤ slice_index c.causes k = subst (λ j. slice_index (known_of n h j) k ≤ slice_index c.causes k) (sym e) old in
          subst (λ v. slice_index (known_of n h m) k ≤ slice_index v k) (sym new) (omega arith)
      | inr ne ↦ (let same : known_of n (add h c) m ≡ known_of n h m = ap (λ o. option_map_or known_by o (replicate n 0)) (last_other h c m r l ne) in subst (λ v. slice_index (known_of n h m) k ≤ slice_index v k) (sym same) (omega arith))
    ]

-- nor has one an earlier last change
last_rises : (n : ℕ) (h : List Change) (c : Change) → InOrder h → IsLast h c → Fitting n (held n h) c → (m : ℕ) → last_of h m ≤ last_of (add h c) m
last_rises n h c r l f m =
    elim (cases_eq m c.member) as (λ _. last_of h m ≤ last_of (add h c) m) [
      | inl e ↦
          let new : last_of (add h c) m ≡ c.time = ap (λ o. option_map_or (λ d. d.time) o 0) (ap (last_change (add h c)) e ∙ last_added h c l) in
          let old : last_of h c.member < c.time = f.later in
          let old' : last_of h m < c.time = subst (λ j. last_of h j < c.time) (sym e) old in
          omega arith
      | inr ne ↦ (let same : last_of (add h c) m ≡ last_of h m = ap (λ o. option_map_or (λ d. d.time) o 0) (last_other h c m r l ne) in omega arith)
    ]

-- the least of numbers that each rose
least_rises : (f g : ℕ → ℕ) (ms : List ℕ) → ((m : ℕ) → f m ≤ g m) → least (map f ms) ≤ least (map g ms)
least_rises f g [] l = omega arith
least_rises f g (m ∷ ms) l =
    least_from (least (map f (m ∷ ms))) (g m) (map g ms)
    (all_map (λ k. least (map f (m ∷ ms)) ≤ k) g (m ∷ ms) (all_more (λ k. least (map f (m ∷ ms)) ≤ f k) (λ k. least (map f (m ∷ ms)) ≤ g k) (λ k b. let a = l k in omega arith) (m ∷ ms) (all_from_map (λ k. least (map f (m ∷ ms)) ≤ k) f (m ∷ ms) (least_most (map f (m ∷ ms))))))

pub stable_rises : (n : ℕ) (h : List Change) (c : Change) → InOrder h → IsLast h c → Fitting n (held n h) c → (k : ℕ) → k < n → stable_of n (held n h) k ≤ stable_of n (held n (add h c)) k
stable_rises n h c r l f k lt = least_rises (λ m. slice_index (known_of n h m) k) (λ m. slice_index (known_of n (add h c) m) k) (members n) (λ m. known_rises n h c r l f m k lt)

-- ---- the horizon

abbrev pub before_it : Change → ℕ
before_it d = d.time - 1

abbrev pub unstable : ℕ → List Change → List Change → List Change
unstable n h cs = filter (λ d. not (is_stable n (held n h) d)) cs

pub horizon_members : (n : ℕ) (h : List Change) → AllByRecursion (λ m. horizon_of n h ≤ last_of h m) (members n)
horizon_members n h =
    let lasts = map (λ m. last_of h m) (members n) in
    all_from_map (λ t. horizon_of n h ≤ t) (λ m. last_of h m) (members n) (all_front (λ t. horizon_of n h ≤ t) lasts (map before_it (unstable n h h)) (least_most (lasts ++ map before_it (unstable n h h))))

-- a later change of a member is past the horizon
pub past_horizon : (n T : ℕ) (h : List Change) (c : Change) → T ≤ horizon_of n h → c.member < n → last_of h c.member < c.time → T < c.time
past_horizon n T h c r below late = let l : horizon_of n h ≤ last_of h c.member = of_member (λ m. horizon_of n h ≤ last_of h m) n c.member (horizon_members n h) below in omega arith

pub horizon_changes : (n : ℕ) (h : List Change) → AllByRecursion (λ d. horizon_of n h ≤ before_it d) (unstable n h h)
horizon_changes n h =
    let lasts = map (λ m. last_of h m) (members n) in
    all_from_map (λ t. horizon_of n h ≤ t) before_it (unstable n h h) (all_back (λ t. horizon_of n h ≤ t) lasts (map before_it (unstable n h h)) (least_most (lasts ++ map before_it (unstable n h h))))

-- what holds of those that fail a test holds of each, if it fails
pub of_kept : {A : Type 0} (P : A → Type 0) (test : A → Bool) (xs : List A) → AllByRecursion P (filter test xs) → AllByRecursion (λ x. test x ≡ true → P x) xs
of_kept P test [] h = tt
of_kept P test (x ∷ xs) h =
    elim (test x) as (λ b. AllByRecursion P (cond b (x ∷ filter test xs) (filter test xs)) → (b ≡ true → P x) × AllByRecursion (λ x. test x ≡ true → P x) xs) [
      | true ↦ λ k. (λ _. k.0, of_kept P test xs k.1)
      | false ↦ λ k. (λ e. absurd cc, of_kept P test xs k)
    ] h

to_kept : {A : Type 0} (P : A → Type 0) (test : A → Bool) (xs : List A) → AllByRecursion (λ x. test x ≡ true → P x) xs → AllByRecursion P (filter test xs)
to_kept P test [] h = tt
to_kept P test (x ∷ xs) h =
    elim (test x) as (λ b. (b ≡ true → P x) → AllByRecursion P (cond b (x ∷ filter test xs) (filter test xs))) [
      | true ↦ λ k. (k refl, to_kept P test xs h.1)
      | false ↦ λ k. to_kept P test xs h.1
    ] h.0

-- what isn't stable now wasn't before
was_unstable : (n : ℕ) (h : List Change) (c d : Change) → stable_of n (held n h) d.member ≤ stable_of n (held n (add h c)) d.member → not (is_stable n (held n (add h c)) d) ≡ true → not (is_stable n (held n h) d) ≡ true
was_unstable n h c d l u =
    elim (cases_lt (stable_of n (held n h) d.member) d.number) as (λ _. not (is_stable n (held n h) d) ≡ true) [
      | inl lt ↦ (let t : leb d.number (stable_of n (held n h) d.member) ≡ false = lt-leb _ _ lt in rw t refl)
      | inr le ↦ (let t : leb d.number (stable_of n (held n (add h c)) d.member) ≡ true = le-leb _ _ (omega arith) in let bad : not true ≡ true = rw t at u in absurd cc)
    ]

-- where there is a member there is a least
not_empty : (T n : ℕ) (f : ℕ → ℕ) (more : List ℕ) → 0 < n → AllByRecursion (λ t. T ≤ t) (map f (members n) ++ more) → T ≤ least (map f (members n) ++ more)
not_empty T zero f more some all = absurd (omega arith)
not_empty T (suc n) f more some all = least_from T (f 0) (map f (range_with_len (0 + 1) n) ++ more) all

pub horizon_rises : (n : ℕ) (h : List Change) (c : Change) → InOrder h → IsLast h c → Fitting n (held n h) c → c.member < n → AllByRecursion (λ d. d.member < n) h → horizon_of n h ≤ horizon_of n (add h c)
horizon_rises n h c r l f below among =
    let T = horizon_of n h in
    let own_last : T ≤ last_of h c.member = of_member (λ m. T ≤ last_of h m) n c.member (horizon_members n h) below in
    let late : last_of h c.member < c.time = f.later in
    let old = all_both (λ d. d.member < n) (λ d. not (is_stable n (held n h) d) ≡ true → T ≤ before_it d) h among (of_kept (λ d. T ≤ before_it d) (λ d. not (is_stable n (held n h) d)) h (horizon_changes n h)) in
    let each = all_more (λ d. (d.member < n) × (not (is_stable n (held n h) d) ≡ true → T ≤ before_it d)) (λ d. not (is_stable n (held n (add h c)) d) ≡ true → T ≤ before_it d)
    (λ d k u. k.1 (was_unstable n h c d (stable_rises n h c r l f d.member k.0) u)) h old in
    let whole : AllByRecursion (λ d. not (is_stable n (held n (add h c)) d) ≡ true → T ≤ before_it d) (add h c) =
    all_append (λ d. not (is_stable n (held n (add h c)) d) ≡ true → T ≤ before_it d) (earlier c h) (c ∷ later c h) (all_kept (λ d. not (is_stable n (held n (add h c)) d) ≡ true → T ≤ before_it d) (λ d. is_before d c) h each)
    (λ _. omega arith, all_kept (λ d. not (is_stable n (held n (add h c)) d) ≡ true → T ≤ before_it d) (λ d. is_before c d) h each) in
    let lasts = all_map (λ t. T ≤ t) (λ m. last_of (add h c) m) (members n) (all_more (λ m. T ≤ last_of h m) (λ m. T ≤ last_of (add h c) m) (λ m b. let a = last_rises n h c r l f m in omega arith) (members n) (horizon_members n h)) in
    let changes = all_map (λ t. T ≤ t) before_it (unstable n (add h c) (add h c)) (to_kept (λ d. T ≤ before_it d) (λ d. not (is_stable n (held n (add h c)) d)) (add h c) whole) in
    let all = all_append (λ t. T ≤ t) (map (λ m. last_of (add h c) m) (members n)) (map before_it (unstable n (add h c) (add h c))) lasts changes in
    not_empty T n (λ m. last_of (add h c) m) (map before_it (unstable n (add h c) (add h c))) (omega arith) all

pub stability_never_falls : StabilityNeverFalls
stability_never_falls n h c sound among joins =
    let r = order_from h sound.in_order in
    let f = fitting n (held n h) c joins.fitting in
    let l = is_last h c r f.later in
    record {
      stable = λ k lt. stable_rises n h c r l f k lt;
      horizon = horizon_rises n h c r l f among.member (all_more (IsAmong n) (λ d. d.member < n) (λ d a. a.member) h sound.among);
    }
