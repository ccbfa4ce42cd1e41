-- The first reason why a change may not join, looked for member by member.
use Rattle.std.proofs.Common.{◌≡◌, ℕ, zero, suc, ◌+◌, ◌<◌, ◌≤◌, false, true, eqb, ltb, List, [], ◌∷◌, ◌++◌, map, Option, Some, None, refl, ap, ◌∙◌, arith, inl, inr}
use Rattle.std.specs.Prelude.{filter_map, slice_get, slice_index}
use Rattle.std.specs.List.{cons_option, range_with_len}
use Rattle.std.specs.Option.{option_map, option_or}
use Rattle.std.proofs.lemmas.Bool.{cases_eq, eq-eqb, ne_eqb, lt-ltb, le-ltb}
use Rattle.std.proofs.lemmas.List.FromFn.{get_or-map-range_with_len, length-map-range_with_len}
use Rattle.std.proofs.lemmas.Option.{get_or_from_slice_get, slice_get-get_or, slice_get-map}
use Rattle.model.specs.Base.{MemberRow, members}
use Rattle.model.specs.Change.{Change}
use Rattle.model.specs.Held.{Held, before_cause, forgets, forgotten, lacks_cause, late_cause, late_time, missing_cause, not_later}
use Rattle.model_laws.proofs.ListLaws.{all_more, filter_map_none}
use Rattle.model_laws.proofs.ChangeLaws.{members_below}
use Rattle.arrival_laws.proofs.SoundLaws.{name}

-- ---- the first of some

-- the first of two lists is that of the first, or else of the second
pub first_of_two : {A : Type 0} (xs ys : List A) → slice_get (xs ++ ys) 0 ≡ option_or (slice_get xs 0) (slice_get ys 0)
first_of_two [] ys = refl
first_of_two (x ∷ xs) ys = refl

first_from : {A : Type 0} (f : ℕ → Option A) (a n k : ℕ) (x : A) → a ≤ k → k < a + n → ((j : ℕ) → j < k → f j ≡ None) → f k ≡ Some x → slice_get (filter_map f (range_with_len a n)) 0 ≡ Some x
first_from f a zero k x from to none here = absurd (omega arith)
first_from {A} f a (suc n) k x from to none here =
    elim (cases_eq a k) [
      | inl e ↦ ap (λ o. slice_get (cons_option o (filter_map f (range_with_len (a + 1) n))) 0) (ap f e ∙ here)
      | inr ne ↦ ap (λ (o : Option A). slice_get (cons_option o (filter_map f (range_with_len (a + 1) n))) 0) (none a (omega arith)) ∙ first_from f (a + 1) n k x (omega arith) (omega arith) none here
    ]

-- of all members, where none before this one has any
pub first_at : {A : Type 0} (f : ℕ → Option A) (n k : ℕ) (x : A) → k < n → ((j : ℕ) → j < k → f j ≡ None) → f k ≡ Some x → slice_get (filter_map f (members n)) 0 ≡ Some x
first_at f n k x lt none here = first_from f 0 n k x (omega arith) (omega arith) none here

-- where no member has any
pub first_none : {A : Type 0} (f : ℕ → Option A) (n : ℕ) → ((j : ℕ) → j < n → f j ≡ None) → slice_get (filter_map f (members n)) 0 ≡ None
first_none f n none = ap (λ xs. slice_get xs 0) (filter_map_none f (members n) (all_more (λ j. j < n) (λ j. f j ≡ None) none (members n) (members_below n)))

-- ---- what the rows tell of a member

pub row_at : (n : ℕ) (row : ℕ → MemberRow) (k : ℕ) → k < n → slice_get (map row (members n)) k ≡ Some (row k)
row_at n row k lt =
    let r = row k in
    slice_get-get_or (map row (members n)) k r (omega (arith, length-map-range_with_len row 0 n)) ∙ ap Some (get_or-map-range_with_len row 0 n k k r lt (omega arith))

pub read_at : {A : Type 0} (f : MemberRow → A) (n : ℕ) (row : ℕ → MemberRow) (k : ℕ) → k < n → slice_get (map f (map row (members n))) k ≡ Some (f (row k))
read_at f n row k lt = slice_get-map f (map row (members n)) k ∙ ap (option_map f) (row_at n row k lt)

pub number_at : (f : MemberRow → ℕ) (n : ℕ) (row : ℕ → MemberRow) (k : ℕ) → k < n → slice_index (map f (map row (members n))) k ≡ f (row k)
number_at f n row k lt = get_or_from_slice_get (map f (map row (members n))) k (f (row k)) 0 (read_at f n row k lt)

-- ---- one member

pub is_held : (past : Held) (c : Change) (k : ℕ) → slice_index c.causes k ≤ (past.row k).count → missing_cause past c k ≡ None
is_held past c k le = let no : ltb (past.row k).count (slice_index c.causes k) ≡ false = le-ltb _ _ le in rw no refl

pub is_missing : (past : Held) (c : Change) (k cause held : ℕ) → cause ≡ slice_index c.causes k → held ≡ (past.row k).count → held < cause → Some (lacks_cause k cause held) ≡ missing_cause past c k
is_missing past c k cause held is_cause is_held lt =
    let yes : ltb (past.row k).count (slice_index c.causes k) ≡ true = lt-ltb _ _ (omega arith) in
    rw yes (λ i. Some (lacks_cause k (is_cause i) (is_held i)))

pub is_later : (past : Held) (c : Change) → (past.row c.member).last < c.time → late_time past c ≡ []
is_later past c lt = let yes : ltb (past.row c.member).last c.time ≡ true = lt-ltb _ _ lt in rw yes refl

pub is_late : (past : Held) (c : Change) (time last : ℕ) → time ≡ c.time → last ≡ (past.row c.member).last → time ≤ last → not_later time last ∷ [] ≡ late_time past c
is_late past c time last is_time is_last le =
    let no : ltb (past.row c.member).last c.time ≡ false = le-ltb _ _ (omega arith) in
    rw no (λ i. not_later (is_time i) (is_last i) ∷ [])

pub is_remembered : (past : Held) (c : Change) (k : ℕ) → slice_index (past.row c.member).known k ≤ slice_index c.causes k → forgotten past c k ≡ None
is_remembered past c k le = let no : ltb (slice_index c.causes k) (slice_index (past.row c.member).known k) ≡ false = le-ltb _ _ le in rw no refl

pub is_forgotten : (past : Held) (c : Change) (k cause known : ℕ) → cause ≡ slice_index c.causes k → known ≡ slice_index (past.row c.member).known k → cause < known → Some (forgets k cause known) ≡ forgotten past c k
is_forgotten past c k cause known is_cause is_known lt =
    let yes : ltb (slice_index c.causes k) (slice_index (past.row c.member).known k) ≡ true = lt-ltb _ _ (omega arith) in
    rw yes (λ i. Some (forgets k (is_cause i) (is_known i)))

pub has_no_cause : (past : Held) (c : Change) (k : ℕ) → slice_index c.causes k ≡ 0 → late_cause past c k ≡ None
has_no_cause past c k e = let yes : eqb (slice_index c.causes k) 0 ≡ true = eq-eqb _ 0 e in rw yes refl

pub is_earlier : (past : Held) (c : Change) (k : ℕ) → 0 < slice_index c.causes k → past.time (name k (slice_index c.causes k)) < c.time → late_cause past c k ≡ None
is_earlier past c k some lt =
    let no : eqb (slice_index c.causes k) 0 ≡ false = ne_eqb _ 0 (λ e. omega arith) in
    let yes : ltb (past.time (name k (slice_index c.causes k))) c.time ≡ true = lt-ltb _ _ lt in
    rw (no, yes) refl

pub is_not_earlier : (past : Held) (c : Change) (k cause_time time : ℕ) → cause_time ≡ past.time (name k (slice_index c.causes k)) → time ≡ c.time → 0 < slice_index c.causes k → time ≤ cause_time
    → Some (before_cause k cause_time time) ≡ late_cause past c k
is_not_earlier past c k cause_time time is_cause is_time some le =
    let none : eqb (slice_index c.causes k) 0 ≡ false = ne_eqb _ 0 (λ e. omega arith) in
    let no : ltb (past.time (name k (slice_index c.causes k))) c.time ≡ false = le-ltb _ _ (omega arith) in
    rw (none, no) (λ i. Some (before_cause k (is_cause i) (is_time i)))
