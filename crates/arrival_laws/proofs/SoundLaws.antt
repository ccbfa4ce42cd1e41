-- A ledger stays sound with a change that joins it.
use Rattle.std.proofs.Common.{◌≡◌, ◌≢◌, ℕ, ◌+◌, ◌<◌, ◌≤◌, ◌&&◌, ◌||◌, true, false, cond, eqb, ltb, not, Bool, List, [], ◌∷◌, ◌++◌, refl, sym, ap, subst, ◌∙◌, arith, inl, inr}
use Rattle.std.specs.Prelude.{Some, None, filter, find, slice_get, slice_index, filter_map, replicate}
use Rattle.std.specs.List.{AllByRecursion, list_all, last_or}
use Rattle.std.specs.Option.{option_map_or}
use Rattle.std.proofs.lemmas.Bool.{cases_lt, cases_eq, eq-eqb, ne_eqb, eqb-true, lt-ltb, le-ltb}
use Rattle.std.proofs.lemmas.List.{append_assoc, append-nil}
use Rattle.std.proofs.lemmas.List.Sums.{sum_by-cons}
use Rattle.std.proofs.lemmas.Grind.{flat_map-append}
use Rattle.op_ids.specs.declared.OpId.{OpId}
use Rattle.op_ids.specs.Order.{id_lt, stamp_of, stamp_lt}
use Rattle.op_ids.proofs.OrderLaws.{lt_trans, lt_from_stamps, less_from_is_lt}
use Rattle.model.specs.Change.{Change, Name, change_stamp, has_name, is_before, EachAfter}
use Rattle.model.specs.State.{apart, by_ids, change_atoms, atoms, replay, after}
use Rattle.model.specs.Operation.{Operation, width_of}
use Rattle.model.specs.Base.{members, count_of, last_change, known_by, time_of}
use Rattle.model.specs.Held.{Held, held, is_missing, is_ready, before_cause, late_time, forgotten, late_cause, wrong_references, fits}
use Rattle.model.specs.Ledger.{IsAmong, Joins, Sound}
use Rattle.model_laws.specs.Arrival.{IsSingle}
use Rattle.arrival_laws.specs.Joining.{StaysSound}
use Rattle.model_laws.proofs.ListLaws.{filter_none, all_of_any, all_back, all_append, all_more, filter_map_none, all_both}
use Rattle.model_laws.proofs.ChangeLaws.{EachAfter-at, EachAfter-from_at, EachAfter-front, count_of-append, stamp_times}
use Rattle.model_laws.proofs.TrimLaws.{replay-append}
use Rattle.model_laws.proofs.Tables.{both_true}
use Rattle.arrival_laws.proofs.AddLaws.{InOrder, order_from, to_order, own, is_last, earlier, later, in_two, all_kept, all_pass, all_later, later_others, filter-append, last_or-append}
use Rattle.arrival_laws.proofs.StableLaws.{Fitting, fitting}
use Rattle.model_laws.proofs.Presence.{Any}
use Rattle.model_laws.proofs.ArrivalLaws.{all_done}
use Rattle.model_laws.proofs.Rising.{IsFrom, IsIn, apart_in, all_from}
use Rattle.arrival_laws.proofs.ReferLaws.{RightAlong, AllSingle, BeforeAll, WholeRight, AllReach, Reaches, after_right, right_both, right_front, had_right, has_after, right_more, all_single, whole_from, whole_to, whole_right, whole_more}

-- ---- small things

not_false : (b : Bool) → not b ≡ true → b ≡ false
not_false true e = cc
not_false false e = refl

all_of_list : (p : ℕ → Bool) (xs : List ℕ) → list_all p xs ≡ true → AllByRecursion (λ x. p x ≡ true) xs
all_of_list p [] h = tt
all_of_list p (x ∷ xs) h = let b = both_true (p x) (list_all p xs) h in (b.0, all_of_list p xs b.1)

pub list_of_all : (p : ℕ → Bool) (xs : List ℕ) → AllByRecursion (λ x. p x ≡ true) xs → list_all p xs ≡ true
list_of_all p [] h = refl
list_of_all p (x ∷ xs) h = let a : p x ≡ true = h.0 in rw a (list_of_all p xs h.1)

both_and : (a b : Bool) → a ≡ true → b ≡ true → (a && b) ≡ true
both_and a b p q = rw (p, q) refl

-- ---- ready, in numbers

pub record Ready (n : ℕ) (h : List Change) (c : Change) : Type 0 where
  pub is_next : c.number ≡ count_of h c.member + 1
  pub causes : AllByRecursion (λ k. slice_index c.causes k ≤ count_of h k) (members n)

not_missing : (h : List Change) (n k : ℕ) (c : Change) → not (is_missing (held n h) c k) ≡ true → slice_index c.causes k ≤ count_of h k
not_missing h n k c e =
    elim (cases_lt (count_of h k) (slice_index c.causes k)) as (λ _. slice_index c.causes k ≤ count_of h k) [
      | inl l ↦ (let t : ltb (count_of h k) (slice_index c.causes k) ≡ true = lt-ltb _ _ l in let bad : not true ≡ true = rw t at e in absurd cc)
      | inr ge ↦ ge
    ]

there_is : (h : List Change) (n k : ℕ) (c : Change) → slice_index c.causes k ≤ count_of h k → not (is_missing (held n h) c k) ≡ true
there_is h n k c l = let t : ltb (count_of h k) (slice_index c.causes k) ≡ false = le-ltb _ _ l in rw t refl

pub ready_from : (n : ℕ) (h : List Change) (c : Change) → is_ready n (held n h) c ≡ true → Ready n h c
ready_from n h c e =
    let b = both_true (eqb c.number (count_of h c.member + 1)) (list_all (λ k. not (is_missing (held n h) c k)) (members n)) e in
    record {
      is_next = eqb-true c.number (count_of h c.member + 1) b.0;
      causes = all_more (λ k. not (is_missing (held n h) c k) ≡ true) (λ k. slice_index c.causes k ≤ count_of h k) (λ k m. not_missing h n k c m) (members n) (all_of_list (λ k. not (is_missing (held n h) c k)) (members n) b.1);
    }

pub ready_to : (n : ℕ) (h : List Change) (c : Change) → Ready n h c → is_ready n (held n h) c ≡ true
ready_to n h c r =
    both_and (eqb c.number (count_of h c.member + 1)) (list_all (λ k. not (is_missing (held n h) c k)) (members n)) (eq-eqb c.number (count_of h c.member + 1) r.is_next)
    (list_of_all (λ k. not (is_missing (held n h) c k)) (members n) (all_more (λ k. slice_index c.causes k ≤ count_of h k) (λ k. not (is_missing (held n h) c k) ≡ true) (λ k l. there_is h n k c l) (members n) r.causes))

-- and back from the parts of fitting
pub fits_from : (n : ℕ) (past : Held) (c : Change) → Fitting n past c → fits n past c ≡ None
fits_from n past c f =
    let a : late_time past c ≡ [] = (let t : ltb (past.row c.member).last c.time ≡ true = lt-ltb _ _ f.later in rw t refl) in
    let none : AllByRecursion (λ k. forgotten past c k ≡ None) (members n) =
    all_more (λ k. slice_index (past.row c.member).known k ≤ slice_index c.causes k) (λ k. forgotten past c k ≡ None) (λ k l. let t : ltb (slice_index c.causes k) (slice_index (past.row c.member).known k) ≡ false = le-ltb _ _ l in rw t refl) (members n) f.remembers in
    let b : filter_map (forgotten past c) (members n) ≡ [] = filter_map_none (forgotten past c) (members n) none in
    let d : filter_map (late_cause past c) (members n) ≡ [] = filter_map_none (late_cause past c) (members n) f.causes_before in
    ap (λ ms. slice_get ms 0) (ap (λ xs. xs ++ (filter_map (forgotten past c) (members n) ++ (filter_map (late_cause past c) (members n) ++ wrong_references past.state 0 (by_ids c.time c.member 0 c.operations)))) a
    ∙ ap (λ xs. xs ++ (filter_map (late_cause past c) (members n) ++ wrong_references past.state 0 (by_ids c.time c.member 0 c.operations))) b
    ∙ ap (λ xs. xs ++ wrong_references past.state 0 (by_ids c.time c.member 0 c.operations)) d ∙ f.refers)

-- ---- numbered changes

-- a member's changes are numbered in their order
abbrev pub Numbered : List Change → Change → Type 0
Numbered before c = c.number ≡ count_of before c.member + 1

pub each_more : (P Q : List Change → Change → Type 0) → ((b : List Change) (c : Change) → P b c → Q b c) → (before xs : List Change) → EachAfter P before xs → EachAfter Q before xs
each_more P Q f before [] h = tt
each_more P Q f before (x ∷ xs) h = (f before x h.0, each_more P Q f (before ++ x ∷ []) xs h.1)

abbrev pub one_of : Change → ℕ → ℕ
one_of x k = cond (eqb x.member k) 1 0

pub is_one : (x : Change) (k : ℕ) → x.member ≡ k → one_of x k ≡ 1
is_one x k e = let t : eqb x.member k ≡ true = eq-eqb x.member k e in rw t refl

pub is_none : (x : Change) (k : ℕ) → x.member ≢ k → one_of x k ≡ 0
is_none x k ne = let t : eqb x.member k ≡ false = ne_eqb x.member k ne in rw t refl

pub count_one : (before : List Change) (x : Change) (k : ℕ) → count_of (before ++ x ∷ []) k ≡ count_of before k + one_of x k
count_one before x k = omega (arith, count_of-append before (x ∷ []) k, sum_by-cons (λ d. cond (eqb d.member k) 1 0) x [])

-- no number is above the count
pub numbers_most : (k : ℕ) (before xs : List Change) → EachAfter Numbered before xs → AllByRecursion (λ x. x.member ≡ k → x.number ≤ count_of (before ++ xs) k) xs
numbers_most k before [] h = tt
numbers_most k before (x ∷ xs) h =
    let rest = numbers_most k (before ++ x ∷ []) xs h.1 in
    let first : x.member ≡ k → x.number ≤ count_of (before ++ x ∷ xs) k =
    λ e. (let t : eqb x.member k ≡ true = eq-eqb x.member k e in
    let one = is_one x k e in
    let number : x.number ≡ count_of before k + 1 = h.0 ∙ ap (λ m. count_of before m + 1) e in
    omega (arith, count_of-append before (x ∷ xs) k, sum_by-cons (λ d. cond (eqb d.member k) 1 0) x xs)) in
    (first, subst (λ all. AllByRecursion (λ y. y.member ≡ k → y.number ≤ count_of all k) xs) (append_assoc before (x ∷ []) xs) rest)

abbrev pub name : ℕ → ℕ → Name
name k q = record { member = k; number = q }

pub not_named : (x : Change) (k q : ℕ) → (x.member ≡ k → x.number ≢ q) → has_name (name k q) x ≡ false
not_named x k q f =
    elim (cases_eq x.member k) as (λ _. has_name (name k q) x ≡ false) [
      | inl e ↦ (let t : eqb x.member k ≡ true = eq-eqb x.member k e in let u : eqb x.number q ≡ false = ne_eqb x.number q (f e) in rw (t, u) refl)
      | inr ne ↦ (let t : eqb x.member k ≡ false = ne_eqb x.member k ne in rw t refl)
    ]

-- each number up to the count is there, and what holds of all holds of it
pub found : (P : Change → Type 0) (k q : ℕ) (before xs : List Change) → EachAfter Numbered before xs → AllByRecursion P xs → count_of before k < q → q ≤ count_of (before ++ xs) k
    → (x : Change) × (find (has_name (name k q)) xs ≡ Some x) × P x
found P k q before [] h p l m = absurd (let e = ap (λ t. count_of t k) (append-nil before) in omega arith)
found P k q before (x ∷ xs) h p l m =
    let count = count_one before x k in
    let m' : q ≤ count_of ((before ++ x ∷ []) ++ xs) k = subst (λ t. q ≤ count_of t k) (sym (append_assoc before (x ∷ []) xs)) m in
    elim (cases_eq x.member k) as (λ _. (y : Change) × (find (has_name (name k q)) (x ∷ xs) ≡ Some y) × P y) [
      | inl e ↦
          let t : eqb x.member k ≡ true = eq-eqb x.member k e in
          let one = is_one x k e in
          let number : x.number ≡ count_of before k + 1 = h.0 ∙ ap (λ m. count_of before m + 1) e in
          elim (cases_eq x.number q) as (λ _. (y : Change) × (find (has_name (name k q)) (x ∷ xs) ≡ Some y) × P y) [
            | inl same ↦ (let u : eqb x.number q ≡ true = eq-eqb x.number q same in let is : find (has_name (name k q)) (x ∷ xs) ≡ Some x = rw (t, u) refl in (x, is, p.0))
            | inr other ↦
                let rest = found P k q (before ++ x ∷ []) xs h.1 p.1 (omega arith) m' in
                let skip : has_name (name k q) x ≡ false = not_named x k q (λ _. other) in
                let is : find (has_name (name k q)) (x ∷ xs) ≡ Some rest.0 = rw skip rest.1 in
                (rest.0, is, rest.2)
          ]
      | inr ne ↦
          let t : eqb x.member k ≡ false = ne_eqb x.member k ne in
          let none = is_none x k ne in
          let rest = found P k q (before ++ x ∷ []) xs h.1 p.1 (omega arith) m' in
          let skip : has_name (name k q) x ≡ false = not_named x k q (λ e. absurd (ne e)) in
          let is : find (has_name (name k q)) (x ∷ xs) ≡ Some rest.0 = rw skip rest.1 in
          (rest.0, is, rest.2)
    ]

pub find_first : {A : Type 0} (p : A → Bool) (xs ys : List A) (x : A) → find p xs ≡ Some x → find p (xs ++ ys) ≡ Some x
find_first p [] ys x e = absurd cc
find_first p (a ∷ xs) ys x e = elim (p a) as (λ b. cond b (Some a) (find p xs) ≡ Some x → cond b (Some a) (find p (xs ++ ys)) ≡ Some x) [ true ↦ λ k. k | false ↦ λ k. find_first p xs ys x k ] e

pub find_skips : {A : Type 0} (p : A → Bool) (xs ys : List A) → AllByRecursion (λ x. p x ≡ false) xs → find p (xs ++ ys) ≡ find p ys
find_skips p [] ys h = refl
find_skips p (x ∷ xs) ys h = let n : p x ≡ false = h.0 in rw n (find_skips p xs ys h.1)

find_without : {A : Type 0} (p : A → Bool) (xs ys : List A) (x : A) → p x ≡ false → find p (xs ++ x ∷ ys) ≡ find p (xs ++ ys)
find_without p [] ys x n = rw n refl
find_without p (a ∷ xs) ys x n = elim (p a) as (λ b. cond b (Some a) (find p (xs ++ x ∷ ys)) ≡ cond b (Some a) (find p (xs ++ ys))) [ true ↦ refl | false ↦ find_without p xs ys x n ]

-- ---- what refers right in a sound ledger

pub atoms-append : (xs ys : List Change) → atoms (xs ++ ys) ≡ atoms xs ++ atoms ys
atoms-append xs ys = flat_map-append change_atoms xs ys

pub change_single : (c : Change) → AllSingle (change_atoms c)
change_single c = all_single (by_ids c.time c.member 0 c.operations)

pub atoms_single : (h : List Change) → AllSingle (atoms h)
atoms_single [] = tt
atoms_single (c ∷ h) = all_append (λ b. IsSingle b.operation) (change_atoms c) (atoms h) (change_single c) (atoms_single h)

-- the operations of each change refer right in the replay of those before it
abbrev pub Refers : List Change → Change → Type 0
Refers before c = WholeRight (replay before) (by_ids c.time c.member 0 c.operations)

pub replay_done : (before : List Change) (c : Change) → Refers before c → replay (before ++ c ∷ []) ≡ all_done (replay before) (change_atoms c)
replay_done before c r =
    replay-append before (c ∷ []) ∙ ap (after (replay before)) (append-nil (change_atoms c)) ∙ after_right (replay before) (change_atoms c) (whole_right (replay before) (by_ids c.time c.member 0 c.operations) r)

pub right_along : (before h : List Change) → EachAfter Refers before h → RightAlong (replay before) (atoms h)
right_along before [] e = tt
right_along before (c ∷ h) e =
    right_both (replay before) (change_atoms c) (atoms h) (whole_right (replay before) (by_ids c.time c.member 0 c.operations) e.0)
    (subst (λ u. RightAlong u (atoms h)) (replay_done before c e.0) (right_along (before ++ c ∷ []) h e.1))

pub back_of : (P : List Change → Change → Type 0) (before xs ys : List Change) → EachAfter P before (xs ++ ys) → EachAfter P (before ++ xs) ys
back_of P before [] ys h = subst (λ b. EachAfter P b ys) (sym (append-nil before)) h
back_of P before (x ∷ xs) ys h = subst (λ b. EachAfter P b ys) (append_assoc before (x ∷ []) xs) (back_of P (before ++ x ∷ []) xs ys h.1)

pub joins_refers : (n : ℕ) (before : List Change) (c : Change) → Joins n before c → Refers before c
joins_refers n before c j = whole_from (replay before) 0 (by_ids c.time c.member 0 c.operations) (fitting n (held n before) c j.fitting).refers

pub joins_numbered : (n : ℕ) (before : List Change) (c : Change) → Joins n before c → Numbered before c
joins_numbered n before c j = (ready_from n before c j.ready).is_next

-- one after the other
pub each_both : (P : List Change → Change → Type 0) (before xs ys : List Change) → EachAfter P before xs → EachAfter P (before ++ xs) ys → EachAfter P before (xs ++ ys)
each_both P before [] ys h k = subst (λ b. EachAfter P b ys) (append-nil before) k
each_both P before (x ∷ xs) ys h k = (h.0, each_both P (before ++ x ∷ []) xs ys h.1 (subst (λ b. EachAfter P b ys) (sym (append_assoc before (x ∷ []) xs)) k))

-- what the ids of a change's operations and characters reach
pub reach_from : (P : OpId → Type 0) (t m i : ℕ) (os : List Operation) → ((j : OpId) → stamp_of j ≡ record { time = t; member = m } → Reaches P j) → AllReach P (by_ids t m i os)
reach_from P t m i [] f = tt
reach_from P t m i (o ∷ os) f =
    let id : OpId = record { time = t; member = m; index = i } in
    ((f id refl, all_more (IsIn (record { time = t; member = m }) i (i + width_of o)) (λ b. Reaches P b.id) (λ b h. f b.id h.stamp) (apart id o) (apart_in id o)), reach_from P t m (i + width_of o) os f)

-- ---- the two parts of a ledger, and the change between them

pub record Parts (n : ℕ) (front back : List Change) (c : Change) : Type 0 where
  pub each : EachAfter (Joins n) [] (front ++ back)
  pub joins : Joins n (front ++ back) c
  pub among : IsAmong n c
  pub front_before : AllByRecursion (λ d. is_before d c ≡ true) front
  pub back_after : AllByRecursion (λ d. is_before c d ≡ true) back
  pub back_others : AllByRecursion (λ d. d.member ≢ c.member) back
  pub back_members : AllByRecursion (λ d. d.member < n) back

module _ (n : ℕ) (front back : List Change) (c : Change) (p : Parts n front back c) where
  ready : Ready n (front ++ back) c
  ready = ready_from n (front ++ back) c p.joins.ready

  fits_here : Fitting n (held n (front ++ back)) c
  fits_here = fitting n (held n (front ++ back)) c p.joins.fitting

  numbered : EachAfter Numbered [] (front ++ back)
  numbered = each_more (Joins n) Numbered (joins_numbered n) [] (front ++ back) p.each

  refers : EachAfter Refers [] (front ++ back)
  refers = each_more (Joins n) Refers (joins_refers n) [] (front ++ back) p.each

  none_behind : own c.member back ≡ []
  none_behind = filter_none (λ d. eqb d.member c.member) back (all_more (λ d. d.member ≢ c.member) (λ d. eqb d.member c.member ≡ false) (λ d ne. ne_eqb d.member c.member ne) back p.back_others)

  -- its member's last change is in front
  same_last : last_change front c.member ≡ last_change (front ++ back) c.member
  same_last =
      sym (ap (last_or None) (filter-append (λ d. eqb d.member c.member) front back) ∙ last_or-append None (own c.member front) (own c.member back) ∙ ap (last_or (last_or None (own c.member front))) none_behind)

  none_counted : (ys : List Change) (m : ℕ) → AllByRecursion (λ d. d.member ≢ m) ys → count_of ys m ≡ 0
  none_counted [] m h = refl
  none_counted (y ∷ ys) m h = sum_by-cons (λ d. cond (eqb d.member m) 1 0) y ys ∙ omega (arith, is_none y m h.0, none_counted ys m h.1)

  same_count : count_of front c.member ≡ count_of (front ++ back) c.member
  same_count = omega (arith, count_of-append front back c.member, none_counted back c.member p.back_others)

  -- each of its causes is in front
  cause_in_front : (k : ℕ) → slice_index c.causes k ≤ count_of (front ++ back) k → late_cause (held n (front ++ back)) c k ≡ None → slice_index c.causes k ≤ count_of front k
  cause_in_front k l e =
      elim (cases_lt (count_of front k) (slice_index c.causes k)) as (λ _. slice_index c.causes k ≤ count_of front k) [
        | inr ge ↦ ge
        | inl more ↦
            let q = slice_index c.causes k in
            let numbers = numbers_most k [] front (EachAfter-front Numbered [] front back numbered) in
            let skipped = all_more (λ x. x.member ≡ k → x.number ≤ count_of front k) (λ x. has_name (name k q) x ≡ false) (λ x f. not_named x k q (λ e same. let b = f e in omega arith)) front numbers in
            let behind = found (λ d. c.time ≤ d.time) k q front back (back_of Numbered [] front back numbered) (all_more (λ d. is_before c d ≡ true) (λ d. c.time ≤ d.time) (λ d b. stamp_times (change_stamp c) (change_stamp d) (less_from_is_lt _ b)) back p.back_after) more l in
            let time : time_of (front ++ back) (name k q) ≡ behind.0.time = ap (λ o. option_map_or (λ d. d.time) o 0) (find_skips (has_name (name k q)) front back skipped ∙ behind.1) in
            let late : c.time ≤ time_of (front ++ back) (name k q) = subst (λ t. c.time ≤ t) (sym time) behind.2 in
            let some : eqb q 0 ≡ false = ne_eqb q 0 (λ z. omega arith) in
            let not_earlier : ltb (time_of (front ++ back) (name k q)) c.time ≡ false = le-ltb _ _ late in
            let bad : Some (before_cause k (time_of (front ++ back) (name k q)) c.time) ≡ None = rw (some, not_earlier) at e in
            absurd cc
      ]

  ready_in_front : Ready n front c
  ready_in_front = record {
    is_next = ready.is_next ∙ ap (λ m. m + 1) (sym same_count);
    causes = all_more (λ k. (slice_index c.causes k ≤ count_of (front ++ back) k) × (late_cause (held n (front ++ back)) c k ≡ None)) (λ k. slice_index c.causes k ≤ count_of front k) (λ k h. cause_in_front k h.0 h.1) (members n)
        (all_both (λ k. slice_index c.causes k ≤ count_of (front ++ back) k) (λ k. late_cause (held n (front ++ back)) c k ≡ None) (members n) ready.causes fits_here.causes_before);
  }

  cause_before : (k : ℕ) → slice_index c.causes k ≤ count_of front k → late_cause (held n (front ++ back)) c k ≡ None → late_cause (held n front) c k ≡ None
  cause_before k l e =
      let q = slice_index c.causes k in
      elim (cases_lt 0 q) as (λ _. late_cause (held n front) c k ≡ None) [
        | inl some ↦
            let there = found (λ d. Unit {0}) k q [] front (EachAfter-front Numbered [] front back numbered) (all_of_any (λ d. Unit {0}) (λ d. tt) front) some l in
            let same : time_of front (name k q) ≡ time_of (front ++ back) (name k q) = ap (λ o. option_map_or (λ d. d.time) o 0) (there.1 ∙ sym (find_first (has_name (name k q)) front back there.0 there.1)) in
            subst (λ t. (cond (eqb q 0 || ltb t c.time) None (Some (before_cause k t c.time))) ≡ None) (sym same) e
        | inr none ↦ (let z : eqb q 0 ≡ true = eq-eqb q 0 (omega arith) in rw z refl)
      ]

  -- ---- its operations refer right in front

  stamps_before : (list : List Change) (q : OpId) → AllByRecursion (λ d. stamp_lt (stamp_of q) (change_stamp d) ≡ true) list → BeforeAll (atoms list) q
  stamps_before [] q h = tt
  stamps_before (d ∷ list) q h =
      all_append (λ b. id_lt q b.id ≡ true) (change_atoms d) (atoms list)
      (all_more (IsFrom (change_stamp d) 0) (λ b. id_lt q b.id ≡ true) (λ b from. lt_from_stamps q b.id (ap (stamp_lt (stamp_of q)) from.stamp ∙ h.0)) (change_atoms d) (all_from d.time d.member 0 d.operations))
      (stamps_before list q h.1)

  refers_here : WholeRight (replay (front ++ back)) (by_ids c.time c.member 0 c.operations)
  refers_here = whole_from (replay (front ++ back)) 0 (by_ids c.time c.member 0 c.operations) fits_here.refers

  pub back_right : RightAlong (replay front) (atoms back)
  back_right = right_along front back (back_of Refers [] front back refers)

  pub refers_in_front : WholeRight (replay front) (by_ids c.time c.member 0 c.operations)
  refers_in_front =
      let whole : replay (front ++ back) ≡ all_done (replay front) (atoms back) = replay-append front back ∙ after_right (replay front) (atoms back) back_right in
      whole_more (BeforeAll (atoms back)) (all_done (replay front) (atoms back)) (replay front) (by_ids c.time c.member 0 c.operations)
      (reach_from (BeforeAll (atoms back)) c.time c.member 0 c.operations (λ j at q l. all_more (λ b. id_lt j b.id ≡ true) (λ b. id_lt q b.id ≡ true) (λ b k. lt_trans q j b.id l k) (atoms back)
      (stamps_before back j (all_more (λ d. is_before c d ≡ true) (λ d. stamp_lt (stamp_of j) (change_stamp d) ≡ true) (λ d k. ap (λ s. stamp_lt s (change_stamp d)) at ∙ k) back p.back_after))))
      (had_right (replay front) (atoms back) (atoms_single back) back_right)
      (subst (λ u. WholeRight u (by_ids c.time c.member 0 c.operations)) whole refers_here)

  joins_in_front : Joins n front c
  joins_in_front = record {
    ready = ready_to n front c ready_in_front;
    fitting = fits_from n (held n front) c (record {
      later = subst (λ o. option_map_or (λ d. d.time) o 0 < c.time) (sym same_last) fits_here.later;
      remembers = subst (λ o. AllByRecursion (λ k. slice_index (option_map_or known_by o (replicate n 0)) k ≤ slice_index c.causes k) (members n)) (sym same_last) fits_here.remembers;
      causes_before = all_more (λ k. (slice_index c.causes k ≤ count_of front k) × (late_cause (held n (front ++ back)) c k ≡ None)) (λ k. late_cause (held n front) c k ≡ None) (λ k h. cause_before k h.0 h.1) (members n)
          (all_both (λ k. slice_index c.causes k ≤ count_of front k) (λ k. late_cause (held n (front ++ back)) c k ≡ None) (members n) ready_in_front.causes fits_here.causes_before);
      refers = whole_to (replay front) 0 (by_ids c.time c.member 0 c.operations) refers_in_front;
    });
  }

  -- ---- a change behind it joins as before

  module _ (mid : List Change) (x : Change) (more : List Change) (is : back ≡ mid ++ x ∷ more) where
    old : List Change
    old = front ++ mid

    new : List Change
    new = (front ++ c ∷ []) ++ mid

    was : Joins n (front ++ mid) x
    was = EachAfter-at (Joins n) [] (front ++ mid) x more (subst (λ l. EachAfter (Joins n) [] l) (ap (λ l. front ++ l) is ∙ sym (append_assoc front mid (x ∷ more))) p.each)

    other : x.member ≢ c.member
    other = (all_back (λ d. d.member ≢ c.member) mid (x ∷ more) (subst (λ l. AllByRecursion (λ d. d.member ≢ c.member) l) is p.back_others)).0

    counted : (k : ℕ) → count_of ((front ++ c ∷ []) ++ mid) k ≡ count_of (front ++ mid) k + one_of c k
    counted k = omega (arith, count_of-append (front ++ c ∷ []) mid k, count_of-append front mid k, count_one front c k)

    fewer : (k : ℕ) → count_of (front ++ mid) k ≤ count_of (front ++ back) k
    fewer k = let e = ap (λ l. count_of (front ++ l) k) is in omega (arith, count_of-append front mid k, count_of-append front (mid ++ x ∷ more) k, count_of-append mid (x ∷ more) k)

    last_stays : last_change ((front ++ c ∷ []) ++ mid) x.member ≡ last_change (front ++ mid) x.member
    last_stays =
        let t : eqb c.member x.member ≡ false = ne_eqb c.member x.member (λ e. other (sym e)) in
        let without : own x.member front ++ own x.member (c ∷ mid) ≡ own x.member front ++ own x.member mid = rw t refl in
        let all : own x.member ((front ++ c ∷ []) ++ mid) ≡ own x.member (front ++ mid) =
        ap (own x.member) (append_assoc front (c ∷ []) mid) ∙ filter-append (λ d. eqb d.member x.member) front (c ∷ mid) ∙ without ∙ sym (filter-append (λ d. eqb d.member x.member) front mid) in
        ap (last_or None) all

    was_ready : Ready n (front ++ mid) x
    was_ready = ready_from n (front ++ mid) x was.ready

    was_fitting : Fitting n (held n (front ++ mid)) x
    was_fitting = fitting n (held n (front ++ mid)) x was.fitting

    still_ready : Ready n ((front ++ c ∷ []) ++ mid) x
    still_ready = record {
      is_next = was_ready.is_next ∙ (let e = counted x.member in let z = is_none c x.member (λ s. other (sym s)) in omega arith);
      causes = all_more (λ k. slice_index x.causes k ≤ count_of (front ++ mid) k) (λ k. slice_index x.causes k ≤ count_of ((front ++ c ∷ []) ++ mid) k) (λ k l. let e = counted k in omega arith) (members n) was_ready.causes;
    }

    same_cause : (k : ℕ) → slice_index x.causes k ≤ count_of (front ++ mid) k → late_cause (held n (front ++ mid)) x k ≡ None → late_cause (held n ((front ++ c ∷ []) ++ mid)) x k ≡ None
    same_cause k l e =
        let q = slice_index x.causes k in
        let skip : has_name (name k q) c ≡ false = not_named c k q (λ m same. let r = ready.is_next in let u = ap (count_of (front ++ back)) m in let v = fewer k in omega arith) in
        let same : time_of ((front ++ c ∷ []) ++ mid) (name k q) ≡ time_of (front ++ mid) (name k q) =
        ap (λ o. option_map_or (λ d. d.time) o 0) (ap (find (has_name (name k q))) (append_assoc front (c ∷ []) mid) ∙ find_without (has_name (name k q)) front mid c skip) in
        subst (λ t. (cond (eqb q 0 || ltb t x.time) None (Some (before_cause k t x.time))) ≡ None) (sym same) e

    -- what it refers to is still there
    mid_right : RightAlong (replay front) (atoms mid)
    mid_right = right_front (replay front) (atoms mid) (atoms (x ∷ more)) (subst (RightAlong (replay front)) (ap atoms is ∙ atoms-append mid (x ∷ more)) back_right)

    still_refers : WholeRight (replay ((front ++ c ∷ []) ++ mid)) (by_ids x.time x.member 0 x.operations)
    still_refers =
        let u = replay front in
        let v = all_done u (change_atoms c) in
        let follows = right_more Any u v (atoms mid) (atoms_single mid) (all_of_any (λ a. Reaches Any a.id) (λ a q l. tt) (atoms mid)) (has_after u (change_atoms c) (change_single c)) mid_right in
        let before : replay (front ++ mid) ≡ all_done u (atoms mid) = replay-append front mid ∙ after_right u (atoms mid) mid_right in
        let behind : replay ((front ++ c ∷ []) ++ mid) ≡ all_done v (atoms mid) =
        replay-append (front ++ c ∷ []) mid ∙ ap (λ s. after s (atoms mid)) (replay_done front c refers_in_front) ∙ after_right v (atoms mid) follows.right in
        subst (λ s. WholeRight s (by_ids x.time x.member 0 x.operations)) (sym behind)
        (whole_more Any (all_done u (atoms mid)) (all_done v (atoms mid)) (by_ids x.time x.member 0 x.operations) (reach_from Any x.time x.member 0 x.operations (λ j at q l. tt)) follows.has
        (subst (λ s. WholeRight s (by_ids x.time x.member 0 x.operations)) before (whole_from (replay (front ++ mid)) 0 (by_ids x.time x.member 0 x.operations) was_fitting.refers)))

    still_joins : Joins n ((front ++ c ∷ []) ++ mid) x
    still_joins = record {
      ready = ready_to n ((front ++ c ∷ []) ++ mid) x still_ready;
      fitting = fits_from n (held n ((front ++ c ∷ []) ++ mid)) x (record {
        later = subst (λ o. option_map_or (λ d. d.time) o 0 < x.time) (sym last_stays) was_fitting.later;
        remembers = subst (λ o. AllByRecursion (λ k. slice_index (option_map_or known_by o (replicate n 0)) k ≤ slice_index x.causes k) (members n)) (sym last_stays) was_fitting.remembers;
        causes_before = all_more (λ k. (slice_index x.causes k ≤ count_of (front ++ mid) k) × (late_cause (held n (front ++ mid)) x k ≡ None)) (λ k. late_cause (held n ((front ++ c ∷ []) ++ mid)) x k ≡ None) (λ k h. same_cause k h.0 h.1) (members n)
            (all_both (λ k. slice_index x.causes k ≤ count_of (front ++ mid) k) (λ k. late_cause (held n (front ++ mid)) x k ≡ None) (members n) was_ready.causes was_fitting.causes_before);
        refers = whole_to (replay ((front ++ c ∷ []) ++ mid)) 0 (by_ids x.time x.member 0 x.operations) still_refers;
      });
    }

  each_joins : EachAfter (Joins n) [] (front ++ c ∷ back)
  each_joins =
      each_both (Joins n) [] front (c ∷ back) (EachAfter-front (Joins n) [] front back p.each)
      (joins_in_front, EachAfter-from_at (Joins n) (front ++ c ∷ []) back (λ mid x more is. still_joins mid x more is))

-- ---- the law

pub rises_between : (c : Change) (front back : List Change) → InOrder front → AllByRecursion (λ d. is_before d c ≡ true) front → InOrder back → AllByRecursion (λ d. is_before c d ≡ true) back → InOrder (front ++ c ∷ back)
rises_between c [] back r e s l = (l, s)
rises_between c (a ∷ front) back r e s l = (all_append (λ d. is_before a d ≡ true) front (c ∷ back) r.0 (e.0, all_later a c back e.0 l), rises_between c front back r.1 e.1 s l)

pub order_kept : (test : Change → Bool) (h : List Change) → InOrder h → InOrder (filter test h)
order_kept test [] r = tt
order_kept test (a ∷ h) r =
    elim (test a) as (λ b. InOrder (cond b (a ∷ filter test h) (filter test h))) [ true ↦ (all_kept (λ b. is_before a b ≡ true) test h r.0, order_kept test h r.1) | false ↦ order_kept test h r.1 ]

-- a ledger in the two parts between which a change comes
pub parts_of : (n : ℕ) (h : List Change) (c : Change) → Sound n h → IsAmong n c → Joins n h c → Parts n (earlier c h) (later c h) c
parts_of n h c sound among joins =
    let r = order_from h sound.in_order in
    let l = is_last h c r (fitting n (held n h) c joins.fitting).later in
    let two = in_two c h r l in
    record {
      each = subst (λ t. EachAfter (Joins n) [] t) two sound.each;
      joins = subst (λ t. Joins n t c) two joins;
      among = among;
      front_before = all_pass (λ d. is_before d c) h;
      back_after = all_pass (λ d. is_before c d) h;
      back_others = later_others h c l;
      back_members = all_kept (λ d. d.member < n) (λ d. is_before c d) h (all_more (IsAmong n) (λ d. d.member < n) (λ d a. a.member) h sound.among);
    }

pub stays_sound : StaysSound
stays_sound n h c sound among joins =
    let r = order_from h sound.in_order in
    let front = earlier c h in
    let back = later c h in
    let parts = parts_of n h c sound among joins in
    record {
      in_order = to_order (front ++ c ∷ back) (rises_between c front back (order_kept (λ d. is_before d c) h r) parts.front_before (order_kept (λ d. is_before c d) h r) parts.back_after);
      among = all_append (IsAmong n) front (c ∷ back) (all_kept (IsAmong n) (λ d. is_before d c) h sound.among) (among, all_kept (IsAmong n) (λ d. is_before c d) h sound.among);
      each = each_joins n front back c parts;
    }
