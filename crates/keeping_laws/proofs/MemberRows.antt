-- The rows of members: what they say of each agrees, and each is in form.
use Rattle.std.proofs.Common.{◌≡◌, ℕ, zero, suc, ◌+◌, ◌-◌, ◌<◌, ◌≤◌, ◌^◌, true, false, cond, eqb, List, [], ◌∷◌, ◌++◌, length, map, max, get_or, set, refl, sym, ap, subst, ◌∙◌, arith, inl, inr}
use Rattle.std.specs.Prelude.{Option, Some, None, slice_get, slice_index, replicate, filter, unwrap_or, IfSome}
use Rattle.std.specs.List.{AllByRecursion, last_or, range_with_len}
use Rattle.std.specs.Option.{option_map_or}
use Rattle.std.proofs.lemmas.Bool.{cases_eq, cases_lt, eq-eqb, eqb-true, ne_eqb}
use Rattle.std.proofs.lemmas.List.{get_or-replicate, get_or-set_same, get_or_past, length-set, length-replicate}
use Rattle.std.proofs.lemmas.List.Sums.{sum_by-cons}
use Rattle.std.proofs.lemmas.List.FromFn.{length-map-range_with_len}
use Rattle.std.proofs.lemmas.Option.{same_Some, slice_get_within}
use Rattle.model.specs.Base.{Base, MemberRow, count_of, known_by, known_of, last_change, last_of, member_row, rows_of_changes}
use Rattle.model.specs.BaseItem.{BaseParts, IsMemberRow, RowAgrees, RowsAgree, Tables}
use Rattle.model.specs.Change.{Change, IsChange}
use Rattle.model.specs.Ledger.{Sound, IsAmong, Joins}
use Rattle.model.specs.State.{replay}
use Rattle.model_laws.proofs.ChangeLaws.{all_from_EachAfter}
use Rattle.model_laws.proofs.ListLaws.{all_both, all_more, last_passing, option_map_or_either}
use Rattle.arrival_laws.proofs.InLaws.{In, all_in}
use Rattle.arrival_laws.proofs.ReadLaws.{Halves, last_number, row_at, rows_agree}
use Rattle.arrival_laws.proofs.SoundLaws.{Numbered, each_more, is_none, joins_numbered, ready_from}
use Rattle.arrival_laws.proofs.StableLaws.{of_member}
use Rattle.ledger_laws.proofs.FileLaws.{timed}
use Rattle.ledger_laws.proofs.KnownLaws.{knows_most}
use Rattle.ledger_laws.proofs.RowLaws.{if_there}

-- ---- lists of numbers

each_set : (limit i v : ℕ) (ks : List ℕ) → v < limit → AllByRecursion (λ k. k < limit) ks → AllByRecursion (λ k. k < limit) (set ks i v)
each_set limit i v [] l h = tt
each_set limit zero v (k ∷ ks) l h = (l, h.1)
each_set limit (suc i) v (k ∷ ks) l h = (h.0, each_set limit i v ks l h.1)

each_get : (limit i : ℕ) (ks : List ℕ) → 0 < limit → AllByRecursion (λ k. k < limit) ks → get_or ks i 0 < limit
each_get limit i [] l h = l
each_get limit zero (k ∷ ks) l h = h.0
each_get limit (suc i) (k ∷ ks) l h = each_get limit i ks l h.1

no_zeros : (n k : ℕ) → get_or {A = ℕ} (replicate n 0) k 0 ≡ 0
no_zeros n k = elim (cases_lt k n) as (λ _. get_or {A = ℕ} (replicate n 0) k 0 ≡ 0) [ inl l ↦ get_or-replicate n k 0 0 l | inr ge ↦ get_or_past (replicate n 0) k 0 (omega (arith, length-replicate {A = ℕ} n 0)) ]

-- ---- last changes

-- a member without a last change made none
last_none : (o : Option Change) (h : List Change) (m : ℕ) → last_or o (filter (λ c. eqb c.member m) h) ≡ None → (o ≡ None) × (count_of h m ≡ 0)
last_none o [] m e = (e, refl)
last_none o (x ∷ h) m e =
    elim (cases_eq x.member m) as (λ _. (o ≡ None) × (count_of (x ∷ h) m ≡ 0)) [
      | inl same ↦
          let t : eqb x.member m ≡ true = eq-eqb x.member m same in
          let e' : last_or (Some x) (filter (λ c. eqb c.member m) h) ≡ None = rw t at e in
          let bad : Some x ≡ None = (last_none (Some x) h m e').0 in
          absurd cc
      | inr ne ↦
          let t : eqb x.member m ≡ false = ne_eqb x.member m ne in
          let e' : last_or o (filter (λ c. eqb c.member m) h) ≡ None = rw t at e in
          let rest = last_none o h m e' in
          let first = is_none x m ne in
          (rest.0, sum_by-cons (λ d. cond (eqb d.member m) 1 0) x h ∙ omega (arith, rest.1))
    ]

-- what a sound ledger has of each change in it
record Own (n : ℕ) (x : Change) : Type 0 where
  member : x.member < n
  causes : length x.causes ≡ n
  less : slice_index x.causes x.member < x.number
  some : 1 ≤ x.time

own_each : (n : ℕ) (h : List Change) → Sound n h → AllByRecursion (Own n) h
own_each n h sound =
    let less = all_from_EachAfter (Joins n) (λ all x. x.member < n → slice_index x.causes x.member < x.number)
    (λ front x more j lt. let r = ready_from n front x j.ready in let c = of_member (λ k. slice_index x.causes k ≤ count_of front k) n x.member r.causes lt in let e = r.is_next in omega arith) [] h sound.each in
    all_more (λ x. IsAmong n x × ((x.member < n → slice_index x.causes x.member < x.number) × (1 ≤ x.time))) (Own n) (λ x p. record { member = p.0.member; causes = p.0.causes; less = p.1.0 p.0.member; some = p.1.1 }) h
    (all_both (IsAmong n) (λ x. (x.member < n → slice_index x.causes x.member < x.number) × (1 ≤ x.time)) h sound.among (all_both (λ x. x.member < n → slice_index x.causes x.member < x.number) (λ x. 1 ≤ x.time) h less (timed n h sound)))

-- a member's last change
record Last (n : ℕ) (h : List Change) (m : ℕ) (x : Change) : Type 0 where
  member : x.member ≡ m
  own : Own n x
  number : x.number ≡ count_of h m

last_is : (n : ℕ) (h : List Change) (m : ℕ) → Sound n h → IfSome (last_change h m) (Last n h m)
last_is n h m sound =
    let number = last_number [] h m None (each_more (Joins n) Numbered (joins_numbered n) [] h sound.each) tt in
    let here = last_passing (λ x. (x.member ≡ m) × Own n x) (λ x. eqb x.member m) None h tt (all_more (Own n) (λ x. eqb x.member m ≡ true → (x.member ≡ m) × Own n x) (λ x o t. (eqb-true x.member m t, o)) h (own_each n h sound)) in
    elim (last_change h m) as (λ o. IfSome o (λ d. d.number ≡ count_of h m) → IfSome o (λ x. (x.member ≡ m) × Own n x) → IfSome o (Last n h m)) [
      | None ↦ λ _ _. tt
      | Some x ↦ λ e p. record { member = p.0; own = p.1; number = e }
    ] number here

-- ---- the rows agree

module _ (n : ℕ) (h : List Change) (T : ℕ) (sound : Sound n h) (by : AllByRecursion (λ d. d.time ≤ T) h) (tables : Tables) where
  abbrev parts : BaseParts
  parts = record { horizon = T; rows = rows_of_changes n h; tables = tables }

  row_of : (m : ℕ) (r : MemberRow) → slice_get (rows_of_changes n h) m ≡ Some r → (m < n) × (member_row n h m ≡ r)
  row_of m r e =
      let within = slice_get_within (rows_of_changes n h) m r e in
      let lt : m < n = omega (arith, length-map-range_with_len (member_row n h) 0 n) in
      let at : slice_get (rows_of_changes n h) (m - 0) ≡ Some (member_row n h m) = row_at (member_row n h) 0 n m (omega arith) (omega arith) in
      let z : m - 0 ≡ m = omega arith in
      let at' : slice_get (rows_of_changes n h) m ≡ Some (member_row n h m) = rw z at at in
      (lt, same_Some (member_row n h m) r (sym at' ∙ e))

  known_at : (m k : ℕ) → m < n → k < n → slice_index (known_of n h m) k ≤ count_of h k
  known_at m k lm lk = knows_most n h h m sound (all_more (In h) (λ x. x.member ≡ m → In h x) (λ x i _. i) h (all_in h)) k lk

  own_is : (m : ℕ) → slice_index (known_of n h m) m ≡ count_of h m
  own_is m =
      elim (last_change h m) as (λ o. last_change h m ≡ o → IfSome o (Last n h m) → slice_index (option_map_or known_by o (replicate n 0)) m ≡ count_of h m) [
        | None ↦ λ e _. no_zeros n m ∙ sym (last_none None h m e).1
        | Some x ↦ λ e l.
            let inside : x.member < length x.causes = (let a = l.own.member in let b = l.own.causes in omega arith) in
            let at : get_or (known_by x) x.member 0 ≡ max (slice_index x.causes x.member) x.number = get_or-set_same x.causes x.member _ 0 inside in
            let less : slice_index x.causes x.member < x.number = l.own.less in
            let at' : get_or (known_by x) m 0 ≡ max (slice_index x.causes x.member) x.number = ap (λ k. get_or (known_by x) k 0) (sym l.member) ∙ at in
            at' ∙ (let e = l.number in omega arith)
      ] refl (last_is n h m sound)

  made_none : (m : ℕ) → count_of h m ≡ 0 → (last_of h m ≡ 0) × ((k : ℕ) → slice_index (known_of n h m) k ≡ 0)
  made_none m none =
      elim (last_change h m) as (λ o. IfSome o (Last n h m) → (option_map_or (λ c. c.time) o 0 ≡ 0) × ((k : ℕ) → slice_index (option_map_or known_by o (replicate n 0)) k ≡ 0)) [
        | None ↦ λ _. (refl, λ k. no_zeros n k)
        | Some x ↦ λ l. absurd (let e = l.number in let s = l.own.less in omega arith)
      ] (last_is n h m sound)

  no_last : (m : ℕ) → last_of h m ≡ 0 → count_of h m ≡ 0
  no_last m none =
      elim (last_change h m) as (λ o. last_change h m ≡ o → IfSome o (Last n h m) → option_map_or (λ c. c.time) o 0 ≡ 0 → count_of h m ≡ 0) [
        | None ↦ λ e _ _. (last_none None h m e).1
        | Some x ↦ λ e l z. absurd (let s = l.own.some in omega arith)
      ] refl (last_is n h m sound) none

  agrees : (m : ℕ) → m < n → RowAgrees parts m (member_row n h m)
  agrees m lt = record {
    last = option_map_or_either (λ t. t ≤ T) (λ (c : Change). c.time) (last_change h m) 0 (omega arith) (last_passing (λ x. x.time ≤ T) (λ x. eqb x.member m) None h tt (all_more (λ x. x.time ≤ T) (λ x. eqb x.member m ≡ true → x.time ≤ T) (λ x l _. l) h by));
    own = own_is m;
    known = λ k other e. (let r = row_of k other e in subst (λ (x : MemberRow). slice_index (known_of n h m) k ≤ x.count) r.1 (known_at m k lt r.0));
    made_none = made_none m;
    no_last = no_last m;
  }

  pub rows_all_agree : RowsAgree parts
  rows_all_agree m r e = let k = row_of m r e in subst (RowAgrees parts m) k.1 (agrees m k.0)

-- ---- the rows are in form

row_by_change : (n : ℕ) (c : Change) → IsChange n c → IsMemberRow n (record { count = c.number; last = c.time; known = known_by c })
row_by_change n c is =
    let own = each_get (2 ^ 32) c.member c.causes (omega arith) is.causes_most in
    let number : c.number < 2 ^ 32 = is.number_most in record {
      count = is.number_most;
      last = is.time_most;
      known_each = length-set c.causes c.member _ ∙ is.causes_each;
      known_most = each_set (2 ^ 32) c.member (max (slice_index c.causes c.member) c.number) c.causes (omega arith) is.causes_most;
    }

-- of a ledger in two parts, whose first part has rows in form and whose second part has changes in form
pub row_formed : (n : ℕ) (early kept : List Change) (T : ℕ) → Halves n early kept T → AllByRecursion (IsMemberRow n) (rows_of_changes n early) → AllByRecursion (IsChange n) kept → (m : ℕ) → m < n → IsMemberRow n (member_row n (early ++ kept) m)
row_formed n early kept T halves rows each m lt =
    let base : Base = record { horizon = T; rows = rows_of_changes n early; state = replay early } in
    let at : slice_get (rows_of_changes n early) (m - 0) ≡ Some (member_row n early m) = row_at (member_row n early) 0 n m (omega arith) (omega arith) in
    let z : m - 0 ≡ m = omega arith in
    let at' : slice_get (rows_of_changes n early) m ≡ Some (member_row n early m) = rw z at at in
    let first : IsMemberRow n (member_row n early m) = subst (λ o. IfSome o (IsMemberRow n)) at' (if_there (IsMemberRow n) (rows_of_changes n early) m rows) in
    let none : MemberRow = record { count = 0; last = 0; known = [] } in
    let last : IfSome (last_change kept m) (IsChange n) = last_passing (IsChange n) (λ x. eqb x.member m) None kept tt (all_more (IsChange n) (λ x. eqb x.member m ≡ true → IsChange n x) (λ x i _. i) kept each) in
    subst (IsMemberRow n) (rows_agree n early kept T halves m lt)
    (elim (last_change kept m) as (λ o. IfSome o (IsChange n) → IsMemberRow n (option_map_or (λ c. record { count = c.number; last = c.time; known = known_by c }) o (unwrap_or (slice_get (rows_of_changes n early) m) none))) [
      | None ↦ λ _. subst (λ o. IsMemberRow n (unwrap_or {T = MemberRow} o none)) (sym at') first
      | Some c ↦ λ is. row_by_change n c is
    ] last)

each_from : (P : MemberRow → Type 0) (f : ℕ → MemberRow) (n a k : ℕ) → a + k ≤ n → ((m : ℕ) → m < n → P (f m)) → AllByRecursion P (map f (range_with_len a k))
each_from P f n a zero l h = tt
each_from P f n a (suc k) l h = (h a (omega arith), each_from P f n (a + 1) k (omega arith) h)

-- what holds of the row of each member
pub each_row : (P : MemberRow → Type 0) (n : ℕ) (h : List Change) → ((m : ℕ) → m < n → P (member_row n h m)) → AllByRecursion P (rows_of_changes n h)
each_row P n h f = each_from P (member_row n h) n 0 n (omega arith) f
