-- How many changes there are of each member, with one more.
use Rattle.std.proofs.Common.{◌≡◌, ◌≢◌, ℕ, zero, suc, ◌+◌, ◌<◌, ◌==◌, Bool, true, false, List, [], ◌∷◌, ◌++◌, length, map, set, replicate, get_or, max, refl, sym, ap, ◌∙◌, arith, inl, inr, eq-eqb}
use Rattle.std.specs.Prelude.{Option, None, Some, filter, slice_get, unwrap_or}
use Rattle.std.specs.Option.{option_map_or}
use Rattle.std.specs.List.{last_or}
use Rattle.std.proofs.lemmas.Bool.{cases_eq, eqb-true}
use Rattle.std.proofs.lemmas.List.{length-set, length-replicate, get_or-set_same, get_or-set_other, get_or-replicate, append-nil}
use Rattle.std.proofs.lemmas.List.Elements.{filter-append}
use Rattle.model.specs.Base.{MemberRow, members, member_row, last_change, known_by}
use Rattle.model.specs.Change.{Change, IsChange}
use Rattle.model.specs.File.{IsNextBehind}
use Rattle.replica.specs.Empty.{empty_base}
use Rattle.replica.specs.Heads.{base_by}
use Rattle.replica.specs.Counts.{count_behind, IsCounted}
use Rattle.replica.specs.declared.head.FileHead.{FileHead}
use Rattle.replica.proofs.ChangeLaws.{by_kind}

-- ---- of none

none_counted : (n : ℕ) (z : MemberRow) → z.count ≡ 0 → (ms : List ℕ) (m : ℕ) → (unwrap_or (slice_get (map (member_row n []) ms) m) z).count ≡ 0
none_counted n z zero_count [] m = zero_count
none_counted n z zero_count (k ∷ ms) zero = refl
none_counted n z zero_count (k ∷ ms) (suc m) = none_counted n z zero_count ms m

pub count-none : (n m : ℕ) → count_behind n [] m ≡ 0
count-none n m = none_counted n (record { count = 0; last = 0; known = [] }) refl (members n) m

pub counted_none : (h : FileHead) → IsCounted h [] (replicate h.doc.n 0)
counted_none h = record { each = length-replicate h.doc.n 0; are = λ other m lt. get_or-replicate h.doc.n m 0 0 lt ∙ sym (count-none h.doc.n m) }

-- ---- of one more

pub last_pushed : {X : Type 0} (o : Option X) (xs : List X) (x : X) → last_or o (xs ++ x ∷ []) ≡ Some x
last_pushed o [] x = refl
last_pushed o (y ∷ ys) x = last_pushed (Some y) ys x

module _ (kept : List Change) (c : Change) where
  -- of those that pass a test
  pub kept_pushed : (p : Change → Bool) → p c ≡ true → filter p (kept ++ c ∷ []) ≡ filter p kept ++ c ∷ []
  kept_pushed p passes = filter-append p kept (c ∷ []) ∙ rw passes refl

  pub not_pushed : (p : Change → Bool) → p c ≡ false → filter p (kept ++ c ∷ []) ≡ filter p kept
  not_pushed p fails = filter-append p kept (c ∷ []) ∙ rw fails (append-nil (filter p kept))

  pub last_own : (m : ℕ) → c.member ≡ m → last_change (kept ++ c ∷ []) m ≡ Some c
  last_own m is = ap (last_or None) (kept_pushed (λ d. d.member == m) (eq-eqb c.member m is)) ∙ last_pushed None (filter (λ d. d.member == m) kept) c

  last_other : (m : ℕ) → (c.member == m) ≡ false → last_change (kept ++ c ∷ []) m ≡ last_change kept m
  last_other m other = ap (last_or None) (not_pushed (λ d. d.member == m) other)

  module _ (n : ℕ) where
    abbrev row_of : ℕ → Option Change → ℕ
    row_of m o = (option_map_or (λ d. record { count = d.number; last = d.time; known = known_by d }) o (unwrap_or (slice_get (empty_base n).rows m) (record { count = 0; last = 0; known = [] }))).count

    pub count-own : (m : ℕ) → c.member ≡ m → count_behind n (kept ++ c ∷ []) m ≡ c.number
    count-own m is = ap (row_of m) (last_own m is)

    pub count-other : (m : ℕ) → (c.member == m) ≡ false → count_behind n (kept ++ c ∷ []) m ≡ count_behind n kept m
    count-other m other = ap (row_of m) (last_other m other)

differs : (m n : ℕ) → m ≢ n → (m == n) ≡ false
differs m n ne = by_test (m == n) refl
  where
    by_test : (b : Bool) → (m == n) ≡ b → b ≡ false
    by_test true e = absurd (ne (eqb-true m n e))
    by_test false e = refl

module _ (h : FileHead) (kept : List Change) (counts : List ℕ) (c : Change) (counted : IsCounted h kept counts) (is : IsChange h.doc.n c) (next : IsNextBehind (base_by h) kept c) where
  -- it is the next of its member
  next_number : h.kind ≢ 1 → c.number ≡ count_behind h.doc.n kept c.member + 1
  next_number other = by_kind (λ b. IsNextBehind b kept c → c.number ≡ count_behind h.doc.n kept c.member + 1) h.doc.n h.kind (λ one. absurd (other one)) (λ _ k. k.0) next

  abbrev raised : List ℕ
  raised = set counts c.member (max (get_or counts c.member 0) c.number)

  raised_is : h.kind ≢ 1 → (m : ℕ) → m < h.doc.n → get_or raised m 0 ≡ count_behind h.doc.n (kept ++ c ∷ []) m
  raised_is other m lt =
      elim (cases_eq c.member m) [
        | inl same ↦
            let within : c.member < length counts = omega (arith, counted.each, is.member) in
            let before = counted.are other c.member is.member in
            let number = next_number other in
            let most : max (get_or counts c.member 0) c.number ≡ c.number = omega (arith, before, number) in
            ap (λ k. get_or raised k 0) (sym same) ∙ get_or-set_same counts c.member (max (get_or counts c.member 0) c.number) 0 within ∙ most ∙ sym (count-own kept c h.doc.n m same)
        | inr ne ↦
            get_or-set_other counts c.member m (max (get_or counts c.member 0) c.number) 0 (λ e. ne (sym e)) ∙ counted.are other m lt ∙ sym (count-other kept c h.doc.n m (differs c.member m ne))
      ]

  pub counted_more : IsCounted h (kept ++ c ∷ []) raised
  counted_more = record { each = length-set counts c.member (max (get_or counts c.member 0) c.number) ∙ counted.each; are = raised_is }
