-- Rows as they are read, and counts that are gathered one after the other.
use Rattle.std.proofs.Common.{◌≡◌, ℕ, ◌+◌, ◌<◌, ◌≤◌, max, List, length, map, replicate, set, get_or, Some, sym, ap, ◌∙◌, arith, inl, inr}
use Rattle.std.specs.Prelude.{slice_get}
use Rattle.std.specs.Option.{option_map}
use Rattle.std.proofs.lemmas.Bool.{cases_eq, cases_lt}
use Rattle.std.proofs.lemmas.List.{get_or-replicate, get_or-set_same, get_or-set_other, get_or_past, length-map, length-replicate, length-set, same_lists}
use Rattle.std.proofs.lemmas.Grind.{get_or_default_zero}
use Rattle.std.proofs.lemmas.Option.{get_or_from_slice_get, slice_get-get_or, slice_get-map}
use Rattle.model.specs.Base.{MemberRow}
use Rattle.stability.specs.Rows.{row_of}
use Rattle.stability.specs.declared.fronts.MemberRow as code

-- ---- one row

-- a place in what contracts see is one among the rows
pub within_rows : (rows : List code.MemberRow) (seen : List MemberRow) (i : ℕ) → map row_of rows ≡ seen → i < length seen → i < length rows
within_rows rows seen i is lt = omega (arith, lt, ap length is, length-map rows row_of)

-- what is read of a row as contracts see it is what is read of the row
pub read_at : {A : Type 0} (f : MemberRow → A) (rows : List code.MemberRow) (i : ℕ) (r : code.MemberRow) → i < length rows → r ≡ get_or rows i r → slice_get (map f (map row_of rows)) i ≡ Some (f (row_of r))
read_at f rows i r lt at =
    slice_get-map f (map row_of rows) i ∙ ap (option_map f) (slice_get-map row_of rows i)
    ∙ ap (λ o. option_map f (option_map row_of o)) (slice_get-get_or rows i r lt ∙ ap Some (sym at))

pub number_at : (f : MemberRow → ℕ) (rows : List code.MemberRow) (i : ℕ) (r : code.MemberRow) → i < length rows → r ≡ get_or rows i r → f (row_of r) ≡ get_or (map f (map row_of rows)) i 0
number_at f rows i r lt at = sym (get_or_from_slice_get (map f (map row_of rows)) i (f (row_of r)) 0 (read_at f rows i r lt at))

-- ---- counts

-- Of so many counts the first ones were read, and the others are 0.
pub record Gathered (counts vector : List ℕ) (k : ℕ) : Type 0 where
  pub each : length vector ≡ length counts
  pub read : (m : ℕ) → m < k → get_or vector m 0 ≡ get_or counts m 0
  pub none : (m : ℕ) → k ≤ m → get_or vector m 0 ≡ 0

pub gathered_none : (counts : List ℕ) (n : ℕ) → n ≡ length counts → Gathered counts (replicate n 0) 0
gathered_none counts n same = record {
  each = length-replicate n 0 ∙ same;
  read = λ m lt. absurd (omega arith);
  none = λ m le. elim (cases_lt m n) [ inl lt ↦ get_or-replicate n m 0 0 lt | inr past ↦ get_or_past (replicate n 0) m 0 (omega (arith, length-replicate {A = ℕ} n 0)) ];
}

pub gathered_more : (counts vector : List ℕ) (k : ℕ) → Gathered counts vector k → k < length counts → Gathered counts (set vector k (max (get_or vector k 0) (get_or counts k 0))) (k + 1)
gathered_more counts vector k g lt =
    let most = max (get_or vector k 0) (get_or counts k 0) in
    let none : get_or vector k 0 ≡ 0 = g.none k (omega arith) in
    record {
      each = length-set vector k most ∙ g.each;
      read = λ m le. elim (cases_eq m k) [
        | inl e ↦ ap (λ j. get_or (set vector k most) j 0) e ∙ get_or-set_same vector k most 0 (omega (arith, g.each)) ∙ (let is : most ≡ get_or counts k 0 = omega arith in is) ∙ ap (λ j. get_or counts j 0) (sym e)
        | inr ne ↦ get_or-set_other vector k m most 0 ne ∙ g.read m (omega arith)
      ];
      none = λ m le. get_or-set_other vector k m most 0 (λ e. absurd (omega arith)) ∙ g.none m (omega arith);
    }

pub gathered_all : (counts vector : List ℕ) (k : ℕ) → length counts ≤ k → Gathered counts vector k → vector ≡ counts
gathered_all counts vector k most g =
    same_lists vector counts g.each (λ m d lt. get_or_default_zero vector m d lt ∙ g.read m (omega (arith, g.each)) ∙ sym (get_or_default_zero counts m d (omega (arith, g.each))))
