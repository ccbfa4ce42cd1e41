-- Times that are kept member by member.
use Rattle.std.proofs.Common.{◌≡◌, ℕ, suc, ◌<◌, ◌-◌, ◌+◌, true, false, cond, eqb, ltb, List, [], ◌∷◌, ◌++◌, map, length, slice_get, unwrap_or, ap, sym, ◌∙◌, arith, refl, inl, inr}
use Rattle.std.specs.Prelude.{slice_index_or, slice_set}
use Rattle.std.proofs.lemmas.List.{get_or-map, length-map, map-set, reverse-append}
use Rattle.std.proofs.lemmas.Bool.{cases_eq, cases_lt, eq-eqb, ne_eqb, lt-ltb, le-ltb}
use Rattle.holding.specs.Times.{back, time_at}

-- One more is pushed to the list of a member.
pub pushed : {L : Type 0} (f : L → List ℕ) (lists : List L) (now : List (List ℕ)) (i m t : ℕ) (last new : L) → map f lists ≡ now → i ≡ m → m < length now → last ≡ slice_index_or lists i last → f new ≡ f last ++ t ∷ []
    → map f (slice_set lists i new) ≡ slice_set now m (slice_index_or now m [] ++ t ∷ [])
pushed f lists now i m t last new view at within read more =
    let inside : i < length lists = omega (arith, at, within, ap (λ (l : List (List ℕ)). length l) view, length-map lists f) in
    let here : slice_index_or (map f lists) i [] ≡ f last = get_or-map f lists i last [] inside ∙ ap f (sym read) in
    map-set f lists i new ∙ ap (slice_set (map f lists) i) (more ∙ ap (λ l. l ++ t ∷ []) (sym here)) ∙ (λ j. slice_set (view j) (at j) (slice_index_or (view j) (at j) [] ++ t ∷ []))

-- The last is the one that was pushed,
pub back_last : (times : List ℕ) (t : ℕ) → back (times ++ t ∷ []) 0 ≡ t
back_last times t = ap (λ l. unwrap_or (slice_get l 0) 0) (reverse-append times (t ∷ []))

-- and the others are one further back.
pub back_others : (times : List ℕ) (t k : ℕ) → back (times ++ t ∷ []) (suc k) ≡ back times k
back_others times t k = ap (λ l. unwrap_or (slice_get l (suc k)) 0) (reverse-append times (t ∷ []))

-- So each has its time by its number, the new one its own.
pub one_more_time : (times : List ℕ) (t last number : ℕ) → time_at (times ++ t ∷ []) (last + 1) number ≡ cond (eqb (last + 1) number) t (time_at times last number)
one_more_time times t last number =
    elim (cases_eq (last + 1) number) [
      | inl same ↦
          let yes : eqb (last + 1) number ≡ true = eq-eqb (last + 1) number same in
          let no : ltb (last + 1) number ≡ false = le-ltb (last + 1) number (omega arith) in
          let none : (last + 1) - number ≡ 0 = omega arith in
          rw (yes, no) (ap (back (times ++ t ∷ [])) none ∙ back_last times t)
      | inr other ↦
          let apart : eqb (last + 1) number ≡ false = ne_eqb (last + 1) number other in
          elim (cases_lt last number) [
            | inl lt ↦
                let later : ltb (last + 1) number ≡ true = lt-ltb (last + 1) number (omega arith) in
                let late : ltb last number ≡ true = lt-ltb last number lt in
                rw (apart, later, late) refl
            | inr le ↦
                let no : ltb (last + 1) number ≡ false = le-ltb (last + 1) number (omega arith) in
                let none : ltb last number ≡ false = le-ltb last number le in
                let further : (last + 1) - number ≡ suc (last - number) = omega arith in
                rw (apart, no, none) (ap (back (times ++ t ∷ [])) further ∙ back_others times t (last - number))
          ]
    ]
