-- What hangs on a row: the next row of its run, and the runs that begin there.
use Rattle.std.specs.Prelude.{◌≡◌, ℕ, zero, suc, ◌<◌, true, false, ◌⊎◌, Option, Some, None, option_to_list, [], ◌∷◌, ◌++◌, length, refl}
use Rattle.std.proofs.Common.{sym, ◌∙◌, ap, subst, inl, inr, arith, get_or}
use Rattle.std.specs.List.{AllByRecursion}
use Rattle.std.specs.List.Sorted.{IsStrictlySortedBy}
use Rattle.std.specs.Map.{lookup, keys_of}
use Rattle.std.specs.Option.{option_map}
use Rattle.std.specs.Ordering.{is_lt}
use Rattle.std.specs.FinMap.{find, is_sorted}
use Rattle.std.specs.FinMap.Entries.{below_all}
use Rattle.std.specs.declared.cmp.Ordering.TheVariants.{Less}
use Rattle.op_ids.specs.declared.OpId.{OpId}
use Rattle.op_ids.specs.declared.Side.{Side}
use Rattle.op_ids.specs.declared.Side.TheVariants.{Left, Right}
use Rattle.op_ids.specs.Order.{id_cmp, id_lt, id_plus}
use Rattle.op_ids.proofs.OrderLaws.{lt_not_back}
use Rattle.model.specs.Operation.{Anchor}
use Rattle.model.specs.State.{Character, right_of}
use Rattle.model.specs.Walk.{hanging, hangs}
use Rattle.walk_laws.specs.Insertion.{anchor_of, IsInsertionTree}
use Rattle.walk_laws.specs.Paths.{In}
use Rattle.walk_laws.proofs.Walks.{key_eq, key_cases, key_itself, key_equiv, lt_back}
use Rattle.walk_laws.proofs.WalkOrder.{all_in}
use Rattle.walk_laws.proofs.TreeWalks.{lesser}
use Rattle.fugue_tree.specs.Tree.{IsFirstChild}
use Rattle.fugue_tree.proofs.WalkLaws.{rising_same, hanging_rise, row_among, among_rows}
use Rattle.fugue_text.specs.declared.run.Run.{Run}
use Rattle.fugue_text.specs.Runs.{AreFilled, IsIn, IsNext, IsNextBeside, letter_at, no_letter, places, rows_in, run_anchor, starts}
use Rattle.fugue_text.proofs.IdLaws.{plus_zero, plus_then, plus_apart, plus_exact, lt_next}
use Rattle.fugue_text.proofs.RowLaws.{find-mapped}
use Rattle.fugue_text.proofs.RunLaws.{Runs, RowsRise, anchor_at, at_start, found_spot, one_run, spot_found, starts_at, starts_found}

abbrev pub at_of : Character → Anchor
at_of c = c.at

keys_below : (i : OpId) (es : Runs) → AllByRecursion (λ y. id_cmp i y ≡ Less) (keys_of es) → below_all id_cmp i (starts es) ≡ true
keys_below i [] h = refl
keys_below i (e ∷ es) h = (let less : id_lt i e.0 ≡ true = ap is_lt h.0 in rw (less, keys_below i es h.1) refl)

pub starts_rise : (es : Runs) → IsStrictlySortedBy id_cmp (keys_of es) → is_sorted id_cmp (starts es) ≡ true
unfolding IsStrictlySortedBy
starts_rise [] h = refl
starts_rise (e ∷ es) h = rw (keys_below e.0 es h.0, starts_rise es h.1) refl

module _ (es : Runs) (rise : RowsRise es) (filled : AreFilled es) where
  pub spot_anchor : (q f : OpId) (k : ℕ) (i : IsIn es q f k) → anchor_of (places (rows_in es)) q ≡ Some (anchor_at f (run_anchor i.run) k)
  spot_anchor q f k i = find-mapped at_of q (rows_in es) ∙ ap (option_map at_of) (spot_found q f k es rise i)

  pub start_row : (q : OpId) (a : Anchor) → anchor_of (starts es) q ≡ Some a → anchor_of (places (rows_in es)) q ≡ Some a
  start_row q a e =
      elim (lookup (key_eq q) es) as (λ o. lookup (key_eq q) es ≡ o → anchor_of (places (rows_in es)) q ≡ Some a) [
        | None ↦ λ s. (let no : None ≡ Some a = sym (starts_found q es ∙ ap starts_at s) ∙ e in absurd (let c : None ≡ Some a = no in cc))
        | Some run ↦ λ s. spot_anchor q q 0 (at_start es q run filled s) ∙ sym (starts_found q es ∙ ap starts_at s) ∙ e
      ] refl

  -- a row that begins no run
  pub record Inner (q : OpId) (a : Anchor) : Type 0 where
    pub first : OpId
    pub offset : ℕ
    pub is_in : IsIn es q first (suc offset)
    pub is : a ≡ right_of (id_plus first offset)

  pub row_kind : (q : OpId) (a : Anchor) → anchor_of (places (rows_in es)) q ≡ Some a → (anchor_of (starts es) q ≡ Some a) ⊎ Inner q a
  row_kind q a e =
      let found : option_map at_of (find id_cmp q (rows_in es)) ≡ Some a = sym (find-mapped at_of q (rows_in es)) ∙ e in
      elim (find id_cmp q (rows_in es)) as (λ o. find id_cmp q (rows_in es) ≡ o → option_map at_of o ≡ Some a → (anchor_of (starts es) q ≡ Some a) ⊎ Inner q a) [
        | None ↦ λ s n. (let no : None ≡ Some a = n in absurd (let c : None ≡ Some a = no in cc))
        | Some x ↦ λ s n. (let r = found_spot q es rise filled x s in kind r.first r.offset r.is_in)
      ] refl found
    where
      kind : (f : OpId) (k : ℕ) → IsIn es q f k → (anchor_of (starts es) q ≡ Some a) ⊎ Inner q a
      kind f zero i =
          let same : q ≡ f = i.is ∙ plus_zero f in
          inl (ap (anchor_of (starts es)) same ∙ starts_found f es ∙ ap starts_at i.there ∙ sym (spot_anchor q f 0 i) ∙ e)
      kind f (suc k) i =
          let is : Some a ≡ Some (right_of (id_plus f k)) = sym e ∙ spot_anchor q f (suc k) i in
          inr (record { first = f; offset = k; is_in = i; is = (let same : a ≡ right_of (id_plus f k) = cc in same) })

  -- a row that begins no run is no first one
  pub inner_no_start : (q f : OpId) (k : ℕ) → IsIn es q f (suc k) → anchor_of (starts es) q ≡ None
  inner_no_start q f k i =
      elim (lookup (key_eq q) es) as (λ o. lookup (key_eq q) es ≡ o → anchor_of (starts es) q ≡ None) [
        | None ↦ λ s. starts_found q es ∙ ap starts_at s
        | Some run ↦ λ s.
            let same : q ≡ f = one_run q q f 0 (suc k) es rise (at_start es q run filled s) i in
            let no : true ≡ false = sym (key_itself f) ∙ ap (λ x. key_eq x f) (sym same ∙ i.is) ∙ plus_apart f k in
            absurd (let c : true ≡ false = no in cc)
      ] refl

  -- ---- the next row of a run

  pub next_some : (id f : OpId) (k : ℕ) (i : IsIn es id f k) → suc k < length i.run.letters.items → IsNext es id (Some (id_plus id 1))
  next_some id f k i more =
      let here : id_plus id 1 ≡ id_plus f (suc k) = ap (λ x. id_plus x 1) i.is ∙ plus_then f k in
      let next : IsIn es (id_plus id 1) f (suc k) = record { run = i.run; there = i.there; within = more; is = here } in
      (refl, spot_anchor (id_plus id 1) f (suc k) next ∙ ap (λ x. Some (right_of x)) (sym i.is), inner_no_start (id_plus id 1) f k next)

  only_starts : (id q : OpId) → ((f : OpId) (k : ℕ) (i : IsIn es id f k) → suc k < length i.run.letters.items → ⊥) → anchor_of (places (rows_in es)) q ≡ Some (right_of id) → anchor_of (starts es) q ≡ Some (right_of id)
  only_starts id q none e =
      elim (row_kind q (right_of id) e) as (λ _. anchor_of (starts es) q ≡ Some (right_of id)) [
        | inl s ↦ s
        | inr n ↦
            let on : id ≡ id_plus n.first n.offset = ap (λ (a : Anchor). a.on) n.is in
            let before : IsIn es id n.first n.offset = record { run = n.is_in.run; there = n.is_in.there; within = (let l = n.is_in.within in omega arith); is = on } in
            absurd (none n.first n.offset before n.is_in.within)
      ]

  pub next_none : (id f : OpId) (k : ℕ) (i : IsIn es id f k) → (suc k < length i.run.letters.items → ⊥) → IsNext es id None
  next_none id f k i last q e =
      only_starts id q
      (λ g j b more.
      let first : f ≡ g = one_run id f g k j es rise i b in
      let far : k ≡ j = plus_exact f k j (sym i.is ∙ b.is ∙ ap (λ x. id_plus x j) (sym first)) in
      let same : Some i.run ≡ Some b.run = sym i.there ∙ ap (λ x. lookup (key_eq x) es) first ∙ b.there in
      let run : i.run ≡ b.run = cc in
      last (subst (λ n. suc n < length i.run.letters.items) (sym far) (subst (λ (r : Run). suc j < length r.letters.items) (sym run) more))) e

  pub next_nowhere : (id : OpId) → find id_cmp id (rows_in es) ≡ None → IsNext es id None
  next_nowhere id none q e =
      only_starts id q
      (λ g j b more.
      let no : None ≡ Some (letter_at (anchor_at g (run_anchor b.run) j) (get_or b.run.letters.items j no_letter)) = sym none ∙ spot_found id g j es rise b in
      absurd (let c : None ≡ Some (letter_at (anchor_at g (run_anchor b.run) j) (get_or b.run.letters.items j no_letter)) = no in cc)) e

  -- ---- what hangs there

  abbrev there_at : OpId → Side → Anchor
  there_at on side = record { on = on; side = side }

  left_starts : (on q : OpId) → anchor_of (places (rows_in es)) q ≡ Some (there_at on Left) → anchor_of (starts es) q ≡ Some (there_at on Left)
  left_starts on q e =
      elim (row_kind q (there_at on Left) e) as (λ _. anchor_of (starts es) q ≡ Some (there_at on Left)) [
        | inl s ↦ s
        | inr n ↦ (let no : Left ≡ Right = ap (λ (a : Anchor). a.side) n.is in absurd (let c : Left ≡ Right = no in cc))
      ]

  pub without_next : (on : OpId) (side : Side) → IsNextBeside es on side None → (q : OpId) → anchor_of (places (rows_in es)) q ≡ Some (there_at on side) → anchor_of (starts es) q ≡ Some (there_at on side)
  without_next on Left h q e = left_starts on q e
  without_next on Right h q e = h q e

  pub first_without : (on : OpId) (side : Side) → IsNextBeside es on side None → (o : Option OpId) → IsFirstChild (starts es) on side o → IsFirstChild (places (rows_in es)) on side o
  first_without on side h None f = λ q e. f q (without_next on side h q e)
  first_without on side h (Some c) f = record { is = start_row c (there_at on side) f.is; least = λ d e. f.least d (without_next on side h d e) }

  module _ (tree : IsInsertionTree (places (rows_in es))) where
    next_first : (on n : OpId) → IsNext es on (Some n) → (d : OpId) → anchor_of (places (rows_in es)) d ≡ Some (right_of on) → id_lt d n ≡ false
    next_first on n h d e =
        let less : id_lt on d ≡ true = lesser (places (rows_in es)) tree d (right_of on) e in
        elim (id_lt d n) as (λ b. id_lt d n ≡ b → b ≡ false) [
          | true ↦ λ t.
              let apart : key_eq d (id_plus on 1) ≡ false = ap (key_eq d) (sym h.0) ∙ key_equiv.symm d n ∙ lt_back d n t in
              let back : id_lt n d ≡ true = ap (λ x. id_lt x d) h.0 ∙ lt_next on d less apart in
              (let no : true ≡ false = sym back ∙ lt_not_back d n t in absurd (let c : true ≡ false = no in cc))
          | false ↦ λ t. refl
        ] refl

    pub first_next : (on : OpId) (side : Side) (n : OpId) → IsNextBeside es on side (Some n) → IsFirstChild (places (rows_in es)) on side (Some n)
    first_next on Left n h = (let no : Some n ≡ None = h in absurd (let c : Some n ≡ None = no in cc))
    first_next on Right n h = record { is = h.1; least = next_first on n h }

    module _ (starts_sorted : is_sorted id_cmp (starts es) ≡ true) where
      none_hang : (on : OpId) (side : Side) → IsNextBeside es on side None → hanging (places (rows_in es)) on side ≡ hanging (starts es) on side
      none_hang on side h =
          rising_same (hanging (places (rows_in es)) on side) (hanging (starts es) on side) (hanging_rise (hangs on side) (places (rows_in es)) tree.rising) (hanging_rise (hangs on side) (starts es) starts_sorted)
          (λ i m. among_rows (starts es) starts_sorted on side i (without_next on side h i (row_among (places (rows_in es)) tree.rising on side i m)))
          (λ i m. among_rows (places (rows_in es)) tree.rising on side i (start_row i (there_at on side) (row_among (starts es) starts_sorted on side i m)))

      next_hangs : (on n : OpId) → IsNext es on (Some n) → hanging (places (rows_in es)) on Right ≡ n ∷ hanging (starts es) on Right
      next_hangs on n h =
          rising_same (hanging (places (rows_in es)) on Right) (n ∷ hanging (starts es) on Right) (hanging_rise (hangs on Right) (places (rows_in es)) tree.rising)
          (all_in (λ j. id_lt n j ≡ true) (hanging (starts es) on Right) (λ j m. above j (row_among (starts es) starts_sorted on Right j m)), hanging_rise (hangs on Right) (starts es) starts_sorted)
          (λ i m. among i (row_among (places (rows_in es)) tree.rising on Right i m))
          (λ i m. elim m as (λ _. In i (hanging (places (rows_in es)) on Right)) [
            | inl e ↦ among_rows (places (rows_in es)) tree.rising on Right i (ap (anchor_of (places (rows_in es))) e ∙ h.1)
            | inr k ↦ among_rows (places (rows_in es)) tree.rising on Right i (start_row i (there_at on Right) (row_among (starts es) starts_sorted on Right i k))
          ])
        where
          above : (j : OpId) → anchor_of (starts es) j ≡ Some (there_at on Right) → id_lt n j ≡ true
          above j e =
              elim (key_cases j n) as (λ _. id_lt n j ≡ true) [
                | inl s ↦ (let no : None ≡ Some (there_at on Right) = sym h.2 ∙ ap (anchor_of (starts es)) (sym s) ∙ e in absurd (let c : None ≡ Some (there_at on Right) = no in cc))
                | inr ne ↦ ap (λ x. id_lt x j) h.0 ∙ lt_next on j (lesser (places (rows_in es)) tree j (there_at on Right) (start_row j (there_at on Right) e)) (ap (key_eq j) (sym h.0) ∙ ne)
              ]

          among : (i : OpId) → anchor_of (places (rows_in es)) i ≡ Some (there_at on Right) → (i ≡ n) ⊎ In i (hanging (starts es) on Right)
          among i e =
              elim (row_kind i (there_at on Right) e) as (λ _. (i ≡ n) ⊎ In i (hanging (starts es) on Right)) [
                | inl s ↦ inr (among_rows (starts es) starts_sorted on Right i s)
                | inr k ↦ inl (k.is_in.is ∙ sym (plus_then k.first k.offset) ∙ ap (λ x. id_plus x 1) (sym (ap (λ (a : Anchor). a.on) k.is)) ∙ sym h.0)
              ]

      pub all_hang : (on : OpId) (side : Side) (o : Option OpId) → IsNextBeside es on side o → hanging (places (rows_in es)) on side ≡ option_to_list o ++ hanging (starts es) on side
      all_hang on side None h = none_hang on side h
      all_hang on Left (Some n) h = (let no : Some n ≡ None = h in absurd (let c : Some n ≡ None = no in cc))
      all_hang on Right (Some n) h = next_hangs on n h
