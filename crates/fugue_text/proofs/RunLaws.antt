-- Rows in runs: where a row is, and what a change of a run makes of the rows.
use Rattle.std.specs.Prelude.{◌≡◌, ℕ, zero, suc, ◌<◌, nat_lt, true, false, cond, Option, Some, None, is_some, List, [], ◌∷◌, ◌++◌, length, refl}
use Rattle.std.proofs.Common.{sym, ◌∙◌, ap, subst, inl, inr, arith, append_assoc, get_or}
use Rattle.std.specs.List.{AllByRecursion}
use Rattle.std.specs.Map.{lookup, set_value}
use Rattle.std.specs.BTreeMap.{insert_entry, is_at}
use Rattle.std.specs.Ordering.{match_ordering, is_gt}
use Rattle.std.proofs.Math.ListN.{set}
use Rattle.std.proofs.lemmas.List.{map-append}
use Rattle.std.specs.FinMap.{find, put, is_sorted}
use Rattle.std.specs.FinMap.Entries.{by_order, below_all}
use Rattle.std.specs.declared.cmp.Ordering.TheVariants.{Less, Equal, Greater}
use Rattle.op_ids.specs.declared.OpId.{OpId}
use Rattle.op_ids.specs.Order.{id_cmp, id_lt, id_plus}
use Rattle.op_ids.proofs.OrderLaws.{id_cmp_exact}
use Rattle.model.specs.Operation.{Anchor}
use Rattle.model.specs.State.{Character, killed, right_of, run_of}
use Rattle.walk_laws.specs.Insertion.{anchor_of, with_row}
use Rattle.walk_laws.proofs.Walks.{key_eq, key_cases, key_equiv, key_itself, lt_back, both}
use Rattle.fugue_text.specs.declared.run.Letter.{Letter}
use Rattle.fugue_text.specs.declared.run.Run.{Run}
use Rattle.fugue_text.specs.Runs.{TextRows, AreFree, with_letters, dead_letter, edit_one, edited, starts, letter_at, no_letter, run_anchor, run_rows, rows_of_run, rows_in, IsFilled, AreFilled, IsIn}
use Rattle.fugue_text.proofs.IdLaws.{lt_plus, plus_zero, plus_plus, plus_then, plus_lt, plus_apart, plus_exact, lt_next, gt_is_lt, not_behind, within, true_less, false_le}
use Rattle.fugue_text.proofs.RowLaws.{AllBefore, all_before, none_before, sorted_behind, found_behind, found_front, none_in_front, put_behind, put_front, above_front, before_trans}

abbrev pub Runs : Type 0
Runs = List (OpId × Run)

abbrev pub RowsRise : Runs → Type 0
RowsRise es = is_sorted id_cmp (rows_in es) ≡ true

-- where the row so many behind the first hangs
abbrev pub anchor_at : OpId → Anchor → ℕ → Anchor
anchor_at f at zero = at
anchor_at f at (suc k) = right_of (id_plus f k)

-- ---- one run

pub anchor_next : (f : OpId) (at : Anchor) (k : ℕ) → anchor_at (id_plus f 1) (right_of f) k ≡ anchor_at f at (suc k)
anchor_next f at zero = ap right_of (sym (plus_zero f))
anchor_next f at (suc k) = ap right_of (plus_plus f k)

pub run_found : (f : OpId) (at : Anchor) (ls : List Letter) (k : ℕ) → k < length ls → find id_cmp (id_plus f k) (run_rows f at ls) ≡ Some (letter_at (anchor_at f at k) (get_or ls k no_letter))
run_found f at [] k h = absurd (omega arith)
run_found f at (l ∷ ls) zero h = (let own : key_eq (id_plus f 0) f ≡ true = ap (λ x. key_eq x f) (plus_zero f) ∙ key_itself f in rw own refl)
run_found f at (l ∷ ls) (suc k) h =
    let rest = run_found (id_plus f 1) (right_of f) ls k (omega arith) in
    rw (plus_apart f k)
    (ap (λ x. find id_cmp x (run_rows (id_plus f 1) (right_of f) ls)) (sym (plus_plus f k)) ∙ rest ∙ ap (λ a. Some (letter_at a (get_or ls k no_letter))) (anchor_next f at k))

-- a row that is found in a run is so many behind its first
pub found_run : (id f : OpId) (at : Anchor) (ls : List Letter) (x : Character) → find id_cmp id (run_rows f at ls) ≡ Some x → (k : ℕ) × (k < length ls) × (id ≡ id_plus f k)
found_run id f at [] x h = cc
found_run id f at (l ∷ ls) x h =
    elim (key_cases id f) as (λ _. (k : ℕ) × (k < suc (length ls)) × (id ≡ id_plus f k)) [
      | inl e ↦ (0, omega arith, e ∙ sym (plus_zero f))
      | inr ne ↦
          let h' : find id_cmp id (run_rows (id_plus f 1) (right_of f) ls) ≡ Some x = rw ne at h in
          let r = found_run id (id_plus f 1) (right_of f) ls x h' in
          let less : r.0 < length ls = r.1 in (suc r.0, omega arith, r.2 ∙ plus_plus f r.0)
    ]

-- ---- where a row is

module _ (id f : OpId) (k : ℕ) where
  head_is : (e : OpId × Run) (es : Runs) (i : IsIn (e ∷ es) id f k) → f ≡ e.0 → e.1 ≡ i.run
  head_is e es i s =
      let own : key_eq f e.0 ≡ true = ap (λ x. key_eq x e.0) s ∙ key_itself e.0 in
      let is : Some e.1 ≡ Some i.run = rw own at i.there in
      cc

  abbrev tail_is : (e : OpId × Run) (es : Runs) (i : IsIn (e ∷ es) id f k) → key_eq f e.0 ≡ false → IsIn es id f k
  tail_is e es i ne = record { run = i.run; there = rw ne at i.there; within = i.within; is = i.is }

  pub spot_found : (es : Runs) → RowsRise es → (i : IsIn es id f k) → find id_cmp id (rows_in es) ≡ Some (letter_at (anchor_at f (run_anchor i.run) k) (get_or i.run.letters.items k no_letter))
  spot_found [] h i = (let no : None ≡ Some i.run = i.there in cc)
  spot_found (e ∷ es) h i =
      elim (key_cases f e.0) as (λ _. find id_cmp id (rows_in (e ∷ es)) ≡ Some (letter_at (anchor_at f (run_anchor i.run) k) (get_or i.run.letters.items k no_letter))) [
        | inl s ↦
            let same = head_is e es i s in
            let less : k < length e.1.letters.items = subst (λ (r : Run). k < length r.letters.items) (sym same) i.within in
            let is : id ≡ id_plus e.0 k = i.is ∙ ap (λ x. id_plus x k) s in
            let here = ap (λ x. find id_cmp x (rows_of_run e)) is ∙ run_found e.0 (run_anchor e.1) e.1.letters.items k less in
            found_front id _ (rows_of_run e) (rows_in es) here
            ∙ ap (λ x. Some (letter_at (anchor_at x (run_anchor e.1) k) (get_or e.1.letters.items k no_letter))) (sym s)
            ∙ ap (λ (r : Run). Some (letter_at (anchor_at f (run_anchor r) k) (get_or r.letters.items k no_letter))) same
        | inr ne ↦
            let j = tail_is e es i ne in
            let rest = spot_found es (sorted_behind (rows_of_run e) (rows_in es) h) j in
            found_behind id (rows_of_run e) (rows_in es) (none_before (rows_of_run e) id (all_before id _ (rows_of_run e) (rows_in es) h rest)) ∙ rest
      ]

-- no row of a run is in a later one
not_both : (id : OpId) (e : OpId × Run) (es : Runs) (j : ℕ) → RowsRise (e ∷ es) → j < length e.1.letters.items → id ≡ id_plus e.0 j → (x : Character) → find id_cmp id (rows_in es) ≡ Some x → ⊥
not_both id e es j h l is x f =
    let none = none_before (rows_of_run e) id (all_before id x (rows_of_run e) (rows_in es) h f) in
    let some = ap (λ y. find id_cmp y (rows_of_run e)) is ∙ run_found e.0 (run_anchor e.1) e.1.letters.items j l in
    let no : None ≡ Some (letter_at (anchor_at e.0 (run_anchor e.1) j) (get_or e.1.letters.items j no_letter)) = sym none ∙ some in
    cc

-- a row is in one run alone
pub one_run : (id f g : OpId) (k j : ℕ) (es : Runs) → RowsRise es → IsIn es id f k → IsIn es id g j → f ≡ g
one_run id f g k j [] h a b = (let no : None ≡ Some a.run = a.there in cc)
one_run id f g k j (e ∷ es) h a b =
    let rest = sorted_behind (rows_of_run e) (rows_in es) h in
    elim (key_cases f e.0) as (λ _. f ≡ g) [
      | inl s ↦
          elim (key_cases g e.0) as (λ _. f ≡ g) [
            | inl t ↦ s ∙ sym t
            | inr nt ↦
                let less : k < length e.1.letters.items = subst (λ (r : Run). k < length r.letters.items) (sym (head_is id f k e es a s)) a.within in
                absurd (not_both id e es k h less (a.is ∙ ap (λ x. id_plus x k) s) _ (spot_found id g j es rest (tail_is id g j e es b nt)))
          ]
      | inr ns ↦
          elim (key_cases g e.0) as (λ _. f ≡ g) [
            | inl t ↦
                let less : j < length e.1.letters.items = subst (λ (r : Run). j < length r.letters.items) (sym (head_is id g j e es b t)) b.within in
                absurd (not_both id e es j h less (b.is ∙ ap (λ x. id_plus x j) t) _ (spot_found id f k es rest (tail_is id f k e es a ns)))
            | inr nt ↦ one_run id f g k j es rest (tail_is id f k e es a ns) (tail_is id g j e es b nt)
          ]
    ]

-- what is found is in a run
pub record Found (es : Runs) (id : OpId) : Type 0 where
  pub first : OpId
  pub offset : ℕ
  pub is_in : IsIn es id first offset

pub found_spot : (id : OpId) (es : Runs) → RowsRise es → AreFilled es → (x : Character) → find id_cmp id (rows_in es) ≡ Some x → Found es id
found_spot id [] h d x f = cc
found_spot id (e ∷ es) h d x f =
    elim (find id_cmp id (rows_of_run e)) as (λ o. find id_cmp id (rows_of_run e) ≡ o → Found (e ∷ es) id) [
      | Some y ↦ λ s.
          let r = found_run id e.0 (run_anchor e.1) e.1.letters.items y s in
          let own : key_eq e.0 e.0 ≡ true = key_itself e.0 in
          record { first = e.0; offset = r.0; is_in = record { run = e.1; there = rw own refl; within = r.1; is = r.2 } }
      | None ↦ λ s.
          let more : find id_cmp id (rows_in es) ≡ Some x = sym (found_behind id (rows_of_run e) (rows_in es) s) ∙ f in
          let r = found_spot id es (sorted_behind (rows_of_run e) (rows_in es) h) d.1 x more in
          elim (key_cases r.first e.0) as (λ _. Found (e ∷ es) id) [
            | inl t ↦
                let begins : IsIn es r.first r.first 0 = record { run = r.is_in.run; there = r.is_in.there; within = (let l = r.is_in.within in omega arith); is = sym (plus_zero r.first) } in
                absurd (not_both r.first e es 0 h d.0.some (t ∙ sym (plus_zero e.0)) _ (spot_found r.first r.first 0 es (sorted_behind (rows_of_run e) (rows_in es) h) begins))
            | inr ne ↦ record { first = r.first; offset = r.offset; is_in = record { run = r.is_in.run; there = rw ne r.is_in.there; within = r.is_in.within; is = r.is_in.is } }
          ]
    ] refl

-- ---- where no row is

pub no_run : (id : OpId) (es : Runs) → RowsRise es → AreFilled es → ((q : OpId) → id_lt id q ≡ false → lookup (key_eq q) es ≡ None) → find id_cmp id (rows_in es) ≡ None
no_run id es h d none =
    elim (find id_cmp id (rows_in es)) as (λ o. find id_cmp id (rows_in es) ≡ o → o ≡ None) [
      | None ↦ λ s. refl
      | Some x ↦ λ s.
          let r = found_spot id es h d x s in
          let not_below : id_lt id r.first ≡ false = ap (λ y. id_lt y r.first) r.is_in.is ∙ not_behind r.first r.offset in
          let no : None ≡ Some r.is_in.run = sym (none r.first not_below) ∙ r.is_in.there in
          absurd (let c : None ≡ Some r.is_in.run = no in cc)
    ] refl

pub filled_of : (f : OpId) (es : Runs) (run : Run) → AreFilled es → lookup (key_eq f) es ≡ Some run → IsFilled (f, run)
filled_of f [] run d there = cc
filled_of f (e ∷ es) run d there =
    elim (key_cases f e.0) as (λ _. IsFilled (f, run)) [
      | inl s ↦
          let own : key_eq f e.0 ≡ true = ap (λ x. key_eq x e.0) s ∙ key_itself e.0 in
          let is : Some e.1 ≡ Some run = rw own at there in
          let same : e.1 ≡ run = cc in
          subst (λ (r : Run). IsFilled (f, r)) same (subst (λ x. IsFilled (x, e.1)) (sym s) d.0)
      | inr ne ↦ (let more : lookup (key_eq f) es ≡ Some run = rw ne at there in filled_of f es run d.1 more)
    ]

-- the first row of a run is in it
abbrev pub at_start : (es : Runs) (f : OpId) (run : Run) → AreFilled es → lookup (key_eq f) es ≡ Some run → IsIn es f f 0
at_start es f run d there = record { run = run; there = there; within = (filled_of f es run d there).some; is = sym (plus_zero f) }

module _ (id f : OpId) (es : Runs) (run : Run) (h : RowsRise es) (d : AreFilled es) (there : lookup (key_eq f) es ≡ Some run)
    (low : id_lt id f ≡ false) (last : (q : OpId) → id_lt id q ≡ false → is_some (lookup (key_eq q) es) ≡ true → id_lt f q ≡ false) where
  pub in_no_run : ((k : ℕ) → k < length run.letters.items → id ≡ id_plus f k → ⊥) → find id_cmp id (rows_in es) ≡ None
  in_no_run out =
      elim (find id_cmp id (rows_in es)) as (λ o. find id_cmp id (rows_in es) ≡ o → o ≡ None) [
        | None ↦ λ s. refl
        | Some x ↦ λ s.
            let r = found_spot id es h d x s in
            let not_below : id_lt id r.first ≡ false = ap (λ y. id_lt y r.first) r.is_in.is ∙ not_behind r.first r.offset in
            let not_past : id_lt f r.first ≡ false = last r.first not_below (ap is_some r.is_in.there) in
            absurd (elim (key_cases f r.first) as (λ _. ⊥) [
              | inl e ↦
                  let own : lookup (key_eq f) es ≡ Some r.is_in.run = ap (λ y. lookup (key_eq y) es) e ∙ r.is_in.there in
                  let same : r.is_in.run ≡ run = (let c : Some r.is_in.run ≡ Some run = sym own ∙ there in cc) in
                  out r.offset (subst (λ (y : Run). r.offset < length y.letters.items) same r.is_in.within) (r.is_in.is ∙ ap (λ y. id_plus y r.offset) (sym e))
              | inr ne ↦
                  let w = within r.first f r.offset not_past (ap (λ y. id_lt y f) (sym r.is_in.is) ∙ low) in
                  let there_too : IsIn es f r.first w.offset = record { run = r.is_in.run; there = r.is_in.there; within = (let l = r.is_in.within in let m = w.within in omega arith); is = w.is } in
                  let same : f ≡ r.first = one_run f f r.first 0 w.offset es h (at_start es f run d there) there_too in
                  (let no : true ≡ false = sym (ap (λ y. key_eq y r.first) same ∙ key_itself r.first) ∙ ne in absurd (let c : true ≡ false = no in cc))
            ])
      ] refl

-- ---- a run begins

abbrev pub starts_at : Option Run → Option Anchor
starts_at None = None
starts_at (Some r) = Some (run_anchor r)

pub starts_found : (q : OpId) (es : Runs) → anchor_of (starts es) q ≡ starts_at (lookup (key_eq q) es)
starts_found q [] = refl
starts_found q (e ∷ es) = elim (key_eq q e.0) as (λ b. cond b (Some (run_anchor e.1)) (anchor_of (starts es) q) ≡ starts_at (cond b (Some e.1) (lookup (key_eq q) es))) [ true ↦ refl | false ↦ starts_found q es ]

pub starts_begin : (es : Runs) (id : OpId) (run : Run) → starts (insert_entry id_cmp es id run) ≡ with_row (starts es) id (run_anchor run)
starts_begin [] id run = refl
starts_begin (e ∷ es) id run =
    elim (id_cmp id e.0)
    as (λ o. starts (match_ordering o ((id, run) ∷ e ∷ es) ((e.0, run) ∷ es) (e ∷ insert_entry id_cmp es id run))
    ≡ by_order o ((id, run_anchor run) ∷ starts (e ∷ es)) ((e.0, run_anchor run) ∷ starts es) ((e.0, run_anchor e.1) ∷ with_row (starts es) id (run_anchor run))) [
      | Less ↦ refl
      | Equal ↦ refl
      | Greater ↦ ap (λ fs. (e.0, run_anchor e.1) ∷ fs) (starts_begin es id run)
    ]

pub fresh_start : (id : OpId) (es : Runs) → RowsRise es → AreFilled es → find id_cmp id (rows_in es) ≡ None → anchor_of (starts es) id ≡ None
fresh_start id es h d none =
    elim (lookup (key_eq id) es) as (λ o. lookup (key_eq id) es ≡ o → anchor_of (starts es) id ≡ None) [
      | None ↦ λ s. starts_found id es ∙ ap starts_at s
      | Some run ↦ λ s. (let no = sym none ∙ spot_found id id 0 es h (at_start es id run d s) in absurd (let c : None ≡ Some (letter_at (anchor_at id (run_anchor run) 0) (get_or run.letters.items 0 no_letter)) = no in cc))
    ] refl

pub filled_insert : (es : Runs) (id : OpId) (run : Run) → AreFilled es → IsFilled (id, run) → AreFilled (insert_entry id_cmp es id run)
filled_insert [] id run d k = (k, tt)
filled_insert (e ∷ es) id run d k =
    elim (id_cmp id e.0) as (λ o. id_cmp id e.0 ≡ o → AreFilled (match_ordering o ((id, run) ∷ e ∷ es) ((e.0, run) ∷ es) (e ∷ insert_entry id_cmp es id run))) [
      | Less ↦ λ s. (k, d)
      | Equal ↦ λ s. (subst (λ x. IsFilled (x, run)) (id_cmp_exact id e.0 s) k, d.1)
      | Greater ↦ λ s. (d.0, filled_insert es id run d.1 k)
    ] refl

module _ (id : OpId) where
  run_before : (f : OpId) (at : Anchor) (ls : List Letter) → id_lt f id ≡ true → find id_cmp id (run_rows f at ls) ≡ None → AllBefore (run_rows f at ls) id
  run_before f at [] l n = tt
  run_before f at (x ∷ []) l n = (l, tt)
  run_before f at (x ∷ y ∷ ls) l n =
      let rest = run_rows (id_plus (id_plus f 1) 1) (right_of (id_plus f 1)) ls in
      let row = letter_at (right_of f) y in
      let more : cond (key_eq id (id_plus f 1)) (Some row) (find id_cmp id rest) ≡ None = rw (lt_back f id l) at n in
      let ne : key_eq id (id_plus f 1) ≡ false =
      elim (key_eq id (id_plus f 1)) as (λ b. cond b (Some row) (find id_cmp id rest) ≡ None → b ≡ false) [
        | true ↦ λ k. (let no : Some row ≡ None = k in absurd (let c : Some row ≡ None = no in cc))
        | false ↦ λ k. refl
      ] more in
      (l, run_before (id_plus f 1) (right_of f) (y ∷ ls) (lt_next f id l ne) more)

  run_head : (x : Character) (f : OpId) (at : Anchor) (ls : List Letter) (rows : TextRows) → 0 < length ls → id_cmp id f ≡ Less → put id_cmp id x (run_rows f at ls ++ rows) ≡ (id, x) ∷ (run_rows f at ls ++ rows)
  run_head x f at [] rows n s = absurd (omega arith)
  run_head x f at (l ∷ ls) rows n s =
      let more = run_rows (id_plus f 1) (right_of f) ls ++ rows in
      let first : OpId × Character = (f, letter_at at l) in
      ap (λ o. by_order o ((id, x) ∷ first ∷ more) ((f, x) ∷ more) (first ∷ put id_cmp id x more)) s

  module _ (run : Run) (l : Letter) (one : run.letters.items ≡ l ∷ []) where
    abbrev row : Character
    row = letter_at (run_anchor run) l

    one_row : rows_of_run (id, run) ≡ (id, row) ∷ []
    one_row = ap (run_rows id (run_anchor run)) one

    pub begin_rows : (es : Runs) → AreFilled es → find id_cmp id (rows_in es) ≡ None → rows_in (insert_entry id_cmp es id run) ≡ put id_cmp id row (rows_in es)
    begin_rows [] d n = ap (λ rs. rs ++ []) one_row
    begin_rows (e ∷ es) d n =
        let own = rows_of_run e in
        let none = none_in_front id own (rows_in es) n in
        elim (id_cmp id e.0)
        as (λ o. id_cmp id e.0 ≡ o → rows_in (match_ordering o ((id, run) ∷ e ∷ es) ((e.0, run) ∷ es) (e ∷ insert_entry id_cmp es id run)) ≡ put id_cmp id row (rows_in (e ∷ es))) [
          | Less ↦ λ s. ap (λ rs. rs ++ rows_in (e ∷ es)) one_row ∙ sym (run_head row e.0 (run_anchor e.1) e.1.letters.items (rows_in es) d.0.some s)
          | Equal ↦ λ s.
              let same : id ≡ id_plus e.0 0 = id_cmp_exact id e.0 s ∙ sym (plus_zero e.0) in
              let some = ap (λ y. find id_cmp y own) same ∙ run_found e.0 (run_anchor e.1) e.1.letters.items 0 d.0.some in
              let no = sym none ∙ some in
              absurd (let c : None ≡ Some (letter_at (run_anchor e.1) (get_or e.1.letters.items 0 no_letter)) = no in cc)
          | Greater ↦ λ s.
              let before = run_before e.0 (run_anchor e.1) e.1.letters.items (sym (gt_is_lt id e.0) ∙ ap is_gt s) none in
              ap (λ rs. own ++ rs) (begin_rows es d.1 (sym (found_behind id own (rows_in es) none) ∙ n)) ∙ sym (put_behind own (rows_in es) id row before)
        ] refl

-- ---- a run anew

module _ (f : OpId) (run other : Run) (same : run_anchor other ≡ run_anchor run) where
  pub starts_set : (es : Runs) → lookup (key_eq f) es ≡ Some run → starts (set_value (is_at (id_cmp f)) es other) ≡ starts es
  starts_set [] t = cc
  starts_set (e ∷ es) t =
      elim (key_eq f e.0) as (λ b. cond b (Some e.1) (lookup (key_eq f) es) ≡ Some run → starts (cond b ((e.0, other) ∷ es) (e ∷ set_value (is_at (id_cmp f)) es other)) ≡ starts (e ∷ es)) [
        | true ↦ λ k. (let is : run ≡ e.1 = (let c : Some e.1 ≡ Some run = k in cc) in ap (λ a. (e.0, a) ∷ starts es) (same ∙ ap run_anchor is))
        | false ↦ λ k. ap (λ fs. (e.0, run_anchor e.1) ∷ fs) (starts_set es k)
      ] t

pub filled_set : (es : Runs) (f : OpId) (run : Run) → AreFilled es → IsFilled (f, run) → AreFilled (set_value (is_at (id_cmp f)) es run)
filled_set [] f run d k = tt
filled_set (e ∷ es) f run d k =
    elim (key_cases f e.0) as (λ _. AreFilled (set_value (is_at (id_cmp f)) (e ∷ es) run)) [
      | inl s ↦
          let own : is_at (id_cmp f) e.0 ≡ true = ap (λ x. key_eq x e.0) s ∙ key_itself e.0 in
          rw own (subst (λ x. IsFilled (x, run)) s k, d.1)
      | inr ne ↦ (let apart : is_at (id_cmp f) e.0 ≡ false = ne in rw apart (d.0, filled_set es f run d.1 k))
    ]

-- ---- rows more at the end of a run

run_more : (f : OpId) (at : Anchor) (ls ms : List Letter) → run_rows f at (ls ++ ms) ≡ run_rows f at ls ++ run_rows (id_plus f (length ls)) (anchor_at f at (length ls)) ms
run_more f at [] ms = ap (λ x. run_rows x at ms) (sym (plus_zero f))
run_more f at (x ∷ ls) ms =
    ap (λ rs. (f, letter_at at x) ∷ rs) (run_more (id_plus f 1) (right_of f) ls ms
    ∙ (λ i. run_rows (id_plus f 1) (right_of f) ls ++ run_rows (plus_plus f (length ls) i) (anchor_next f at (length ls) i) ms))

run_below : (g f : OpId) (at : Anchor) (ls : List Letter) → ((k : ℕ) → k < length ls → id_lt (id_plus f k) g ≡ true) → AllBefore (run_rows f at ls) g
run_below g f at [] h = tt
run_below g f at (l ∷ ls) h =
    (ap (λ x. id_lt x g) (sym (plus_zero f)) ∙ h 0 (omega arith), run_below g (id_plus f 1) (right_of f) ls (λ k m. ap (λ x. id_lt x g) (plus_plus f k) ∙ h (suc k) (omega arith)))

below_next : (q : OpId) (rows : TextRows) → below_all id_cmp q rows ≡ true → find id_cmp (id_plus q 1) rows ≡ None → below_all id_cmp (id_plus q 1) rows ≡ true
below_next q [] b n = refl
below_next q (e ∷ rows) b n =
    let k = both _ _ b in
    elim (key_cases (id_plus q 1) e.0) as (λ _. below_all id_cmp (id_plus q 1) (e ∷ rows) ≡ true) [
      | inl s ↦
          let own : key_eq (id_plus q 1) e.0 ≡ true = ap (λ x. key_eq x e.0) s ∙ key_itself e.0 in
          let no : Some e.1 ≡ None = rw own at n in
          absurd (let c : Some e.1 ≡ None = no in cc)
      | inr ne ↦
          let less : id_lt (id_plus q 1) e.0 ≡ true = lt_next q e.0 k.0 (key_equiv.symm e.0 (id_plus q 1) ∙ ne) in
          let n' : find id_cmp (id_plus q 1) rows ≡ None = rw ne at n in
          rw (less, below_next q rows k.1 n') refl
    ]

-- letters more behind rows that come before them
letters_behind : (xs ys : TextRows) (id : OpId) (at : Anchor) (ls : List Letter) → AllBefore xs id → with_letters (xs ++ ys) id at ls ≡ xs ++ with_letters ys id at ls
letters_behind xs ys id at [] h = refl
letters_behind xs ys id at (l ∷ ls) h =
    ap (λ rows. with_letters rows (id_plus id 1) (right_of id) ls) (put_behind xs ys id (letter_at at l) h)
    ∙ letters_behind xs (put id_cmp id (letter_at at l) ys) (id_plus id 1) (right_of id) ls (before_trans id (id_plus id 1) xs h (lt_plus id 1 (omega arith)))

-- letters more before rows that come behind them
letters_front : (ys : TextRows) (id : OpId) (at : Anchor) (ls : List Letter) → below_all id_cmp id ys ≡ true → AreFree ys id (length ls) → with_letters ys id at ls ≡ run_rows id at ls ++ ys
letters_front ys id at [] b n = refl
letters_front ys id at (l ∷ []) b n = put_front ys id (letter_at at l) b
letters_front ys id at (l ∷ m ∷ ls) b n =
    let row : OpId × Character = (id, letter_at at l) in
    ap (λ rows. with_letters rows (id_plus id 1) (right_of id) (m ∷ ls)) (put_front ys id (letter_at at l) b)
    ∙ letters_behind (row ∷ []) ys (id_plus id 1) (right_of id) (m ∷ ls) (lt_plus id 1 (omega arith), tt)
    ∙ ap (λ rows. row ∷ rows) (letters_front ys (id_plus id 1) (right_of id) (m ∷ ls) (below_next id ys b n.1.0) n.1)

free_behind : (xs ys : TextRows) (ids : List OpId) → AllByRecursion (λ q. find id_cmp q (xs ++ ys) ≡ None) ids → AllByRecursion (λ q. find id_cmp q ys ≡ None) ids
free_behind xs ys [] h = tt
free_behind xs ys (q ∷ ids) h = (sym (found_behind q xs ys (none_in_front q xs ys h.0)) ∙ h.0, free_behind xs ys ids h.1)

module _ (f : OpId) (k : ℕ) (ls : List Letter) (run other : Run) (same : run_anchor other ≡ run_anchor run) (more : other.letters.items ≡ run.letters.items ++ ls) (last : length run.letters.items ≡ suc k) where
  abbrev new_id : OpId
  new_id = id_plus f (suc k)

  abbrev new_at : Anchor
  new_at = right_of (id_plus f k)

  last_in : (es : Runs) → lookup (key_eq f) es ≡ Some run → IsIn es (id_plus f k) f k
  last_in es t = record { run = run; there = t; within = omega (arith, last); is = refl }

  pub extend_rows : (es : Runs) → RowsRise es → lookup (key_eq f) es ≡ Some run → find id_cmp new_id (rows_in es) ≡ None → AreFree (rows_in es) new_id (length ls) → rows_in (set_value (is_at (id_cmp f)) es other) ≡ with_letters (rows_in es) new_id new_at ls
  extend_rows [] h t n free = cc
  extend_rows (e ∷ es) h t n free =
      let own = rows_of_run e in
      let rest = rows_in es in
      let none = none_in_front new_id own rest n in
      let none_behind : find id_cmp new_id rest ≡ None = sym (found_behind new_id own rest none) ∙ n in
      let free_rest = free_behind own rest (run_of new_id (length ls)) free in
      elim (key_cases f e.0) as (λ _. rows_in (set_value (is_at (id_cmp f)) (e ∷ es) other) ≡ with_letters (own ++ rest) new_id new_at ls) [
        | inl s ↦
            let yes : is_at (id_cmp f) e.0 ≡ true = ap (λ x. key_eq x e.0) s ∙ key_itself e.0 in
            let is : Some e.1 ≡ Some run = rw yes at t in
            let this : e.1 ≡ run = cc in
            let long : length e.1.letters.items ≡ suc k = ap (λ (r : Run). length r.letters.items) this ∙ last in
            let here : id_plus e.0 k ≡ id_plus f k = ap (λ x. id_plus x k) (sym s) in
            let found = ap (λ x. find id_cmp x own) (sym here) ∙ run_found e.0 (run_anchor e.1) e.1.letters.items k (omega (arith, long)) in
            let below : below_all id_cmp new_id rest ≡ true =
            subst (λ x. below_all id_cmp x rest ≡ true) (plus_then f k) (below_next (id_plus f k) rest (above_front (id_plus f k) _ own rest h found) (ap (λ x. find id_cmp x rest) (plus_then f k) ∙ none_behind)) in
            let before : AllBefore own new_id =
            run_below new_id e.0 (run_anchor e.1) e.1.letters.items (λ j m. ap (λ x. id_lt (id_plus x j) new_id) (sym s) ∙ plus_lt f j (suc k) (omega (arith, long))) in
            let grown : rows_of_run (e.0, other) ≡ own ++ run_rows new_id new_at ls =
            (λ i. run_rows e.0 ((same ∙ ap run_anchor (sym this)) i) ((more ∙ ap (λ (r : Run). r.letters.items ++ ls) (sym this)) i)) ∙ run_more e.0 (run_anchor e.1) e.1.letters.items ls
            ∙ (λ i. own ++ run_rows (id_plus e.0 (long i)) (anchor_at e.0 (run_anchor e.1) (long i)) ls) ∙ (λ i. own ++ run_rows (id_plus (sym s i) (suc k)) (right_of (id_plus (sym s i) k)) ls) in
            rw yes
            (ap (λ rs. rs ++ rest) grown ∙ append_assoc own (run_rows new_id new_at ls) rest ∙ ap (λ rs. own ++ rs) (sym (letters_front rest new_id new_at ls below free_rest)) ∙ sym (letters_behind own rest new_id new_at ls before))
        | inr ne ↦
            let no : is_at (id_cmp f) e.0 ≡ false = ne in
            let t' : lookup (key_eq f) es ≡ Some run = rw ne at t in
            let rise = sorted_behind own rest h in
            let before = before_trans (id_plus f k) new_id own (all_before (id_plus f k) _ own rest h (spot_found (id_plus f k) f k es rise (last_in es t'))) (plus_lt f k (suc k) (omega arith)) in
            rw no (ap (λ rs. own ++ rs) (extend_rows es rise t' none_behind free_rest) ∙ sym (letters_behind own rest new_id new_at ls before))
      ]

-- the row is the last of its run, where there is no next one
pub is_last : (es : Runs) (f : OpId) (k : ℕ) → RowsRise es → (i : IsIn es (id_plus f k) f k) → find id_cmp (id_plus f (suc k)) (rows_in es) ≡ None → length i.run.letters.items ≡ suc k
is_last es f k h i n =
    let here : k < length i.run.letters.items = i.within in
    elim (nat_lt (suc k) (length i.run.letters.items)) as (λ b. nat_lt (suc k) (length i.run.letters.items) ≡ b → length i.run.letters.items ≡ suc k) [
      | true ↦ λ t.
          let next : IsIn es (id_plus f (suc k)) f (suc k) = record { run = i.run; there = i.there; within = true_less (suc k) (length i.run.letters.items) t; is = refl } in
          let no = sym n ∙ spot_found (id_plus f (suc k)) f (suc k) es h next in
          absurd (let c : None ≡ Some (letter_at (right_of (id_plus f k)) (get_or i.run.letters.items (suc k) no_letter)) = no in cc)
      | false ↦ λ t. (let most = false_le (suc k) (length i.run.letters.items) t in omega arith)
    ] refl

-- the same rows in a run that was written anew
pub same_rows : (es : Runs) (f : OpId) (run other : Run) → run_anchor other ≡ run_anchor run → other.letters.items ≡ run.letters.items → lookup (key_eq f) es ≡ Some run → rows_in (set_value (is_at (id_cmp f)) es other) ≡ rows_in es
same_rows [] f run other a l t = cc
same_rows (e ∷ es) f run other a l t =
    elim (key_eq f e.0) as (λ b. cond b (Some e.1) (lookup (key_eq f) es) ≡ Some run → rows_in (cond b ((e.0, other) ∷ es) (e ∷ set_value (is_at (id_cmp f)) es other)) ≡ rows_in (e ∷ es)) [
      | true ↦ λ k.
          let is : run ≡ e.1 = (let c : Some e.1 ≡ Some run = k in cc) in
          λ i. run_rows e.0 ((a ∙ ap run_anchor is) i) ((l ∙ ap (λ (r : Run). r.letters.items) is) i) ++ rows_in es
      | false ↦ λ k. ap (λ rs. rows_of_run e ++ rs) (same_rows es f run other a l k)
    ] t

-- ---- a row marked

pub edited_none : (id : OpId) (g : Character → Character) (rows : TextRows) → find id_cmp id rows ≡ None → edited rows id g ≡ rows
edited_none id g [] n = refl
edited_none id g (e ∷ rows) n =
    elim (key_eq id e.0) as (λ b. cond b (Some e.1) (find id_cmp id rows) ≡ None → (e.0, cond b (g e.1) e.1) ∷ edited rows id g ≡ e ∷ rows) [
      | true ↦ λ k. (let no : Some e.1 ≡ None = k in cc)
      | false ↦ λ k. ap (λ rs. e ∷ rs) (edited_none id g rows k)
    ] n

not_in_rest : (f : OpId) (at : Anchor) (ls : List Letter) → find id_cmp (id_plus f 0) (run_rows (id_plus f 1) at ls) ≡ None
not_in_rest f at ls =
    elim (find id_cmp (id_plus f 0) (run_rows (id_plus f 1) at ls)) as (λ o. find id_cmp (id_plus f 0) (run_rows (id_plus f 1) at ls) ≡ o → o ≡ None) [
      | None ↦ λ s. refl
      | Some x ↦ λ s.
          let r = found_run (id_plus f 0) (id_plus f 1) at ls x s in
          let no = plus_exact f 0 (suc r.0) (r.2 ∙ plus_plus f r.0) in
          absurd (omega (arith, no))
    ] refl

run_killed : (f : OpId) (at : Anchor) (ls : List Letter) (k : ℕ) → k < length ls → run_rows f at (set ls k (dead_letter (get_or ls k no_letter))) ≡ edited (run_rows f at ls) (id_plus f k) killed
run_killed f at [] k h = absurd (omega arith)
run_killed f at (l ∷ ls) zero h =
    let own : key_eq (id_plus f 0) f ≡ true = ap (λ x. key_eq x f) (plus_zero f) ∙ key_itself f in
    let rest = run_rows (id_plus f 1) (right_of f) ls in
    rw own (ap (λ rs. (f, letter_at at (dead_letter l)) ∷ rs) (sym (edited_none (id_plus f 0) killed rest (not_in_rest f (right_of f) ls))))
run_killed f at (l ∷ ls) (suc k) h =
    let rest = run_rows (id_plus f 1) (right_of f) ls in
    rw (plus_apart f k)
    (ap (λ rs. (f, letter_at at l) ∷ rs) (run_killed (id_plus f 1) (right_of f) ls k (omega arith) ∙ ap (λ x. edited rest x killed) (plus_plus f k)))

module _ (f : OpId) (k : ℕ) (run other : Run) (same : run_anchor other ≡ run_anchor run) (marked : other.letters.items ≡ set run.letters.items k (dead_letter (get_or run.letters.items k no_letter))) (within : k < length run.letters.items) where
  abbrev at_k : OpId
  at_k = id_plus f k

  k_in : (es : Runs) → lookup (key_eq f) es ≡ Some run → IsIn es at_k f k
  k_in es t = record { run = run; there = t; within = within; is = refl }

  pub kill_rows : (es : Runs) → RowsRise es → lookup (key_eq f) es ≡ Some run → rows_in (set_value (is_at (id_cmp f)) es other) ≡ edited (rows_in es) at_k killed
  kill_rows [] h t = cc
  kill_rows (e ∷ es) h t =
      let own = rows_of_run e in
      let rest = rows_in es in
      let rise = sorted_behind own rest h in
      let apart : edited (own ++ rest) at_k killed ≡ edited own at_k killed ++ edited rest at_k killed = map-append (edit_one at_k killed) own rest in
      elim (key_cases f e.0) as (λ _. rows_in (set_value (is_at (id_cmp f)) (e ∷ es) other) ≡ edited (own ++ rest) at_k killed) [
        | inl s ↦
            let yes : is_at (id_cmp f) e.0 ≡ true = ap (λ x. key_eq x e.0) s ∙ key_itself e.0 in
            let is : Some e.1 ≡ Some run = rw yes at t in
            let this : e.1 ≡ run = cc in
            let less : k < length e.1.letters.items = subst (λ (r : Run). k < length r.letters.items) (sym this) within in
            let here : at_k ≡ id_plus e.0 k = ap (λ x. id_plus x k) s in
            let none : find id_cmp at_k rest ≡ None =
            elim (find id_cmp at_k rest) as (λ o. find id_cmp at_k rest ≡ o → o ≡ None) [
              | None ↦ λ q. refl
              | Some x ↦ λ q. absurd (not_both at_k e es k h less here x q)
            ] refl in
            let changed : rows_of_run (e.0, other) ≡ edited own at_k killed =
            (λ i. run_rows e.0 ((same ∙ ap run_anchor (sym this)) i) ((marked ∙ ap (λ (r : Run). set r.letters.items k (dead_letter (get_or r.letters.items k no_letter))) (sym this)) i))
            ∙ run_killed e.0 (run_anchor e.1) e.1.letters.items k less ∙ ap (λ x. edited own x killed) (sym here) in
            rw yes ((λ i. changed i ++ sym (edited_none at_k killed rest none) i) ∙ sym apart)
        | inr ne ↦
            let no : is_at (id_cmp f) e.0 ≡ false = ne in
            let t' : lookup (key_eq f) es ≡ Some run = rw ne at t in
            let none = none_before own at_k (all_before at_k _ own rest h (spot_found at_k f k es rise (k_in es t'))) in
            rw no ((λ i. sym (edited_none at_k killed own none) i ++ kill_rows es rise t' i) ∙ sym apart)
      ]
