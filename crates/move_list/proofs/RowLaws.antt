-- Rows that stand by rising keys, taken one by one.
use Rattle.std.specs.Prelude.{◌≡◌, ℕ, ◌+◌, ◌<◌, true, false, cond, Option, Some, None, List, [], ◌∷◌, ◌++◌, map, refl, length, take, drop}
use Rattle.std.proofs.Common.{sym, ◌∙◌, ap, subst, get_or, append_assoc}
use Rattle.std.proofs.lemmas.List.{map-append, take_more, drop_more, take-append-drop}
use Rattle.std.specs.List.{AllByRecursion}
use Rattle.std.specs.List.Sorted.{IsStrictlySortedBy}
use Rattle.std.specs.Ordering.{is_eq, ordering_then}
use Rattle.std.specs.Cmp.{tied_itself}
use Rattle.std.specs.FinMap.{find, get, insert, from_entries, get-from_entries, from_entries_push}
use Rattle.std.specs.declared.cmp.Ordering.TheVariants.{Less}
use Rattle.op_ids.specs.declared.OpId.{OpId}
use Rattle.op_ids.specs.declared.Side.TheVariants.{Left}
use Rattle.op_ids.specs.Order.{id_cmp, id_lt, root_id}
use Rattle.op_ids.proofs.OrderLaws.{id_cmp_total, less_from_is_lt}
use Rattle.model.specs.State.{RowKey, row_cmp}
use Rattle.model.specs.BaseItem.{keys}
use Rattle.model_laws.proofs.Tables.{row_total, row_exact, row_eq}
use Rattle.model_laws.proofs.KeptTables.{none_among, below_next}
use Rattle.op_grammar.specs.declared.value.OwnValue.TheVariants as own
use Rattle.fugue_tree.specs.declared.tree.PlaceRow.{PlaceRow}
use Rattle.move_list.specs.declared.lists.ElementRow.{ElementRow}

-- what a read of a list of rows has past its end
abbrev pub no_place : PlaceRow
no_place = record { owner = root_id; id = root_id; anchor = root_id; side = Left }

abbrev pub no_element : ElementRow
no_element = record { node = root_id; id = root_id; position = root_id; writer = root_id; value = own.Null; dropped = false }

-- a row before another of its node
pub row_before : (n i j : OpId) → id_lt i j ≡ true → row_cmp (n, i) (n, j) ≡ Less
row_before n i j h = ap (λ r. ordering_then r (id_cmp i j)) (tied_itself id_cmp_total n) ∙ less_from_is_lt (id_cmp i j) h

module _ {X : Type 0} where
  found_front : (q : RowKey) (x : X) (front back : List (RowKey × X)) → find row_cmp q front ≡ Some x → find row_cmp q (front ++ back) ≡ Some x
  found_front q x [] back h = cc
  found_front q x (e ∷ front) back h =
      elim (row_eq q e.0) as (λ b. cond b (Some e.1) (find row_cmp q front) ≡ Some x → cond b (Some e.1) (find row_cmp q (front ++ back)) ≡ Some x) [
        | true ↦ λ k. k
        | false ↦ λ k. found_front q x front back k
      ] h

  found_behind : (q : RowKey) (front back : List (RowKey × X)) → find row_cmp q front ≡ None → find row_cmp q (front ++ back) ≡ find row_cmp q back
  found_behind q [] back h = refl
  found_behind q (e ∷ front) back h =
      elim (row_eq q e.0) as (λ b. cond b (Some e.1) (find row_cmp q front) ≡ None → cond b (Some e.1) (find row_cmp q (front ++ back)) ≡ find row_cmp q back) [
        | true ↦ λ k. cc
        | false ↦ λ k. found_behind q front back k
      ] h

  not_behind : (q : RowKey) (front back : List (RowKey × X)) → find row_cmp q back ≡ None → find row_cmp q (front ++ back) ≡ find row_cmp q front
  not_behind q [] back h = h
  not_behind q (e ∷ front) back h = ap (cond (row_eq q e.0) (Some e.1)) (not_behind q front back h)

  none_above : (q k : RowKey) (es : List (RowKey × X)) → row_cmp q k ≡ Less → AllByRecursion (λ y. row_cmp k y ≡ Less) (keys es) → find row_cmp q es ≡ None
  none_above q k [] l h = refl
  none_above q k (e ∷ es) l h =
      let apart : row_eq q e.0 ≡ false = ap is_eq (row_total.trans q k e.0 l h.0) in
      rw apart (none_above q k es l h.1)

  above_key : (front : List (RowKey × X)) (e : RowKey × X) (back : List (RowKey × X)) → IsStrictlySortedBy row_cmp (keys (front ++ e ∷ back)) → AllByRecursion (λ y. row_cmp e.0 y ≡ Less) (keys back)
  unfolding IsStrictlySortedBy
  above_key [] e back h = h.0
  above_key (x ∷ front) e back h = above_key front e back h.1

  none_from : (q : RowKey) (front : List (RowKey × X)) (e : RowKey × X) (back : List (RowKey × X)) → IsStrictlySortedBy row_cmp (keys (front ++ e ∷ back)) → row_cmp q e.0 ≡ Less → find row_cmp q (e ∷ back) ≡ None
  none_from q front e back h l = (let apart : row_eq q e.0 ≡ false = ap is_eq l in rw apart (none_above q e.0 back l (above_key front e back h)))

  fresh_at : (front : List (RowKey × X)) (e : RowKey × X) (back : List (RowKey × X)) → IsStrictlySortedBy row_cmp (keys (front ++ e ∷ back)) → find row_cmp e.0 front ≡ None
  fresh_at front e back h =
      none_among row_total front e.0 (below_next row_total (keys front) e.0 (keys back) (subst (IsStrictlySortedBy row_cmp) (map-append (λ (x : RowKey × X). x.0) front (e ∷ back)) h))

module _ {A X : Type 0} (entry : A → RowKey × X) (rows : List A) (i : ℕ) (d : A) (l : i < length rows) (rise : IsStrictlySortedBy row_cmp (keys (map entry rows))) where
  abbrev before : List (RowKey × X)
  before = map entry (take i rows)

  abbrev behind : List (RowKey × X)
  behind = map entry (drop (i + 1) rows)

  abbrev next : RowKey × X
  next = entry (get_or rows i d)

  parts : map entry rows ≡ before ++ next ∷ behind
  parts =
      ap (map entry) (sym (take-append-drop i rows) ∙ ap (λ rs. take i rows ++ rs) (drop_more rows i d l))
      ∙ map-append entry (take i rows) (get_or rows i d ∷ drop (i + 1) rows)

  sorted : IsStrictlySortedBy row_cmp (keys (before ++ next ∷ behind))
  sorted = subst (λ es. IsStrictlySortedBy row_cmp (keys es)) parts rise

  fresh : find row_cmp next.0 before ≡ None
  fresh = fresh_at before next behind sorted

  so_many : map entry (take (i + 1) rows) ≡ before ++ next ∷ []
  so_many = ap (map entry) (take_more rows i d l) ∙ map-append entry (take i rows) (get_or rows i d ∷ [])

  pub next_fresh : get (from_entries {R = row_cmp} before) next.0 ≡ None
  next_fresh = get-from_entries row_total before next.0 ∙ fresh

  pub next_now : from_entries {R = row_cmp} (map entry (take (i + 1) rows)) ≡ insert (from_entries before) next.0 next.1
  next_now = ap from_entries so_many ∙ from_entries_push row_total row_exact before next.0 next.1 fresh

  whole : (q : RowKey) → get (from_entries {R = row_cmp} (map entry rows)) q ≡ find row_cmp q (before ++ next ∷ behind)
  whole q = get-from_entries row_total (map entry rows) q ∙ ap (find row_cmp q) parts

  pub next_is : get (from_entries {R = row_cmp} (map entry rows)) next.0 ≡ Some next.1
  next_is = whole next.0 ∙ found_behind next.0 before (next ∷ behind) fresh ∙ (let own : row_eq next.0 next.0 ≡ true = ap is_eq (tied_itself row_total next.0) in rw own refl)

  pub before_next : (q : RowKey) → row_cmp q next.0 ≡ Less → get (from_entries {R = row_cmp} before) q ≡ get (from_entries {R = row_cmp} (map entry rows)) q
  before_next q less =
      get-from_entries row_total before q ∙ sym (not_behind q before (next ∷ behind) (none_from q before next behind sorted less)) ∙ sym (whole q)

  -- what is in the rows up to this one is in all rows
  pub up_to_next : (q : RowKey) (x : X) → get (from_entries {R = row_cmp} (map entry (take (i + 1) rows))) q ≡ Some x → get (from_entries {R = row_cmp} (map entry rows)) q ≡ Some x
  up_to_next q x h =
      let some : find row_cmp q (before ++ next ∷ []) ≡ Some x = sym (get-from_entries row_total (map entry (take (i + 1) rows)) q ∙ ap (find row_cmp q) so_many) ∙ h in
      let all : find row_cmp q ((before ++ next ∷ []) ++ behind) ≡ Some x = found_front q x (before ++ next ∷ []) behind some in
      whole q ∙ ap (find row_cmp q) (sym (append_assoc before (next ∷ []) behind)) ∙ all
