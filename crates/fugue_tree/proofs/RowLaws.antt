-- Rows as they are kept.
use Rattle.std.specs.Prelude.{◌≡◌, ℕ, true, false, cond, Option, Some, None, is_some, List, [], ◌∷◌, ◌++◌, map, refl, ◌≢◌}
use Rattle.std.proofs.Common.{sym, ◌∙◌, ap, subst, inl, inr, suc, ◌+◌, ◌<◌, length, get_or, take, drop, drop-cons}
use Rattle.std.proofs.lemmas.List.{map-append, take-append-drop, take_more}
use Rattle.std.specs.Map.{lookup}
use Rattle.std.specs.List.{AllByRecursion}
use Rattle.std.specs.Ordering.{match_ordering, ordering_reverse}
use Rattle.std.specs.BTreeMap.{insert_entry}
use Rattle.std.specs.FinMap.{is_sorted}
use Rattle.std.specs.FinMap.Entries.{by_order, below_all}
use Rattle.std.specs.declared.cmp.Ordering.TheVariants.{Less, Equal, Greater}
use Rattle.op_ids.specs.declared.OpId.{OpId}
use Rattle.op_ids.specs.declared.Side.TheVariants.{Left}
use Rattle.op_ids.specs.Order.{id_cmp, id_lt, root_id}
use Rattle.op_ids.proofs.OrderLaws.{id_cmp_total, eq_by_cmp-id, less_from_is_lt, lt_trans, lt_apart}
use Rattle.model.specs.Operation.{Anchor}
use Rattle.model.specs.Walk.{Rows}
use Rattle.walk_laws.specs.Insertion.{anchor_of, is_row, HangsWell, IsInsertionTree, with_row}
use Rattle.walk_laws.proofs.Walks.{key_eq, key_itself, lt_back, both}
use Rattle.fugue_tree.specs.declared.tree.Anchor as code
use Rattle.fugue_tree.specs.declared.tree.PlaceRow.{PlaceRow}
use Rattle.fugue_tree.specs.Tree.{entry_of, row_of, kept_anchor, kept_entry, kept_rows}

abbrev pub kept_if : Option code.Anchor → Option Anchor
kept_if None = None
kept_if (Some a) = Some (kept_anchor a)

pub anchor_of-kept : (es : List (OpId × code.Anchor)) (q : OpId) → anchor_of (kept_rows es) q ≡ kept_if (lookup (key_eq q) es)
anchor_of-kept [] q = refl
anchor_of-kept (e ∷ es) q =
    elim (key_eq q e.0) as (λ b. cond b (Some (kept_anchor e.1)) (anchor_of (kept_rows es) q) ≡ kept_if (cond b (Some e.1) (lookup (key_eq q) es))) [ true ↦ refl | false ↦ anchor_of-kept es q ]

pub is_some-kept : (o : Option code.Anchor) → is_some (kept_if o) ≡ is_some o
is_some-kept None = refl
is_some-kept (Some a) = refl

pub kept_rows-insert : (es : List (OpId × code.Anchor)) (id : OpId) (a : code.Anchor) → kept_rows (insert_entry id_cmp es id a) ≡ with_row (kept_rows es) id (kept_anchor a)
kept_rows-insert [] id a = refl
kept_rows-insert (e ∷ es) id a =
    elim (id_cmp id e.0)
    as (λ o. kept_rows (match_ordering o ((id, a) ∷ e ∷ es) ((e.0, a) ∷ es) (e ∷ insert_entry id_cmp es id a))
    ≡ by_order o ((id, kept_anchor a) ∷ kept_entry e ∷ kept_rows es) ((e.0, kept_anchor a) ∷ kept_rows es) (kept_entry e ∷ with_row (kept_rows es) id (kept_anchor a))) [
      | Less ↦ refl
      | Equal ↦ refl
      | Greater ↦ ap (λ fs. kept_entry e ∷ fs) (kept_rows-insert es id a)
    ]

-- ---- rows one after the other

abbrev AllBefore : Rows → OpId → Type 0
AllBefore rows id = AllByRecursion (λ e. id_lt e.0 id ≡ true) rows

below_at : (i : OpId) (front : Rows) (e : OpId × Anchor) (back : Rows) → below_all id_cmp i (front ++ e ∷ back) ≡ true → id_lt i e.0 ≡ true
below_at i [] e back h = (both _ _ h).0
below_at i (x ∷ front) e back h = below_at i front e back (both _ _ h).1

front_before : (front : Rows) (e : OpId × Anchor) (back : Rows) → is_sorted id_cmp (front ++ e ∷ back) ≡ true → AllBefore front e.0
front_before [] e back h = tt
front_before (x ∷ front) e back h = (below_at x.0 front e back (both _ _ h).0, front_before front e back (both _ _ h).1)

none_before : (front : Rows) (id : OpId) → AllBefore front id → anchor_of front id ≡ None
none_before [] id h = refl
none_before (x ∷ front) id h = rw (lt_back x.0 id h.0) (none_before front id h.1)

found_behind : (front back : Rows) (id : OpId) → anchor_of front id ≡ None → anchor_of (front ++ back) id ≡ anchor_of back id
found_behind [] back id h = refl
found_behind (x ∷ front) back id h =
    elim (key_eq id x.0) as (λ b. cond b (Some x.1) (anchor_of front id) ≡ None → cond b (Some x.1) (anchor_of (front ++ back) id) ≡ anchor_of back id) [
      | true ↦ λ k. cc
      | false ↦ λ k. found_behind front back id k
    ] h

found_before : (front back : Rows) (id : OpId) → anchor_of back id ≡ None → anchor_of (front ++ back) id ≡ anchor_of front id
found_before [] back id h = h
found_before (x ∷ front) back id h = ap (cond (key_eq id x.0) (Some x.1)) (found_before front back id h)

apart_above : (a b : OpId) → id_lt a b ≡ true → key_eq a b ≡ false
apart_above a b l = eq_by_cmp-id a b ∙ lt_apart a b l

none_above : (i : OpId) (rows : Rows) (id : OpId) → id_lt id i ≡ true → below_all id_cmp i rows ≡ true → anchor_of rows id ≡ None
none_above i [] id l h = refl
none_above i (x ∷ rows) id l h =
    let k = both _ _ h in
    let less : id_lt id x.0 ≡ true = lt_trans id i x.0 l k.0 in
    let apart : key_eq id x.0 ≡ false = apart_above id x.0 less in
    rw apart (none_above i rows id l k.1)

put_last : (front : Rows) (id : OpId) (a : Anchor) → AllBefore front id → with_row front id a ≡ front ++ (id, a) ∷ []
put_last [] id a h = refl
put_last (x ∷ front) id a h =
    ap (λ o. by_order o ((id, a) ∷ x ∷ front) ((x.0, a) ∷ front) (x ∷ with_row front id a)) (id_cmp_total.antisymm id x.0 ∙ ap ordering_reverse (less_from_is_lt (id_cmp x.0 id) h.0))
    ∙ ap (λ rows. x ∷ rows) (put_last front id a h.1)

sorted_behind : (front : Rows) (back : Rows) → is_sorted id_cmp (front ++ back) ≡ true → is_sorted id_cmp back ≡ true
sorted_behind [] back h = h
sorted_behind (x ∷ front) back h = sorted_behind front back (both _ _ h).1

none_at : (i : OpId) (e : OpId × Anchor) (rows : Rows) → id_lt i e.0 ≡ true → below_all id_cmp e.0 rows ≡ true → anchor_of (e ∷ rows) i ≡ None
none_at i e rows l h = rw (apart_above i e.0 l) (none_above e.0 rows i l h)

-- what an insertion tree says of a row behind others
pub record NextRow (front : Rows) (e : OpId × Anchor) : Type 0 where
  pub fresh : is_row front e.0 ≡ false
  pub no_head : e.0 ≢ root_id
  pub hangs : HangsWell front e.0 e.1
  pub now : with_row front e.0 e.1 ≡ front ++ e ∷ []

pub next_row : (front : Rows) (e : OpId × Anchor) (back : Rows) → IsInsertionTree (front ++ e ∷ back) → NextRow front e
next_row front e back t =
    let rows = front ++ e ∷ back in
    let before = front_before front e back t.rising in
    let none = none_before front e.0 before in
    let found : anchor_of rows e.0 ≡ Some e.1 = found_behind front (e ∷ back) e.0 none ∙ (let sure : key_eq e.0 e.0 ≡ true = key_itself e.0 in rw sure refl) in
    let behind = both _ _ (sorted_behind front (e ∷ back) t.rising) in
    record {
      fresh = ap is_some none;
      no_head = λ same. (let no : None ≡ Some e.1 = sym t.head ∙ ap (anchor_of rows) (sym same) ∙ found in absurd (let c : None ≡ Some e.1 = no in cc));
      hangs =
          elim (t.anchors e.0 e.1 found) as (λ _. HangsWell front e.0 e.1) [
            | inl h ↦ inl h
            | inr h ↦
                let lesser : id_lt e.1.on e.0 ≡ true = h.1 in
                inr (ap is_some (sym (found_before front (e ∷ back) e.1.on (none_at e.1.on e back lesser behind.0))) ∙ h.0, lesser)
          ];
      now = put_last front e.0 e.1 before;
    }

abbrev pub no_row : PlaceRow
no_row = record { owner = root_id; id = root_id; anchor = root_id; side = Left }

module _ (rows : List PlaceRow) (i : ℕ) (d : PlaceRow) where
  parts : i < length rows → map entry_of rows ≡ map entry_of (take i rows) ++ entry_of (get_or rows i d) ∷ map entry_of (drop (suc i) rows)
  parts h =
      ap (map entry_of) (sym (take-append-drop i rows) ∙ ap (λ more. take i rows ++ more) (drop-cons rows i d h))
      ∙ map-append entry_of (take i rows) (get_or rows i d ∷ drop (suc i) rows)

  pub next_at : IsInsertionTree (map entry_of rows) → i < length rows → NextRow (map entry_of (take i rows)) (entry_of (get_or rows i d))
  next_at t h = next_row (map entry_of (take i rows)) (entry_of (get_or rows i d)) (map entry_of (drop (suc i) rows)) (subst IsInsertionTree (parts h) t)

  pub rows_more : i < length rows → map entry_of (take (i + 1) rows) ≡ map entry_of (take i rows) ++ entry_of (get_or rows i d) ∷ []
  rows_more h = ap (map entry_of) (take_more rows i d h) ∙ map-append entry_of (take i rows) (get_or rows i d ∷ [])

-- ---- rows that were handed out

pub entries_rows : (owner : OpId) (rows : Rows) → map entry_of (map (row_of owner) rows) ≡ rows
entries_rows owner [] = refl
entries_rows owner (e ∷ rows) = ap (λ more. e ∷ more) (entries_rows owner rows)
