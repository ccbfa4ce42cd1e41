-- Slots in order, as rows.
use Rattle.std.specs.Prelude.{◌≡◌, ℕ, ◌<◌, ◌+◌, Bool, true, false, cond, Some, None, List, [], ◌∷◌, ◌++◌, length, map, take, drop, filter_map, refl}
use Rattle.std.specs.List.{cons_option, list_any}
use Rattle.std.specs.Map.{lookup}
use Rattle.std.specs.Prelude.{is_some, ◌||◌, ◌&&◌}
use Rattle.std.proofs.Common.{T}
use Rattle.std.specs.FinSet.{contains, contains-from_list}
use Rattle.std.proofs.Common.{get_or, inl, inr}
use Rattle.std.proofs.lemmas.List.{map-append, take_more, drop_more, take-append-drop}
use Rattle.std.proofs.Common.{sym, ◌∙◌, ap, subst}
use Rattle.std.specs.Map.{keys_of}
use Rattle.std.specs.List.{AllByRecursion}
use Rattle.std.specs.List.Sorted.{IsStrictlySortedBy}
use Rattle.std.specs.FinMap.{get, insert, remove, entries, from_entries, from_entries_push, same_map, find, get-entries, get-from_entries, entries_sorted, is_sorted}
use Rattle.std.specs.FinMap.Entries.{below_all}
use Rattle.std.specs.FinSet as set
use Rattle.std.specs.declared.cmp.Ordering.TheVariants.{Less, Greater}
use Rattle.op_ids.specs.declared.OpId.{OpId}
use Rattle.op_ids.specs.Order.{id_cmp, id_eq}
use Rattle.op_ids.proofs.OrderLaws.{id_cmp_total, id_cmp_exact, less_from_is_lt}
use Rattle.model.specs.State.{Place}
use Rattle.model_laws.specs.Tree.{Places}
use Rattle.model_laws.proofs.KeptTables.{entries_are, get_is_lookup, none_among, below_next}
use Rattle.tree_move.specs.declared.places.NodeRow.{NodeRow}
use Rattle.model.specs.State.{is_fixed}
use Rattle.model_laws.specs.Tree.{IsTree}
use Rattle.model_laws.proofs.TreeLaws.{bool_cases}
use Rattle.tree_move.specs.Parents.{Nodes, IsTreeOfAdmitted, Slot, places_of, slot_entry, slot_row, slot_child, row_of, child_of, entry_of}
use Rattle.tree_move.specs.Moves.{RowsComeBack}
use Rattle.tree_move.proofs.PlaceLaws.{with_place_same, tied}

-- the entries of the slots with a place
abbrev pub placed : List Slot → List (OpId × Place)
placed es = filter_map slot_entry es

filtered_below : (P : OpId → Type 0) (es : List Slot) → AllByRecursion P (keys_of es) → AllByRecursion P (keys_of (placed es))
filtered_below P [] h = tt
filtered_below P ((k, None) ∷ es) h = filtered_below P es h.1
filtered_below P ((k, Some p) ∷ es) h = (h.0, filtered_below P es h.1)

pub placed_rise : (es : List Slot) → IsStrictlySortedBy id_cmp (keys_of es) → IsStrictlySortedBy id_cmp (keys_of (placed es))
unfolding IsStrictlySortedBy
placed_rise [] h = tt
placed_rise ((k, None) ∷ es) h = placed_rise es h.1
placed_rise ((k, Some p) ∷ es) h = (filtered_below (λ y. id_cmp k y ≡ Less) es h.0, placed_rise es h.1)

not_there : (es : List (OpId × Place)) (k : OpId) → AllByRecursion (λ y. id_cmp k y ≡ Less) (keys_of es) → find id_cmp k es ≡ None
not_there [] k h = refl
not_there (e ∷ es) k h = rw h.0 (not_there es k h.1)

pub places_are : (es : List Slot) → IsStrictlySortedBy id_cmp (keys_of es) → places_of es ≡ from_entries (placed es)
unfolding IsStrictlySortedBy
places_are [] h = refl
places_are ((k, None) ∷ es) h =
    ap (λ m. remove m k) (places_are es h.1)
    ∙ with_place_same (from_entries (placed es)) k None
    (get-entries (from_entries (placed es)) k ∙ ap (find id_cmp k) (entries_are id_cmp_total (placed es) (placed_rise es h.1)) ∙ not_there (placed es) k (filtered_below (λ y. id_cmp k y ≡ Less) es h.0))
places_are ((k, Some p) ∷ es) h = ap (λ m. insert m k (record { parent = p.parent; position = p.position })) (places_are es h.1)

pub entries_placed : (es : List Slot) → IsStrictlySortedBy id_cmp (keys_of es) → entries (places_of es) ≡ placed es
entries_placed es h = ap entries (places_are es h) ∙ entries_are id_cmp_total (placed es) (placed_rise es h)

pub rows_placed : (es : List Slot) → map row_of (placed es) ≡ filter_map slot_row es
rows_placed [] = refl
rows_placed ((k, None) ∷ es) = rows_placed es
rows_placed ((k, Some p) ∷ es) = ap (λ rs. record { id = k; parent = p.parent; position = p.position } ∷ rs) (rows_placed es)

pub children_placed : (parent : OpId) (es : List Slot) → filter_map (child_of parent) (placed es) ≡ filter_map (slot_child parent) es
children_placed parent [] = refl
children_placed parent ((k, None) ∷ es) = children_placed parent es
children_placed parent ((k, Some p) ∷ es) =
    elim (id_eq p.parent parent) as (λ b. cons_option (cond b (Some (p.position, k)) None) (filter_map (child_of parent) (placed es)) ≡ cons_option (cond b (Some (p.position, k)) None) (filter_map (slot_child parent) es)) [
      | true ↦ ap (λ rs. (p.position, k) ∷ rs) (children_placed parent es)
      | false ↦ children_placed parent es
    ]

-- ---- rows put into slots in their order

same_keys : (rows : List NodeRow) → keys_of (map entry_of rows) ≡ map (λ r. r.id) rows
same_keys [] = refl
same_keys (r ∷ rows) = ap (λ ks. r.id ∷ ks) (same_keys rows)

pub row_pushed : (rows : List NodeRow) (r : NodeRow) (more : List NodeRow) → IsStrictlySortedBy id_cmp (map (λ x. x.id) (rows ++ r ∷ more)) → from_entries {R = id_cmp} (map entry_of (rows ++ r ∷ [])) ≡ insert (from_entries (map entry_of rows)) r.id (record { parent = r.parent; position = r.position })
row_pushed rows r more h =
    let below = below_next id_cmp_total (map (λ x. x.id) rows) r.id (map (λ x. x.id) more) (subst (IsStrictlySortedBy id_cmp) (map-append (λ (x : NodeRow). x.id) rows (r ∷ more)) h) in
    ap (from_entries {R = id_cmp}) (map-append entry_of rows (r ∷ []))
    ∙ from_entries_push id_cmp_total id_cmp_exact (map entry_of rows) r.id (record { parent = r.parent; position = r.position })
    (none_among id_cmp_total (map entry_of rows) r.id (subst (AllByRecursion (λ y. id_cmp r.id y ≡ Greater)) (sym (same_keys rows)) below))

pub row_taken : (rows : List NodeRow) (i : ℕ) (d : NodeRow) → i < length rows → IsStrictlySortedBy id_cmp (map (λ x. x.id) rows)
    → from_entries {R = id_cmp} (map entry_of (take (i + 1) rows)) ≡ insert (from_entries (map entry_of (take i rows))) (get_or rows i d).id (record { parent = (get_or rows i d).parent; position = (get_or rows i d).position })
row_taken rows i d l h =
    ap (λ rs. from_entries {R = id_cmp} (map entry_of rs)) (take_more rows i d l)
    ∙ row_pushed (take i rows) (get_or rows i d) (drop (i + 1) rows)
    (subst (λ rs. IsStrictlySortedBy id_cmp (map (λ (x : NodeRow). x.id) rs)) (sym (take-append-drop i rows) ∙ ap (λ rs. take i rows ++ rs) (drop_more rows i d l)) h)

pub id_taken : (rows : List NodeRow) (i : ℕ) (d : NodeRow) → i < length rows → set.from_list {R = id_cmp} (map (λ x. x.id) (take (i + 1) rows)) ≡ set.insert (set.from_list (map (λ x. x.id) (take i rows))) (get_or rows i d).id
id_taken rows i d l =
    ap (set.from_list {R = id_cmp}) (ap (map (λ (x : NodeRow). x.id)) (take_more rows i d l) ∙ map-append (λ (x : NodeRow). x.id) (take i rows) (get_or rows i d ∷ []))
    ∙ set.from_list_push id_cmp_total id_cmp_exact (map (λ x. x.id) (take i rows)) (get_or rows i d).id

-- what a read of a list of rows has past its end
abbrev pub no_row : NodeRow
no_row = record { id = record { time = 0; member = 0; index = 0 }; parent = record { time = 0; member = 0; index = 0 }; position = record { time = 0; member = 0; index = 0 } }

id_there : (rows : List NodeRow) (q : OpId) → list_any (tied q) (map (λ r. r.id) rows) ≡ is_some (lookup (tied q) (map entry_of rows))
id_there [] q = refl
id_there (r ∷ rows) q =
    elim (tied q r.id) as (λ t. (t || list_any (tied q) (map (λ (x : NodeRow). x.id) rows)) ≡ is_some (cond t (Some (record { parent = r.parent; position = r.position })) (lookup (tied q) (map entry_of rows)))) [ true ↦ refl | false ↦ id_there rows q ]

admitted_there : (rows : List NodeRow) (q : OpId) → contains (set.from_list {R = id_cmp} (map (λ r. r.id) rows)) q ≡ is_some (get (from_entries {R = id_cmp} (map entry_of rows)) q)
admitted_there rows q =
    contains-from_list id_cmp_total (map (λ (r : NodeRow). r.id) rows) q ∙ id_there rows q ∙ ap is_some (sym (get_is_lookup id_cmp_total (map entry_of rows) q))

there_or : (m : Places) → IsTree m → (q : OpId) → is_some (get m q) ≡ true → is_fixed q ≡ false
there_or m t q e =
    elim (bool_cases (is_fixed q)) as (λ _. is_fixed q ≡ false) [
      | inl f ↦ (let none : is_some (get m q) ≡ false = ap is_some (t.tops q f) in let c : true ≡ false = sym e ∙ none in cc)
      | inr f ↦ f
    ]

pub rows_make_tree : (k : Nodes) (rows : List NodeRow) → k.places ≡ from_entries (map entry_of rows) → k.admitted ≡ set.from_list (map (λ r. r.id) rows) → IsTree (from_entries (map entry_of rows)) → IsTreeOfAdmitted k
rows_make_tree k rows p a t =
    let same : (q : OpId) → contains k.admitted q ≡ is_some (get k.places q) = λ q. ap (λ s. contains s q) a ∙ admitted_there rows q ∙ ap (λ m. is_some (get m q)) (sym p) in
    let tree : IsTree k.places = subst IsTree (sym p) t in
    record {
      tree = tree;
      below = λ q e. there_or k.places tree q (sym (same q) ∙ e);
      placed = λ q e. same q ∙ e;
    }

-- ---- rows of places

first : (a b : Bool) → (a && b) ≡ true → a ≡ true
first true b e = refl
first false b e = e

second : (a b : Bool) → (a && b) ≡ true → b ≡ true
second true b e = e
second false b e = absurd (let c : false ≡ true = e in cc)

true_from_T : (b : Bool) → T b → b ≡ true
true_from_T true h = refl
true_from_T false h = elim h [ ]

all_less : (k : OpId) (es : List (OpId × Place)) → below_all id_cmp k es ≡ true → AllByRecursion (λ y. id_cmp k y ≡ Less) (keys_of es)
all_less k [] h = tt
all_less k (e ∷ es) h = (less_from_is_lt _ (first _ _ h), all_less k es (second _ _ h))

rising_from_sorted : (es : List (OpId × Place)) → is_sorted id_cmp es ≡ true → IsStrictlySortedBy id_cmp (keys_of es)
unfolding IsStrictlySortedBy
rising_from_sorted [] h = tt
rising_from_sorted (e ∷ es) h = (all_less e.0 es (first _ _ h), rising_from_sorted es (second _ _ h))

ids_of_rows : (es : List (OpId × Place)) → map (λ (r : NodeRow). r.id) (map row_of es) ≡ keys_of es
ids_of_rows [] = refl
ids_of_rows (e ∷ es) = ap (λ ks. e.0 ∷ ks) (ids_of_rows es)

entries_of_rows : (es : List (OpId × Place)) → map entry_of (map row_of es) ≡ es
entries_of_rows [] = refl
entries_of_rows (e ∷ es) = ap (λ fs. e ∷ fs) (entries_of_rows es)

pub rows_come_back : RowsComeBack
rows_come_back m = record {
  rising = subst (IsStrictlySortedBy id_cmp) (sym (ids_of_rows (entries m))) (rising_from_sorted (entries m) (true_from_T _ (entries_sorted m)));
  same = ap (from_entries {R = id_cmp}) (entries_of_rows (entries m))
      ∙ same_map id_cmp_total id_cmp_exact _ _ (λ q. get-from_entries id_cmp_total (entries m) q ∙ sym (get-entries m q));
}
