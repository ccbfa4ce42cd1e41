-- Tables of rows of nodes: what a look-up finds, the rows in order, and what a change of one node's rows makes.
use Rattle.std.specs.Prelude.{◌≡◌, Bool, true, false, cond, ◌&&◌, Option, Some, None, is_some, List, [], ◌∷◌, ◌++◌, map, filter_map, find, refl, ◌⊎◌}
use Rattle.std.proofs.Common.{sym, ◌∙◌, ap, subst, inl, inr}
use Rattle.std.proofs.lemmas.List.{append-nil}
use Rattle.std.proofs.lemmas.List.Elements.{filter_map-append}
use Rattle.std.specs.Option.{option_map}
use Rattle.std.specs.Map.{lookup, keys_of}
use Rattle.std.specs.List.{AllByRecursion, cons_option}
use Rattle.std.specs.List.Sorted.{IsStrictlySortedBy}
use Rattle.std.specs.Ordering.{eq_by_cmp, is_eq, is_lt, ordering_then}
use Rattle.std.specs.Cmp.{both_tied, tied_itself}
use Rattle.std.specs.FinMap as maps
use Rattle.std.specs.FinMap.{FinMap, get, insert, entries, from_entries, get-from_entries, get-insert, same_map, is_sorted}
use Rattle.std.specs.FinMap.Entries.{below_all}
use Rattle.std.specs.declared.cmp.Ordering.TheVariants.{Less}
use Rattle.op_ids.specs.declared.OpId.{OpId}
use Rattle.op_ids.specs.Order.{id_cmp, id_eq}
use Rattle.op_ids.proofs.OrderLaws.{eq_by_cmp-id, id_cmp_total, id_eq-exact, id_eq-itself, same_or_apart, id_equiv, less_from_is_lt}
use Rattle.model.specs.State.{RowKey, row_cmp, edit_row}
use Rattle.model.specs.Walk.{owned}
use Rattle.model_laws.proofs.Tables.{row_total, row_exact, row_eq, get-edit_row}
use Rattle.model_laws.proofs.KeptTables.{entries_are}
use Rattle.walk_laws.proofs.Walks.{key_eq, key_itself, both}
use Rattle.move_list.specs.Kept.{tagged, all_rows}

pub row_eq-both : (a i b j : OpId) → row_eq (a, i) (b, j) ≡ (key_eq a b && key_eq i j)
row_eq-both a i b j = sym (both_tied (key_eq a b) (key_eq i j) (id_cmp a b) (id_cmp i j) refl refl)

pub other_node : (n q i j : OpId) → id_eq n q ≡ false → row_eq (q, i) (n, j) ≡ false
other_node n q i j ne = row_eq-both q i n j ∙ ap (λ b. b && key_eq i j) (eq_by_cmp-id q n ∙ id_equiv.symm q n ∙ ne)

pub own_node : (n i j : OpId) → row_eq (n, i) (n, j) ≡ key_eq i j
own_node n i j = row_eq-both n i n j ∙ ap (λ b. b && key_eq i j) (key_itself n)

module _ {X : Type 0} where
  abbrev or_else : Option X → Option X → Option X
  or_else None o = o
  or_else (Some x) o = Some x

  or_none : (o : Option X) → or_else o None ≡ o
  or_none None = refl
  or_none (Some x) = refl

  find_two : (q : RowKey) (xs ys : List (RowKey × X)) → maps.find row_cmp q (xs ++ ys) ≡ or_else (maps.find row_cmp q xs) (maps.find row_cmp q ys)
  find_two q [] ys = refl
  find_two q (x ∷ xs) ys =
      elim (row_eq q x.0) as (λ b. cond b (Some x.1) (maps.find row_cmp q (xs ++ ys)) ≡ or_else (cond b (Some x.1) (maps.find row_cmp q xs)) (maps.find row_cmp q ys)) [ true ↦ refl | false ↦ find_two q xs ys ]

  find_tagged : (n node k : OpId) (ts : List (OpId × X)) → maps.find row_cmp (n, k) (tagged node ts) ≡ cond (key_eq n node) (maps.find id_cmp k ts) None
  find_tagged n node k [] = elim (key_eq n node) as (λ b. ◌≡◌ {A = Option X} None (cond b None None)) [ true ↦ refl | false ↦ refl ]
  find_tagged n node k (t ∷ ts) =
      ap (λ b. cond b (Some t.1) (maps.find row_cmp (n, k) (tagged node ts))) (row_eq-both n k node t.0)
      ∙ ap (cond (key_eq n node && key_eq k t.0) (Some t.1)) (find_tagged n node k ts)
      ∙ elim (key_eq n node) as (λ b. cond (b && key_eq k t.0) (Some t.1) (cond b (maps.find id_cmp k ts) None) ≡ cond b (cond (key_eq k t.0) (Some t.1) (maps.find id_cmp k ts)) None) [ true ↦ refl | false ↦ refl ]

  -- the rows of a node in its part of a table
  owned_tagged : (node n : OpId) (ts : List (OpId × X)) → filter_map (owned node) (tagged n ts) ≡ cond (id_eq n node) ts []
  owned_tagged node n [] = elim (id_eq n node) as (λ b. ◌≡◌ {A = List (OpId × X)} [] (cond b [] [])) [ true ↦ refl | false ↦ refl ]
  owned_tagged node n (t ∷ ts) =
      ap (cons_option (cond (id_eq n node) (Some (t.0, t.1)) None)) (owned_tagged node n ts)
      ∙ elim (id_eq n node) as (λ b. cons_option (cond b (Some (t.0, t.1)) None) (cond b ts []) ≡ cond b (t ∷ ts) []) [ true ↦ refl | false ↦ refl ]

module _ {V X : Type 0} (rows : V → List (OpId × X)) where
  abbrev pub joined : Option V → OpId → Option X
  joined None k = None
  joined (Some v) k = maps.find id_cmp k (rows v)

  abbrev pub rows_found : Option V → List (OpId × X)
  rows_found None = []
  rows_found (Some v) = rows v

  -- ---- look-ups

  not_above : (n k : OpId) (es : List (OpId × V)) → AllByRecursion (λ y. id_cmp n y ≡ Less) (keys_of es) → maps.find row_cmp (n, k) (all_rows rows es) ≡ None
  not_above n k [] h = refl
  not_above n k (e ∷ es) h =
      let apart : key_eq n e.0 ≡ false = ap is_eq h.0 in
      let here : maps.find row_cmp (n, k) (tagged e.0 (rows e.1)) ≡ None = find_tagged n e.0 k (rows e.1) ∙ rw apart refl in
      find_two (n, k) (tagged e.0 (rows e.1)) (all_rows rows es) ∙ rw here (not_above n k es h.1)

  at_first : (n k : OpId) (e : OpId × V) (es : List (OpId × V)) → AllByRecursion (λ y. id_cmp e.0 y ≡ Less) (keys_of es) → (b : Bool) → key_eq n e.0 ≡ b
      → maps.find row_cmp (n, k) (all_rows rows es) ≡ joined (lookup (key_eq n) es) k
      → or_else (cond b (maps.find id_cmp k (rows e.1)) None) (maps.find row_cmp (n, k) (all_rows rows es)) ≡ joined (cond b (Some e.1) (lookup (key_eq n) es)) k
  at_first n k e es h true s more =
      let same : n ≡ e.0 = id_eq-exact n e.0 (sym (eq_by_cmp-id n e.0) ∙ s) in
      let none : maps.find row_cmp (n, k) (all_rows rows es) ≡ None = ap (λ x. maps.find row_cmp (x, k) (all_rows rows es)) same ∙ not_above e.0 k es h in
      ap (or_else (maps.find id_cmp k (rows e.1))) none ∙ or_none (maps.find id_cmp k (rows e.1))
  at_first n k e es h false s more = more

  find_all : (es : List (OpId × V)) → IsStrictlySortedBy id_cmp (keys_of es) → (n k : OpId) → maps.find row_cmp (n, k) (all_rows rows es) ≡ joined (lookup (key_eq n) es) k
  unfolding IsStrictlySortedBy
  find_all [] h n k = refl
  find_all (e ∷ es) h n k =
      find_two (n, k) (tagged e.0 (rows e.1)) (all_rows rows es)
      ∙ ap (λ o. or_else o (maps.find row_cmp (n, k) (all_rows rows es))) (find_tagged n e.0 k (rows e.1))
      ∙ at_first n k e es h.0 (key_eq n e.0) refl (find_all es h.1 n k)

  pub get_all : (es : List (OpId × V)) → IsStrictlySortedBy id_cmp (keys_of es) → (n k : OpId) → get (from_entries {R = row_cmp} (all_rows rows es)) (n, k) ≡ joined (lookup (key_eq n) es) k
  get_all es h n k = get-from_entries row_total (all_rows rows es) (n, k) ∙ find_all es h n k

  -- ---- the rows of a node

  owned_none : (node : OpId) (es : List (OpId × V)) → AllByRecursion (λ y. id_cmp node y ≡ Less) (keys_of es) → filter_map (owned node) (all_rows rows es) ≡ []
  owned_none node [] h = refl
  owned_none node (e ∷ es) h =
      let apart : id_eq e.0 node ≡ false = id_equiv.symm e.0 node ∙ sym (eq_by_cmp-id node e.0) ∙ ap is_eq h.0 in
      filter_map-append (owned node) (tagged e.0 (rows e.1)) (all_rows rows es)
      ∙ ap (λ rs. rs ++ filter_map (owned node) (all_rows rows es)) (owned_tagged node e.0 (rows e.1))
      ∙ rw apart (owned_none node es h.1)

  owned_first : (node : OpId) (e : OpId × V) (es : List (OpId × V)) → AllByRecursion (λ y. id_cmp e.0 y ≡ Less) (keys_of es) → (b : Bool) → key_eq node e.0 ≡ b
      → filter_map (owned node) (all_rows rows es) ≡ rows_found (lookup (key_eq node) es)
      → cond b (rows e.1) [] ++ filter_map (owned node) (all_rows rows es) ≡ rows_found (cond b (Some e.1) (lookup (key_eq node) es))
  owned_first node e es h true s more =
      let same : node ≡ e.0 = id_eq-exact node e.0 (sym (eq_by_cmp-id node e.0) ∙ s) in
      ap (λ rs. rows e.1 ++ rs) (ap (λ x. filter_map (owned x) (all_rows rows es)) same ∙ owned_none e.0 es h) ∙ append-nil (rows e.1)
  owned_first node e es h false s more = more

  pub owned_all : (es : List (OpId × V)) → IsStrictlySortedBy id_cmp (keys_of es) → (node : OpId) → filter_map (owned node) (all_rows rows es) ≡ rows_found (lookup (key_eq node) es)
  unfolding IsStrictlySortedBy
  owned_all [] h node = refl
  owned_all (e ∷ es) h node =
      filter_map-append (owned node) (tagged e.0 (rows e.1)) (all_rows rows es)
      ∙ ap (λ rs. rs ++ filter_map (owned node) (all_rows rows es)) (owned_tagged node e.0 (rows e.1))
      ∙ ap (λ b. cond b (rows e.1) [] ++ filter_map (owned node) (all_rows rows es)) (id_equiv.symm e.0 node ∙ sym (eq_by_cmp-id node e.0))
      ∙ owned_first node e es h.0 (key_eq node e.0) refl (owned_all es h.1 node)

  -- ---- the rows in order

  all_two : (P : RowKey → Type 0) (xs ys : List (RowKey × X)) → AllByRecursion P (keys_of xs) → AllByRecursion P (keys_of ys) → AllByRecursion P (keys_of (xs ++ ys))
  all_two P [] ys h k = k
  all_two P (x ∷ xs) ys h k = (h.0, all_two P xs ys h.1 k)

  sorted_two : (xs ys : List (RowKey × X)) → IsStrictlySortedBy row_cmp (keys_of xs) → IsStrictlySortedBy row_cmp (keys_of ys) → AllByRecursion (λ x. AllByRecursion (λ y. row_cmp x y ≡ Less) (keys_of ys)) (keys_of xs) → IsStrictlySortedBy row_cmp (keys_of (xs ++ ys))
  unfolding IsStrictlySortedBy
  sorted_two [] ys h k l = k
  sorted_two (x ∷ xs) ys h k l = (all_two (λ y. row_cmp x.0 y ≡ Less) xs ys h.0 l.0, sorted_two xs ys h.1 k l.1)

  tagged_below : (node k : OpId) (ts : List (OpId × X)) → below_all id_cmp k ts ≡ true → AllByRecursion (λ y. row_cmp (node, k) y ≡ Less) (keys_of (tagged node ts))
  tagged_below node k [] h = tt
  tagged_below node k (t ∷ ts) h =
      let b = both _ _ h in
      (ap (λ r. ordering_then r (id_cmp k t.0)) (tied_itself id_cmp_total node) ∙ less_from_is_lt (id_cmp k t.0) b.0, tagged_below node k ts b.1)

  tagged_sorted : (node : OpId) (ts : List (OpId × X)) → is_sorted id_cmp ts ≡ true → IsStrictlySortedBy row_cmp (keys_of (tagged node ts))
  unfolding IsStrictlySortedBy
  tagged_sorted node [] h = tt
  tagged_sorted node (t ∷ ts) h = (let b = both _ _ h in (tagged_below node t.0 ts b.0, tagged_sorted node ts b.1))

  tagged_after : (n m k : OpId) (ts : List (OpId × X)) → id_cmp n m ≡ Less → AllByRecursion (λ y. row_cmp (n, k) y ≡ Less) (keys_of (tagged m ts))
  tagged_after n m k [] h = tt
  tagged_after n m k (t ∷ ts) h = (ap (λ r. ordering_then r (id_cmp k t.0)) h, tagged_after n m k ts h)

  all_after : (n k : OpId) (es : List (OpId × V)) → AllByRecursion (λ y. id_cmp n y ≡ Less) (keys_of es) → AllByRecursion (λ y. row_cmp (n, k) y ≡ Less) (keys_of (all_rows rows es))
  all_after n k [] h = tt
  all_after n k (e ∷ es) h = all_two (λ y. row_cmp (n, k) y ≡ Less) (tagged e.0 (rows e.1)) (all_rows rows es) (tagged_after n e.0 k (rows e.1) h.0) (all_after n k es h.1)

  tagged_before : (n : OpId) (es : List (OpId × V)) (ts : List (OpId × X)) → AllByRecursion (λ y. id_cmp n y ≡ Less) (keys_of es) → AllByRecursion (λ x. AllByRecursion (λ y. row_cmp x y ≡ Less) (keys_of (all_rows rows es))) (keys_of (tagged n ts))
  tagged_before n es [] h = tt
  tagged_before n es (t ∷ ts) h = (all_after n t.0 es h, tagged_before n es ts h)

  abbrev pub EachRises : List (OpId × V) → Type 0
  EachRises es = AllByRecursion (λ e. is_sorted id_cmp (rows e.1) ≡ true) es

  all_sorted : (es : List (OpId × V)) → IsStrictlySortedBy id_cmp (keys_of es) → EachRises es → IsStrictlySortedBy row_cmp (keys_of (all_rows rows es))
  unfolding IsStrictlySortedBy
  all_sorted [] h k = tt
  all_sorted (e ∷ es) h k = sorted_two (tagged e.0 (rows e.1)) (all_rows rows es) (tagged_sorted e.0 (rows e.1) k.0) (all_sorted es h.1 k.1) (tagged_before e.0 es (rows e.1) h.0)

  pub entries_all : (es : List (OpId × V)) → IsStrictlySortedBy id_cmp (keys_of es) → EachRises es → entries (from_entries {R = row_cmp} (all_rows rows es)) ≡ all_rows rows es
  entries_all es h k = entries_are row_total (all_rows rows es) (all_sorted es h k)

  -- ---- one node's rows anew

  abbrev pub table : List (OpId × V) → FinMap row_cmp X
  table es = from_entries (all_rows rows es)

  module _ (es fs : List (OpId × V)) (se : IsStrictlySortedBy id_cmp (keys_of es)) (sf : IsStrictlySortedBy id_cmp (keys_of fs)) (n : OpId) (v : V)
      (updates : (q : OpId) → lookup (key_eq q) fs ≡ cond (key_eq n q) (Some v) (lookup (key_eq q) es)) where
    at_node : (k : OpId) → get (table fs) (n, k) ≡ maps.find id_cmp k (rows v)
    at_node k = get_all fs sf n k ∙ ap (λ o. joined o k) (updates n) ∙ (let one : key_eq n n ≡ true = key_itself n in rw one refl)

    at_other : (q k : OpId) → id_eq n q ≡ false → get (table fs) (q, k) ≡ get (table es) (q, k)
    at_other q k apart =
        get_all fs sf q k ∙ ap (λ o. joined o k) (updates q)
        ∙ (let no : key_eq n q ≡ false = eq_by_cmp-id n q ∙ apart in rw no refl) ∙ sym (get_all es se q k)

    table_is : (m : FinMap row_cmp X) → ((k : OpId) → maps.find id_cmp k (rows v) ≡ get m (n, k)) → ((q k : OpId) → id_eq n q ≡ false → get m (q, k) ≡ get (table es) (q, k)) → table fs ≡ m
    table_is m own others =
        same_map row_total row_exact _ _ (λ q.
        elim (same_or_apart n q.0) as (λ _. get (table fs) q ≡ get m q) [
          | inl e ↦ subst (λ x. get (table fs) (x, q.1) ≡ get m (x, q.1)) e (at_node q.1 ∙ own q.1)
          | inr ne ↦ at_other q.0 q.1 ne ∙ sym (others q.0 q.1 ne)
        ])

    pub table_same : ((k : OpId) → maps.find id_cmp k (rows v) ≡ get (table es) (n, k)) → table fs ≡ table es
    table_same own = table_is (table es) own (λ q k ne. refl)

    pub table_put : (id : OpId) (x : X) → ((k : OpId) → maps.find id_cmp k (rows v) ≡ cond (key_eq k id) (Some x) (get (table es) (n, k))) → table fs ≡ insert (table es) (n, id) x
    table_put id x own =
        table_is (insert (table es) (n, id) x)
        (λ k. own k ∙ sym (get-insert row_total (table es) (n, id) x (n, k) ∙ ap (λ b. cond b (Some x) (get (table es) (n, k))) (own_node n k id)))
        (λ q k ne. get-insert row_total (table es) (n, id) x (q, k) ∙ ap (λ b. cond b (Some x) (get (table es) (q, k))) (other_node n q k id ne))

    pub table_edit : (id : OpId) (f : X → X) → ((k : OpId) → maps.find id_cmp k (rows v) ≡ cond (key_eq k id) (option_map f (get (table es) (n, k))) (get (table es) (n, k))) → table fs ≡ edit_row (table es) (n, id) f
    table_edit id f own =
        table_is (edit_row (table es) (n, id) f)
        (λ k. own k ∙ sym (get-edit_row (table es) (n, id) f (n, k) ∙ ap (λ b. cond b (option_map f (get (table es) (n, k))) (get (table es) (n, k))) (own_node n k id)))
        (λ q k ne. get-edit_row (table es) (n, id) f (q, k) ∙ ap (λ b. cond b (option_map f (get (table es) (q, k))) (get (table es) (q, k))) (other_node n q k id ne))
