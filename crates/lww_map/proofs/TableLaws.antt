-- Tables of tables: what a look-up finds, what a write makes, and the rows in order.
use Rattle.std.specs.Prelude.{◌≡◌, ℕ, Bool, true, false, cond, ◌&&◌, Option, Some, None, List, [], ◌∷◌, ◌++◌, map, refl, T, ◌+◌, ◌<◌, length, take, drop}
use Rattle.std.proofs.Common.{sym, ◌∙◌, ap, subst, inl, inr}
use Rattle.std.specs.Map.{lookup, keys_of}
use Rattle.std.specs.List.{AllByRecursion}
use Rattle.std.specs.List.Sorted.{IsStrictlySortedBy}
use Rattle.std.specs.Ordering.{nat_cmp, eq_by_cmp, is_eq, is_lt, ordering_then}
use Rattle.std.specs.Cmp.{both_tied, tied_itself}
use Rattle.std.specs.Cmp.Lexicographic.{slice_cmp, nat_list_cmp_total}
use Rattle.std.proofs.Common.{get_or}
use Rattle.std.proofs.lemmas.List.{append-nil, map-append, take_more, drop_more, take-append-drop}
use Rattle.std.proofs.lemmas.List.Elements.{filter-append}
use Rattle.std.specs.FinMap.{get, insert, entries, from_entries, find, get-from_entries, get-entries, get-insert, same_map, from_entries_push, entries_sorted}
use Rattle.std.specs.FinMap.Entries.{is_sorted, below_all}
use Rattle.std.specs.declared.cmp.Ordering.{Ordering}
use Rattle.std.specs.declared.cmp.Ordering.TheVariants.{Less}
use Rattle.op_ids.specs.declared.OpId.{OpId}
use Rattle.op_ids.specs.Order.{id_cmp, id_eq}
use Rattle.op_ids.proofs.OrderLaws.{eq_by_cmp-id, id_cmp_total, id_eq-exact, same_or_apart, id_equiv, less_from_is_lt}
use Rattle.model.specs.Value.{Value}
use Rattle.model.specs.Operation.{put_key}
use Rattle.model.specs.State.{Register, register_cmp, Written}
use Rattle.model_laws.specs.Arrival.{writer_is_before, late_register}
use Rattle.model_laws.proofs.Tables.{register_total, register_exact, key_itself}
use Rattle.model_laws.proofs.KeptTables.{entries_are, none_among, below_next}
use Rattle.lww_map.specs.declared.registers.RegisterRow.{RegisterRow}
use Rattle.op_grammar.specs.declared.value.Value.TheVariants as lent
use Rattle.op_grammar.specs.Values.{value_of}
use Rattle.lww_map.specs.Keys.{row_seen, rows_seen, Keys, tagged, table_list, table_of, node_rows, key_written}

abbrev pub tied : OpId → OpId → Bool
tied = eq_by_cmp id_cmp

abbrev pub key_cmp : List ℕ → List ℕ → Ordering
key_cmp = slice_cmp nat_cmp

abbrev pub joined : Option Keys → List ℕ → Option Written
joined None k = None
joined (Some t) k = get t k

abbrev or_else : Option Written → Option Written → Option Written
or_else None o = o
or_else (Some w) o = Some w

or_none : (o : Option Written) → or_else o None ≡ o
or_none None = refl
or_none (Some w) = refl

-- ---- look-ups

find_two : (q : Register) (xs ys : List (Register × Written)) → find register_cmp q (xs ++ ys) ≡ or_else (find register_cmp q xs) (find register_cmp q ys)
find_two q [] ys = refl
find_two q (x ∷ xs) ys =
    elim (eq_by_cmp register_cmp q x.0) as (λ b. cond b (Some x.1) (find register_cmp q (xs ++ ys)) ≡ or_else (cond b (Some x.1) (find register_cmp q xs)) (find register_cmp q ys)) [ true ↦ refl | false ↦ find_two q xs ys ]

same_register : (n m : OpId) (k l : List ℕ) → eq_by_cmp register_cmp (n, k) (m, l) ≡ (tied n m && eq_by_cmp key_cmp k l)
same_register n m k l = sym (both_tied (tied n m) (eq_by_cmp key_cmp k l) (id_cmp n m) (key_cmp k l) refl refl)

find_tagged : (n node : OpId) (k : List ℕ) (ts : List (List ℕ × Written)) → find register_cmp (n, k) (tagged node ts) ≡ cond (tied n node) (find key_cmp k ts) None
find_tagged n node k [] = elim (tied n node) as (λ b. ◌≡◌ {A = Option Written} None (cond b None None)) [ true ↦ refl | false ↦ refl ]
find_tagged n node k (t ∷ ts) =
    ap (λ b. cond b (Some t.1) (find register_cmp (n, k) (tagged node ts))) (same_register n node k t.0)
    ∙ ap (cond (tied n node && eq_by_cmp key_cmp k t.0) (Some t.1)) (find_tagged n node k ts)
    ∙ elim (tied n node) as (λ b. cond (b && eq_by_cmp key_cmp k t.0) (Some t.1) (cond b (find key_cmp k ts) None) ≡ cond b (cond (eq_by_cmp key_cmp k t.0) (Some t.1) (find key_cmp k ts)) None) [ true ↦ refl | false ↦ refl ]

not_above : (n : OpId) (k : List ℕ) (es : List (OpId × Keys)) → AllByRecursion (λ y. id_cmp n y ≡ Less) (keys_of es) → find register_cmp (n, k) (table_list es) ≡ None
not_above n k [] h = refl
not_above n k (e ∷ es) h =
    let apart : tied n e.0 ≡ false = ap is_eq h.0 in
    let here : find register_cmp (n, k) (tagged e.0 (entries e.1)) ≡ None = find_tagged n e.0 k (entries e.1) ∙ rw apart refl in
    find_two (n, k) (tagged e.0 (entries e.1)) (table_list es) ∙ rw here (not_above n k es h.1)

at_first : (n : OpId) (k : List ℕ) (e : OpId × Keys) (es : List (OpId × Keys)) → AllByRecursion (λ y. id_cmp e.0 y ≡ Less) (keys_of es) → (b : Bool) → tied n e.0 ≡ b
    → find register_cmp (n, k) (table_list es) ≡ joined (lookup (tied n) es) k
    → or_else (cond b (find key_cmp k (entries e.1)) None) (find register_cmp (n, k) (table_list es)) ≡ joined (cond b (Some e.1) (lookup (tied n) es)) k
at_first n k e es h true s more =
    let same : n ≡ e.0 = id_eq-exact n e.0 (sym (eq_by_cmp-id n e.0) ∙ s) in
    let none : find register_cmp (n, k) (table_list es) ≡ None = ap (λ x. find register_cmp (x, k) (table_list es)) same ∙ not_above e.0 k es h in
    ap (or_else (find key_cmp k (entries e.1))) none ∙ or_none (find key_cmp k (entries e.1)) ∙ sym (get-entries e.1 k)
at_first n k e es h false s more = more

find_table : (es : List (OpId × Keys)) → IsStrictlySortedBy id_cmp (keys_of es) → (n : OpId) (k : List ℕ) → find register_cmp (n, k) (table_list es) ≡ joined (lookup (tied n) es) k
unfolding IsStrictlySortedBy
find_table [] h n k = refl
find_table (e ∷ es) h n k =
    find_two (n, k) (tagged e.0 (entries e.1)) (table_list es)
    ∙ ap (λ o. or_else o (find register_cmp (n, k) (table_list es))) (find_tagged n e.0 k (entries e.1))
    ∙ at_first n k e es h.0 (tied n e.0) refl (find_table es h.1 n k)

pub get_table : (es : List (OpId × Keys)) → IsStrictlySortedBy id_cmp (keys_of es) → (n : OpId) (k : List ℕ) → get (table_of es) (n, k) ≡ joined (lookup (tied n) es) k
get_table es h n k = get-from_entries register_total (table_list es) (n, k) ∙ find_table es h n k

-- ---- writes

module _ (es fs : List (OpId × Keys)) (se : IsStrictlySortedBy id_cmp (keys_of es)) (sf : IsStrictlySortedBy id_cmp (keys_of fs)) (n : OpId) (t : Keys)
    (updates : (q : OpId) → lookup (tied q) fs ≡ cond (tied n q) (Some t) (lookup (tied q) es)) where
  at_node : (k : List ℕ) → get (table_of fs) (n, k) ≡ get t k
  at_node k = get_table fs sf n k ∙ ap (λ o. joined o k) (updates n) ∙ (let one : tied n n ≡ true = key_itself id_cmp_total n n refl in rw one refl)

  at_other : (q : OpId) (k : List ℕ) → id_eq n q ≡ false → get (table_of fs) (q, k) ≡ get (table_of es) (q, k)
  at_other q k apart =
      get_table fs sf q k ∙ ap (λ o. joined o k) (updates q)
      ∙ (let no : tied n q ≡ false = eq_by_cmp-id n q ∙ apart in rw no refl) ∙ sym (get_table es se q k)

  pub table_same : ((k : List ℕ) → get t k ≡ joined (lookup (tied n) es) k) → table_of fs ≡ table_of es
  table_same same =
      same_map register_total register_exact _ _ (λ q.
      elim (same_or_apart n q.0) as (λ _. get (table_of fs) q ≡ get (table_of es) q) [
        | inl e ↦ subst (λ x. get (table_of fs) (x, q.1) ≡ get (table_of es) (x, q.1)) e (at_node q.1 ∙ same q.1 ∙ sym (get_table es se n q.1))
        | inr ne ↦ at_other q.0 q.1 ne
      ])

  module _ (t0 : Keys) (k : List ℕ) (w : Written) (was : (l : List ℕ) → get t0 l ≡ joined (lookup (tied n) es) l) where
    other : (q : OpId) (l : List ℕ) → id_eq n q ≡ false → eq_by_cmp register_cmp (q, l) (n, k) ≡ false
    other q l ne = same_register q n l k ∙ (let no : tied q n ≡ false = eq_by_cmp-id q n ∙ id_equiv.symm q n ∙ ne in rw no refl)

    here : t ≡ insert t0 k w → (l : List ℕ) → get (table_of fs) (n, l) ≡ get (insert (table_of es) (n, k) w) (n, l)
    here now l =
        let own : tied n n ≡ true = key_itself id_cmp_total n n refl in
        let tie : eq_by_cmp register_cmp (n, l) (n, k) ≡ eq_by_cmp key_cmp l k = same_register n n l k ∙ ap (λ b. b && eq_by_cmp key_cmp l k) own in
        at_node l ∙ ap (λ x. get x l) now ∙ get-insert nat_list_cmp_total t0 k w l
        ∙ ap (cond (eq_by_cmp key_cmp l k) (Some w)) (was l ∙ sym (get_table es se n l))
        ∙ sym (get-insert register_total (table_of es) (n, k) w (n, l) ∙ ap (λ b. cond b (Some w) (get (table_of es) (n, l))) tie)

    pub table_inserted : t ≡ insert t0 k w → table_of fs ≡ insert (table_of es) (n, k) w
    table_inserted now =
        same_map register_total register_exact _ _ (λ q.
        elim (same_or_apart n q.0) as (λ _. get (table_of fs) q ≡ get (insert (table_of es) (n, k) w) q) [
          | inl e ↦ subst (λ x. get (table_of fs) (x, q.1) ≡ get (insert (table_of es) (n, k) w) (x, q.1)) e (here now q.1)
          | inr ne ↦ at_other q.0 q.1 ne ∙ sym (get-insert register_total (table_of es) (n, k) w q ∙ (let no = other q.0 q.1 ne in rw no refl))
        ])

    late_cases : (id : OpId) (value : Value) → w ≡ record { writer = id; value = value } → (b : Bool) → writer_is_before (get t0 k) id ≡ b → t ≡ cond b (insert t0 k (record { writer = id; value = value })) t0 → table_of fs ≡ late_register (table_of es) id (put_key n k value)
    late_cases id value own true e now =
        let there : writer_is_before (get (table_of es) (n, k)) id ≡ true = ap (λ o. writer_is_before o id) (get_table es se n k ∙ sym (was k)) ∙ e in
        rw there (table_inserted (now ∙ ap (insert t0 k) (sym own)) ∙ ap (insert (table_of es) (n, k)) own)
    late_cases id value own false e now =
        let there : writer_is_before (get (table_of es) (n, k)) id ≡ false = ap (λ o. writer_is_before o id) (get_table es se n k ∙ sym (was k)) ∙ e in
        rw there (table_same (λ l. ap (λ x. get x l) now ∙ was l))

    pub table_late : (id : OpId) (value : Value) → w ≡ record { writer = id; value = value } → t ≡ key_written t0 k id value → table_of fs ≡ late_register (table_of es) id (put_key n k value)
    table_late id value own now = late_cases id value own (writer_is_before (get t0 k) id) refl now

-- ---- the rows in order

told : (a b : Bool) → T (a && b) → (a ≡ true) × T b
told true b h = (refl, h)
told false b h = absurd h

less : {K : Type 0} (R : K → K → Ordering) (x y : K) → is_lt (R x y) ≡ true → R x y ≡ Less
less R x y h = less_from_is_lt (R x y) h

true_and : (a b : Bool) → T (a && b) → T a
true_and true b h = tt
true_and false b h = h

below_keys : {K X : Type 0} (R : K → K → Ordering) (x : K) (es : List (K × X)) → T (below_all R x es) → AllByRecursion (λ y. R x y ≡ Less) (keys_of es)
below_keys R x [] h = tt
below_keys R x (e ∷ es) h = (less R x e.0 (told (is_lt (R x e.0)) (below_all R x es) h).0, below_keys R x es (told (is_lt (R x e.0)) (below_all R x es) h).1)

pub strictly : {K X : Type 0} (R : K → K → Ordering) (es : List (K × X)) → T (is_sorted R es) → IsStrictlySortedBy R (keys_of es)
unfolding IsStrictlySortedBy
strictly R [] h = tt
strictly R (e ∷ es) h = (below_keys R e.0 es (true_and (below_all R e.0 es) (is_sorted R es) h), strictly R es (told (below_all R e.0 es) (is_sorted R es) h).1)

all_two : {K X : Type 0} (P : K → Type 0) (xs ys : List (K × X)) → AllByRecursion P (keys_of xs) → AllByRecursion P (keys_of ys) → AllByRecursion P (keys_of (xs ++ ys))
all_two P [] ys h k = k
all_two P (x ∷ xs) ys h k = (h.0, all_two P xs ys h.1 k)

sorted_two : (xs ys : List (Register × Written)) → IsStrictlySortedBy register_cmp (keys_of xs) → IsStrictlySortedBy register_cmp (keys_of ys) → AllByRecursion (λ x. AllByRecursion (λ y. register_cmp x y ≡ Less) (keys_of ys)) (keys_of xs) → IsStrictlySortedBy register_cmp (keys_of (xs ++ ys))
unfolding IsStrictlySortedBy
sorted_two [] ys h k l = k
sorted_two (x ∷ xs) ys h k l = (all_two (λ y. register_cmp x.0 y ≡ Less) xs ys h.0 l.0, sorted_two xs ys h.1 k l.1)

-- rows of one node are in the order of their keys
tagged_below : (node : OpId) (k : List ℕ) (ts : List (List ℕ × Written)) → AllByRecursion (λ y. key_cmp k y ≡ Less) (keys_of ts) → AllByRecursion (λ y. register_cmp (node, k) y ≡ Less) (keys_of (tagged node ts))
tagged_below node k [] h = tt
tagged_below node k (t ∷ ts) h = (ap (λ r. ordering_then r (key_cmp k t.0)) (tied_itself id_cmp_total node) ∙ h.0, tagged_below node k ts h.1)

tagged_sorted : (node : OpId) (ts : List (List ℕ × Written)) → IsStrictlySortedBy key_cmp (keys_of ts) → IsStrictlySortedBy register_cmp (keys_of (tagged node ts))
unfolding IsStrictlySortedBy
tagged_sorted node [] h = tt
tagged_sorted node (t ∷ ts) h = (tagged_below node t.0 ts h.0, tagged_sorted node ts h.1)

-- and before those of greater nodes
row_before : (n m : OpId) (k l : List ℕ) → id_cmp n m ≡ Less → register_cmp (n, k) (m, l) ≡ Less
row_before n m k l h = ap (λ r. ordering_then r (key_cmp k l)) h

tagged_after : (n m : OpId) (k : List ℕ) (ts : List (List ℕ × Written)) → id_cmp n m ≡ Less → AllByRecursion (λ y. register_cmp (n, k) y ≡ Less) (keys_of (tagged m ts))
tagged_after n m k [] h = tt
tagged_after n m k (t ∷ ts) h = (row_before n m k t.0 h, tagged_after n m k ts h)

table_after : (n : OpId) (k : List ℕ) (es : List (OpId × Keys)) → AllByRecursion (λ y. id_cmp n y ≡ Less) (keys_of es) → AllByRecursion (λ y. register_cmp (n, k) y ≡ Less) (keys_of (table_list es))
table_after n k [] h = tt
table_after n k (e ∷ es) h = all_two (λ y. register_cmp (n, k) y ≡ Less) (tagged e.0 (entries e.1)) (table_list es) (tagged_after n e.0 k (entries e.1) h.0) (table_after n k es h.1)

tagged_before : (n : OpId) (es : List (OpId × Keys)) (ts : List (List ℕ × Written)) → AllByRecursion (λ y. id_cmp n y ≡ Less) (keys_of es) → AllByRecursion (λ x. AllByRecursion (λ y. register_cmp x y ≡ Less) (keys_of (table_list es))) (keys_of (tagged n ts))
tagged_before n es [] h = tt
tagged_before n es (t ∷ ts) h = (table_after n t.0 es h, tagged_before n es ts h)

table_sorted : (es : List (OpId × Keys)) → IsStrictlySortedBy id_cmp (keys_of es) → IsStrictlySortedBy register_cmp (keys_of (table_list es))
unfolding IsStrictlySortedBy
table_sorted [] h = tt
table_sorted (e ∷ es) h = sorted_two (tagged e.0 (entries e.1)) (table_list es) (tagged_sorted e.0 (entries e.1) (strictly key_cmp (entries e.1) (entries_sorted e.1))) (table_sorted es h.1) (tagged_before e.0 es (entries e.1) h.0)

pub entries_table : (es : List (OpId × Keys)) → IsStrictlySortedBy id_cmp (keys_of es) → entries (table_of es) ≡ table_list es
entries_table es h = entries_are register_total (table_list es) (table_sorted es h)

-- ---- the rows of a node

abbrev pub rows_found : OpId → Option Keys → List (Register × Written)
rows_found node None = []
rows_found node (Some t) = tagged node (entries t)

rows_tagged : (node n : OpId) (ts : List (List ℕ × Written)) → node_rows node (tagged n ts) ≡ cond (id_eq n node) (tagged n ts) []
rows_tagged node n [] = elim (id_eq n node) as (λ b. ◌≡◌ {A = List (Register × Written)} [] (cond b [] [])) [ true ↦ refl | false ↦ refl ]
rows_tagged node n (t ∷ ts) =
    ap (cond (id_eq n node) (((n, t.0), t.1) ∷ node_rows node (tagged n ts))) (rows_tagged node n ts)
    ∙ ap (λ rs. cond (id_eq n node) (((n, t.0), t.1) ∷ rs) (cond (id_eq n node) (tagged n ts) [])) (rows_tagged node n ts)
    ∙ elim (id_eq n node) as (λ b. cond b (((n, t.0), t.1) ∷ cond b (tagged n ts) []) (cond b (tagged n ts) []) ≡ cond b (((n, t.0), t.1) ∷ tagged n ts) []) [ true ↦ refl | false ↦ refl ]

rows_none : (node : OpId) (es : List (OpId × Keys)) → AllByRecursion (λ y. id_cmp node y ≡ Less) (keys_of es) → node_rows node (table_list es) ≡ []
rows_none node [] h = refl
rows_none node (e ∷ es) h =
    let apart : id_eq e.0 node ≡ false = id_equiv.symm e.0 node ∙ sym (eq_by_cmp-id node e.0) ∙ ap is_eq h.0 in
    filter-append (λ x. id_eq x.0.0 node) (tagged e.0 (entries e.1)) (table_list es)
    ∙ ap (λ rs. rs ++ node_rows node (table_list es)) (rows_tagged node e.0 (entries e.1))
    ∙ rw apart (rows_none node es h.1)

first_rows : (node : OpId) (e : OpId × Keys) (es : List (OpId × Keys)) → AllByRecursion (λ y. id_cmp e.0 y ≡ Less) (keys_of es) → (b : Bool) → tied node e.0 ≡ b
    → node_rows node (table_list es) ≡ rows_found node (lookup (tied node) es)
    → cond b (tagged e.0 (entries e.1)) [] ++ node_rows node (table_list es) ≡ rows_found node (cond b (Some e.1) (lookup (tied node) es))
first_rows node e es h true s more =
    let same : node ≡ e.0 = id_eq-exact node e.0 (sym (eq_by_cmp-id node e.0) ∙ s) in
    ap (λ rs. tagged e.0 (entries e.1) ++ rs) (ap (λ x. node_rows x (table_list es)) same ∙ rows_none e.0 es h)
    ∙ append-nil (tagged e.0 (entries e.1)) ∙ ap (λ x. tagged x (entries e.1)) (sym same)
first_rows node e es h false s more = more

pub rows_table : (es : List (OpId × Keys)) → IsStrictlySortedBy id_cmp (keys_of es) → (node : OpId) → node_rows node (table_list es) ≡ rows_found node (lookup (tied node) es)
unfolding IsStrictlySortedBy
rows_table [] h node = refl
rows_table (e ∷ es) h node =
    filter-append (λ x. id_eq x.0.0 node) (tagged e.0 (entries e.1)) (table_list es)
    ∙ ap (λ rs. rs ++ node_rows node (table_list es)) (rows_tagged node e.0 (entries e.1))
    ∙ ap (λ b. cond b (tagged e.0 (entries e.1)) [] ++ node_rows node (table_list es)) (id_equiv.symm e.0 node ∙ sym (eq_by_cmp-id node e.0))
    ∙ first_rows node e es h.0 (tied node e.0) refl (rows_table es h.1 node)

-- ---- rows written in their order

-- what a read of a list of rows has past its end
abbrev pub no_row : RegisterRow
no_row = record { node = record { time = 0; member = 0; index = 0 }; key = record { ref_ptr = (0, 0); now = [] }; writer = record { time = 0; member = 0; index = 0 }; value = lent.Null }

pub row_written : (rows : List RegisterRow) (i : ℕ) → i < length rows → IsStrictlySortedBy register_cmp (map (λ e. e.0) (rows_seen rows))
    → late_register (from_entries (rows_seen (take i rows))) (get_or rows i no_row).writer (put_key (get_or rows i no_row).node (get_or rows i no_row).key.now (value_of (get_or rows i no_row).value))
    ≡ from_entries {R = register_cmp} (rows_seen (take (i + 1) rows))
row_written rows i l h =
    let r = get_or rows i no_row in
    let parts : rows ≡ take i rows ++ r ∷ drop (i + 1) rows = sym (take-append-drop i rows) ∙ ap (λ rs. take i rows ++ rs) (drop_more rows i no_row l) in
    let keys : map (λ e. e.0) (rows_seen rows) ≡ map (λ e. e.0) (rows_seen (take i rows)) ++ (r.node, r.key.now) ∷ map (λ e. e.0) (rows_seen (drop (i + 1) rows)) =
    ap (λ rs. map (λ (e : Register × Written). e.0) (rows_seen rs)) parts ∙ ap (map (λ (e : Register × Written). e.0)) (map-append row_seen (take i rows) (r ∷ drop (i + 1) rows))
    ∙ map-append (λ (e : Register × Written). e.0) (rows_seen (take i rows)) (rows_seen (r ∷ drop (i + 1) rows)) in
    let none : find register_cmp (r.node, r.key.now) (rows_seen (take i rows)) ≡ None =
    none_among register_total (rows_seen (take i rows)) (r.node, r.key.now)
    (below_next register_total (map (λ e. e.0) (rows_seen (take i rows))) (r.node, r.key.now) (map (λ e. e.0) (rows_seen (drop (i + 1) rows))) (subst (IsStrictlySortedBy register_cmp) keys h)) in
    let free : get (from_entries {R = register_cmp} (rows_seen (take i rows))) (r.node, r.key.now) ≡ None = get-from_entries register_total (rows_seen (take i rows)) (r.node, r.key.now) ∙ none in
    rw free
    (sym (ap (λ rs. from_entries {R = register_cmp} (rows_seen rs)) (take_more rows i no_row l)
    ∙ ap (from_entries {R = register_cmp}) (map-append row_seen (take i rows) (r ∷ []))
    ∙ from_entries_push register_total register_exact (rows_seen (take i rows)) (r.node, r.key.now) (record { writer = r.writer; value = value_of r.value }) none))
