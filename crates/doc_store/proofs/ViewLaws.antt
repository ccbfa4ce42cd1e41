-- How a view is made.
use Rattle.std.specs.Prelude.{◌≡◌, ℕ, suc, ◌+◌, ◌-◌, ◌<◌, ◌≤◌, Bool, true, false, cond, ◌&&◌, Option, Some, None, List, [], ◌∷◌, ◌++◌, map, filter_map, flat_map, find, reverse, length, take, drop, refl}
use Rattle.std.proofs.Common.{sym, ◌∙◌, ap, subst, arith, get_or}
use Rattle.std.proofs.lemmas.List.{append_assoc, append-nil, length-map, reverse-append, map-append, drop_more, take_more}
use Rattle.std.proofs.lemmas.List.Elements.{filter_map-append}
use Rattle.std.specs.Option.{option_map}
use Rattle.std.specs.List.{cons_option}
use Rattle.std.specs.Ordering.{eq_by_cmp}
use Rattle.std.specs.BTreeMap as maps
use Rattle.std.specs.FinMap.{FinMap, entries, len, len-entries}
use Rattle.op_ids.specs.declared.OpId.{OpId}
use Rattle.op_ids.specs.Order.{id_cmp, id_eq, root_id}
use Rattle.op_ids.proofs.OrderLaws.{eq_by_cmp-id}
use Rattle.model.specs.State.{State, Place, RowKey, row_cmp, Register, Written}
use Rattle.model.specs.Walk.{walk}
use Rattle.model.specs.View.{Entry, ViewNode, child_at, children, entry_of, is_at, listed, outline, shown, view, view_node}
use Rattle.op_grammar.specs.Values.{value_of}
use Rattle.op_grammar.specs.declared.value.Value as lent
use Rattle.op_grammar.specs.declared.value.Value.TheVariants as lent_as
use Rattle.std.specs.Borrow.{Bor}
use Rattle.tree_move.specs.Parents as rows
use Rattle.tree_move.specs.declared.places.NodeRow.{NodeRow}
use Rattle.lww_map.specs.declared.registers.RegisterRow.{RegisterRow}
use Rattle.lww_map.specs.Keys.{rows_seen, node_rows}
use Rattle.doc_store.specs.Keys.{entry_seen, kept_key, kept_value}
use Rattle.doc_store.specs.Views.{Finds, child_found, pending_at, still_to_show}
use Rattle.doc_store.specs.declared.children.ChildIndex.{ChildIndex}
use Rattle.doc_store.specs.declared.children.Pending.{Pending}
use Rattle.effect_laws.proofs.RowsOf.{row_eq-both}

-- ---- the index

first_of : (b : Bool) (e : OpId × Place) (o : Option (OpId × Place)) → cond b (Some e.0) (option_map (λ x. x.0) o) ≡ option_map (λ x. x.0) (cond b (Some e) o)
first_of true e o = refl
first_of false e o = refl

pub finds_more : (index new : ChildIndex) (row : NodeRow) (nodes : List (OpId × Place))
    → ((q : RowKey) → maps.get row_cmp new.children q ≡ cond (eq_by_cmp row_cmp (row.parent, row.position) q) (Some row.id) (maps.get row_cmp index.children q)) → Finds index nodes → Finds new (rows.entry_of row ∷ nodes)
finds_more index new row nodes u f parent position =
    u (parent, position)
    ∙ ap (λ b. cond b (Some row.id) (child_found index parent position)) (row_eq-both row.parent row.position parent position ∙ (λ i. eq_by_cmp-id row.parent parent i && eq_by_cmp-id row.position position i))
    ∙ ap (cond (is_at parent position (rows.entry_of row)) (Some row.id)) (f parent position) ∙ first_of (is_at parent position (rows.entry_of row)) (rows.entry_of row) (find (is_at parent position) nodes)

pub finds_none : (index : ChildIndex) (nodes : List (OpId × Place)) → ((q : RowKey) → maps.get row_cmp index.children q ≡ None) → nodes ≡ [] → Finds index nodes
finds_none index nodes n e parent position = n (parent, position) ∙ ap (λ es. option_map (λ x. x.0) (find (is_at parent position) es)) (sym e)

pub finds_drop : (old new : ChildIndex) (given : List NodeRow) (i j : ℕ) (d : NodeRow) → i < length given → i + 1 ≡ j
    → ((q : RowKey) → maps.get row_cmp new.children q ≡ cond (eq_by_cmp row_cmp ((get_or given i d).parent, (get_or given i d).position) q) (Some (get_or given i d).id) (maps.get row_cmp old.children q))
    → Finds old (map rows.entry_of (drop j given)) → Finds new (map rows.entry_of (drop i given))
finds_drop old new given i j d l e u f =
    subst (λ rs. Finds new (map rows.entry_of rs)) (sym (drop_more given i d l))
    (finds_more old new (get_or given i d) (map rows.entry_of (drop (i + 1) given)) u (subst (λ k. Finds old (map rows.entry_of (drop k given))) (sym e) f))

filter_map_alike : {A B : Type 0} (f g : A → Option B) (xs : List A) → ((x : A) → f x ≡ g x) → filter_map f xs ≡ filter_map g xs
filter_map_alike f g [] h = refl
filter_map_alike f g (x ∷ xs) h = ap (λ o. cons_option o (filter_map f xs)) (h x) ∙ ap (cons_option (g x)) (filter_map_alike f g xs h)

pub found_children : (index : ChildIndex) (s : State) (parent : OpId) (walk : List OpId) → Finds index (entries s.nodes) → filter_map (child_found index parent) walk ≡ filter_map (child_at s parent) walk
found_children index s parent walk f = filter_map_alike (child_found index parent) (child_at s parent) walk (f parent)

pub entries_again : (es : List (OpId × Place)) → map rows.entry_of (map rows.row_of es) ≡ es
entries_again [] = refl
entries_again (e ∷ es) = ap (λ ds. e ∷ ds) (entries_again es)

pub taken_one : {A B : Type 0} (f : A → Option B) (xs : List A) (i : ℕ) (d : A) → i < length xs → filter_map f (take (i + 1) xs) ≡ filter_map f (take i xs) ++ cons_option (f (get_or xs i d)) []
taken_one f xs i d l = ap (filter_map f) (take_more xs i d l) ∙ filter_map-append f (take i xs) (get_or xs i d ∷ [])

-- ---- keys

shown_seen : (row : RegisterRow) (es : List Entry) → map entry_seen (cons_option (kept_key row) []) ++ es ≡ cons_option (shown row.key.now (value_of row.value)) es
shown_seen row es = by_value row.key row.value
  where
    by_value : (key : Bor (List ℕ)) (v : lent.Value) → map entry_seen (cons_option (kept_value key v) []) ++ es ≡ cons_option (shown key.now (value_of v)) es
    by_value key lent_as.Null = refl
    by_value key (lent_as.Bool b) = refl
    by_value key (lent_as.Int n) = refl
    by_value key (lent_as.Text t) = refl
    by_value key (lent_as.Bytes b) = refl

cons_parts : {A : Type 0} (o : Option A) (xs : List A) → cons_option o xs ≡ cons_option o [] ++ xs
cons_parts None xs = refl
cons_parts (Some x) xs = refl

abbrev shown_row : Register × Written → Option Entry
shown_row e = shown e.0.1 e.1.value

keys_shown : (rows : List RegisterRow) → map entry_seen (filter_map kept_key rows) ≡ filter_map shown_row (rows_seen rows)
keys_shown [] = refl
keys_shown (r ∷ rows) =
    ap (map entry_seen) (cons_parts (kept_key r) (filter_map kept_key rows)) ∙ map-append entry_seen (cons_option (kept_key r) []) (filter_map kept_key rows)
    ∙ ap (λ es. map entry_seen (cons_option (kept_key r) []) ++ es) (keys_shown rows) ∙ shown_seen r (filter_map shown_row (rows_seen rows))

of_node : (node : OpId) (es : List (Register × Written)) → filter_map shown_row (node_rows node es) ≡ filter_map (entry_of node) es
of_node node [] = refl
of_node node (e ∷ es) =
    elim (id_eq e.0.0 node) as (λ b. filter_map shown_row (cond b (e ∷ node_rows node es) (node_rows node es)) ≡ cons_option (cond b (shown_row e) None) (filter_map (entry_of node) es)) [
      | true ↦ ap (cons_option (shown_row e)) (of_node node es)
      | false ↦ of_node node es
    ]

pub node_keys : (node : OpId) (rows : List RegisterRow) (es : List (Register × Written)) → rows_seen rows ≡ node_rows node es → map entry_seen (filter_map kept_key rows) ≡ filter_map (entry_of node) es
node_keys node rows es e = keys_shown rows ∙ ap (filter_map shown_row) e ∙ of_node node es

-- ---- the stack

abbrev one_shown : State → Pending → List ViewNode
one_shown s o = listed (len s.nodes - o.depth) (outline s) o.depth o.id

pub still_pushed : (s : State) (stack : List Pending) (o : Pending) → still_to_show s (stack ++ o ∷ []) ≡ one_shown s o ++ still_to_show s stack
still_pushed s stack o = ap (flat_map (one_shown s)) (reverse-append stack (o ∷ []))

flat_append : (s : State) (xs ys : List Pending) → flat_map (one_shown s) (xs ++ ys) ≡ flat_map (one_shown s) xs ++ flat_map (one_shown s) ys
flat_append s [] ys = refl
flat_append s (x ∷ xs) ys = ap (λ l. one_shown s x ++ l) (flat_append s xs ys) ∙ sym (append_assoc (one_shown s x) (flat_map (one_shown s) xs) (flat_map (one_shown s) ys))

reverse_twice : {A : Type 0} (xs : List A) → reverse (reverse xs) ≡ xs
reverse_twice [] = refl
reverse_twice (x ∷ xs) = ap reverse (reverse-append (x ∷ []) xs) ∙ reverse-append (reverse xs) (x ∷ []) ∙ ap (λ l. x ∷ l) (reverse_twice xs)

pub still_opened : (s : State) (stack : List Pending) (depth : ℕ) (ids : List OpId) → still_to_show s (stack ++ reverse (map (pending_at depth) ids)) ≡ flat_map (one_shown s) (map (pending_at depth) ids) ++ still_to_show s stack
still_opened s stack depth ids =
    ap (flat_map (one_shown s)) (reverse-append stack (reverse (map (pending_at depth) ids)) ∙ ap (λ l. l ++ reverse stack) (reverse_twice (map (pending_at depth) ids)))
    ∙ flat_append s (map (pending_at depth) ids) (reverse stack)

listed_below : (s : State) (left depth : ℕ) (ids : List OpId) → left ≡ len s.nodes - (depth + 1) → flat_map (listed left (outline s) (suc depth)) ids ≡ flat_map (one_shown s) (map (pending_at (depth + 1)) ids)
listed_below s left depth [] e = refl
listed_below s left depth (id ∷ ids) e =
    let up : suc depth ≡ depth + 1 = omega arith in
    (λ i. listed (e i) (outline s) (up i) id ++ listed_below s left depth ids e i)

-- a node above others, and then those below it
pub shown_deeper : (s : State) (o : Pending) → o.depth < len s.nodes → one_shown s o ≡ view_node (outline s) o.depth o.id ∷ flat_map (one_shown s) (map (pending_at (o.depth + 1)) (children s o.id))
shown_deeper s o l =
    let left : len s.nodes - o.depth ≡ suc (len s.nodes - (o.depth + 1)) = omega arith in
    ap (λ n. listed n (outline s) o.depth o.id) left ∙ ap (λ ns. view_node (outline s) o.depth o.id ∷ ns) (listed_below s (len s.nodes - (o.depth + 1)) o.depth (children s o.id) refl)

pub shown_last : (s : State) (o : Pending) → len s.nodes ≤ o.depth → one_shown s o ≡ view_node (outline s) o.depth o.id ∷ []
shown_last s o l = (let left : len s.nodes - o.depth ≡ 0 = omega arith in ap (λ n. listed n (outline s) o.depth o.id) left)

-- what is left after a node of the stack was shown and its children were put there
pub next_deeper : (s : State) (stack : List Pending) (o : Pending) (kids : List OpId) → o.depth < len s.nodes → kids ≡ children s o.id
    → still_to_show s (stack ++ o ∷ []) ≡ view_node (outline s) o.depth o.id ∷ still_to_show s (stack ++ reverse (map (pending_at (o.depth + 1)) kids))
next_deeper s stack o kids l e =
    still_pushed s stack o ∙ ap (λ ns. ns ++ still_to_show s stack) (shown_deeper s o l ∙ ap (λ ids. view_node (outline s) o.depth o.id ∷ flat_map (one_shown s) (map (pending_at (o.depth + 1)) ids)) (sym e))
    ∙ ap (λ ns. view_node (outline s) o.depth o.id ∷ ns) (sym (still_opened s stack (o.depth + 1) kids))

pub next_last : (s : State) (stack : List Pending) (o : Pending) → len s.nodes ≤ o.depth → still_to_show s (stack ++ o ∷ []) ≡ view_node (outline s) o.depth o.id ∷ still_to_show s stack
next_last s stack o l = still_pushed s stack o ∙ ap (λ ns. ns ++ still_to_show s stack) (shown_last s o l)

-- the nodes shown so far, with one more, and the rest
pub one_more_shown : (done : List ViewNode) (n : ViewNode) (old now all : List ViewNode) → old ≡ n ∷ now → done ++ old ≡ all → (done ++ n ∷ []) ++ now ≡ all
one_more_shown done n old now all e h = append_assoc done (n ∷ []) now ∙ ap (λ l. done ++ l) (sym e) ∙ h

pub shorter : (n : ViewNode) (old now : List ViewNode) → old ≡ n ∷ now → length now < length old
shorter n old now e = let l = ap length e in omega (arith, l)

pub view_begins : (s : State) → still_to_show s (record { depth = 0; id = root_id } ∷ []) ≡ view s
view_begins s = (let z : len s.nodes - 0 ≡ len s.nodes = omega arith in ap (λ n. listed n (outline s) 0 root_id ++ []) z) ∙ append-nil (view s)

pub nodes_pushed : {A B : Type 0} (f : A → B) (old : List A) (x : A) (now : List A) (y : B) → now ≡ old ++ x ∷ [] → f x ≡ y → map f now ≡ map f old ++ y ∷ []
nodes_pushed f old x now y e h = ap (map f) e ∙ map-append f old (x ∷ []) ∙ ap (λ z. map f old ++ z ∷ []) h

pub rows_len : (m : FinMap id_cmp Place) (given : List NodeRow) → given ≡ map rows.row_of (entries m) → length given ≡ len m
rows_len m given e = ap length e ∙ length-map (entries m) rows.row_of ∙ sym (len-entries m)

pub index_of : (index : ChildIndex) (s : State) (given given' : List NodeRow) (m : FinMap id_cmp Place) → Finds index (map rows.entry_of given') → given' ≡ given → given ≡ map rows.row_of (entries m) → m ≡ s.nodes → Finds index (entries s.nodes)
index_of index s given given' m f e h k = subst (Finds index) (ap (map rows.entry_of) (e ∙ h) ∙ entries_again (entries m) ∙ ap entries k) f
