-- The lists of all nodes as two tables.
use Rattle.std.specs.Prelude.{◌≡◌, ◌≢◌, Bool, true, false, not, cond, ◌&&◌, ◌||◌, Option, Some, None, is_some, List, [], ◌∷◌, ◌++◌, map, filter_map, find, refl, ◌⊎◌, Result, Ok, Err, OnOk, OnErr}
use Rattle.std.proofs.Common.{sym, ◌∙◌, ap, subst, inl, inr}
use Rattle.std.specs.Option.{option_map, option_map_or}
use Rattle.std.specs.Map.{lookup, keys_of, set_value}
use Rattle.std.specs.BTreeMap.{insert_entry, is_at}
use Rattle.std.specs.List.{AllByRecursion, cons_option}
use Rattle.std.specs.List.Sorted.{IsStrictlySortedBy}
use Rattle.std.specs.Ordering.{match_ordering}
use Rattle.std.specs.FinMap as maps
use Rattle.std.specs.FinMap.{FinMap, get, insert, empty, entries, entries_sorted, get-entries, get-insert, get-empty, from_entries, is_sorted}
use Rattle.std.specs.declared.cmp.Ordering.TheVariants.{Less, Equal, Greater}
use Rattle.op_ids.specs.declared.OpId.{OpId}
use Rattle.op_ids.specs.declared.Side.TheVariants.{Right}
use Rattle.op_ids.specs.Order.{id_cmp, id_eq, id_lt, root_id}
use Rattle.op_ids.proofs.OrderLaws.{id_cmp_total, id_cmp_exact, id_eq-exact, eq_by_cmp-id}
use Rattle.model.specs.Value.{Value}
use Rattle.model.specs.Operation.{Anchor, add_item, shift_item, set_item, drop_item}
use Rattle.model.specs.State.{RowKey, row_cmp, Element, edit_row, has_anchor}
use Rattle.model.specs.Edit.{element_position}
use Rattle.model.specs.View.{element_is_at, element_at, element_value, live_elements, elements_of}
use Rattle.model.specs.Walk.{Rows, walk, rows_of, owned, place_after}
use Rattle.model_laws.specs.Arrival.{shifted_late, set_late}
use Rattle.model_laws.proofs.Tables.{row_total}
use Rattle.walk_laws.specs.Insertion.{anchor_of, is_row, with_row, HangsWell, HeadOrRow, IsInsertionTree, PlacedAfter}
use Rattle.walk_laws.proofs.Walks.{key_eq, key_itself, key_cases}
use Rattle.walk_laws.proofs.InsertionLaws.{T_true, found_with, place_after_is_after}
use Rattle.fugue_tree.specs.Tree.{row_of}
use Rattle.fugue_tree.proofs.GrowLaws.{tree_empty}
use Rattle.op_grammar.specs.declared.value.OwnValue.{OwnValue}
use Rattle.op_grammar.specs.Values.{own_value_of}
use Rattle.move_list.specs.Items.{added, dropped_of, edited}
use Rattle.move_list.specs.Kept.{NodeRows, AreAt, IsList, IsListOf, AreListsOf, tagged, all_rows, places_in, items_in, tables_of, is_shown_at, shown_at, shown, item_at}
use Rattle.move_list.specs.Lists.{ListTables, document_of, lists_after, HangsIn, AreLists, place_entries, handed, ids_of, values_of}
use Rattle.move_list.proofs.ItemLaws.{get-edited}
use Rattle.move_list.proofs.ShownLaws.{filtered_same, shown_are_there, ids_handed, values_handed}
use Rattle.move_list.proofs.TableLaws.{joined, rows_found, get_all, owned_all, entries_all, EachRises, table, table_same, table_put, table_edit, own_node}

abbrev pub Nodes : Type 0
Nodes = List (OpId × NodeRows)

abbrev pub Rising : Nodes → Type 0
Rising es = IsStrictlySortedBy id_cmp (keys_of es)

pub placed_rows : (owner : OpId) (rows : Rows) → place_entries (map (row_of owner) rows) ≡ tagged owner rows
placed_rows owner [] = refl
placed_rows owner (e ∷ rows) = ap (λ es. ((owner, e.0), e.1) ∷ es) (placed_rows owner rows)

-- ---- the list of a node

pub list_of : (es : Nodes) → AreListsOf es → (n : OpId) (l : NodeRows) → lookup (key_eq n) es ≡ Some l → IsListOf n l
list_of [] h n l t = cc
list_of (e ∷ es) h n l t =
    elim (key_cases n e.0) as (λ _. IsListOf n l) [
      | inl s ↦
          let own : key_eq n e.0 ≡ true = ap (λ x. key_eq x e.0) s ∙ key_itself e.0 in
          let is : Some e.1 ≡ Some l = rw own at t in
          let same : e.1 ≡ l = cc in
          subst (λ (x : NodeRows). IsListOf n x) same (subst (λ (x : OpId). IsListOf x e.1) (sym s) h.0)
      | inr ne ↦ (let more : lookup (key_eq n) es ≡ Some l = rw ne at t in list_of es h.1 n l more)
    ]

pub places_rise : (es : Nodes) → AreListsOf es → EachRises places_in es
places_rise [] h = tt
places_rise (e ∷ es) h = (h.0.list.tree.rising, places_rise es h.1)

pub items_rise : (es : Nodes) → EachRises items_in es
items_rise [] = tt
items_rise (e ∷ es) = (T_true _ (entries_sorted e.1.elements), items_rise es)

pub lists_set : (es : Nodes) (n : OpId) (v : NodeRows) → AreListsOf es → IsListOf n v → AreListsOf (set_value (is_at (id_cmp n)) es v)
lists_set [] n v h k = tt
lists_set (e ∷ es) n v h k =
    elim (key_cases n e.0) as (λ _. AreListsOf (set_value (is_at (id_cmp n)) (e ∷ es) v)) [
      | inl s ↦
          let own : is_at (id_cmp n) e.0 ≡ true = ap (λ x. key_eq x e.0) s ∙ key_itself e.0 in
          rw own (subst (λ (x : OpId). IsListOf x v) s k, h.1)
      | inr ne ↦ (let other : is_at (id_cmp n) e.0 ≡ false = ne in rw other (h.0, lists_set es n v h.1 k))
    ]

pub lists_insert : (es : Nodes) (n : OpId) (v : NodeRows) → AreListsOf es → IsListOf n v → AreListsOf (insert_entry id_cmp es n v)
lists_insert [] n v h k = (k, tt)
lists_insert (e ∷ es) n v h k =
    elim (id_cmp n e.0) as (λ o. id_cmp n e.0 ≡ o → AreListsOf (match_ordering o ((n, v) ∷ e ∷ es) ((e.0, v) ∷ es) (e ∷ insert_entry id_cmp es n v))) [
      | Less ↦ λ s. (k, h)
      | Equal ↦ λ s. (subst (λ (x : OpId). IsListOf x v) (id_cmp_exact n e.0 s) k, h.1)
      | Greater ↦ λ s. (h.0, lists_insert es n v h.1 k)
    ] refl

pub list_kept : {T E : Type 0} (n : OpId) (u v w : NodeRows) (r : Result T E) → w.owner ≡ u.owner → IsListOf n u → OnOk r (v ≡ w) → OnOk r (IsList v) → OnErr r (v ≡ u) → IsListOf n v
list_kept n u v w (Ok x) s h e k f = record { owner = ap (λ (l : NodeRows). l.owner) e ∙ s ∙ h.owner; list = k }
list_kept n u v w (Err y) s h e k f = subst (λ (x : NodeRows). IsListOf n x) (sym f) h

-- ---- what the tables have

-- the tables have these rows of a node
pub record HasRows (es : Nodes) (n : OpId) (u : NodeRows) : Type 0 where
  pub places : (k : OpId) → get (table places_in es) (n, k) ≡ anchor_of u.positions k
  pub items : (k : OpId) → get (table items_in es) (n, k) ≡ get u.elements k

pub has_found : (es : Nodes) → Rising es → (n : OpId) (u : NodeRows) → lookup (key_eq n) es ≡ Some u → HasRows es n u
has_found es se n u h = record {
  places = λ k. get_all places_in es se n k ∙ ap (λ o. joined places_in o k) h;
  items = λ k. get_all items_in es se n k ∙ ap (λ o. joined items_in o k) h ∙ sym (get-entries u.elements k);
}

pub has_none : (es : Nodes) → Rising es → (n : OpId) (u : NodeRows) → lookup (key_eq n) es ≡ None → u.positions ≡ [] → u.elements ≡ empty → HasRows es n u
has_none es se n u h p e = record {
  places = λ k. get_all places_in es se n k ∙ ap (λ o. joined places_in o k) h ∙ sym (ap (λ rows. anchor_of rows k) p);
  items = λ k. get_all items_in es se n k ∙ ap (λ o. joined items_in o k) h ∙ sym (ap (λ (m : FinMap id_cmp Element). get m k) e ∙ get-empty id_cmp k);
}

pub no_place : (es : Nodes) → Rising es → (n k : OpId) → lookup (key_eq n) es ≡ None → get (tables_of es).positions (n, k) ≡ None
no_place es se n k h = get_all places_in es se n k ∙ ap (λ o. joined places_in o k) h

pub no_item : (es : Nodes) → Rising es → (n k : OpId) → lookup (key_eq n) es ≡ None → get (tables_of es).elements (n, k) ≡ None
no_item es se n k h = get_all items_in es se n k ∙ ap (λ o. joined items_in o k) h

module _ (es : Nodes) (n : OpId) (u : NodeRows) (has : HasRows es n u) (t : ListTables) (view : tables_of es ≡ t) where
  pub place_in : (k : OpId) → get t.positions (n, k) ≡ anchor_of u.positions k
  place_in k = ap (λ (x : ListTables). get x.positions (n, k)) (sym view) ∙ has.places k

  pub item_in : (k : OpId) → get t.elements (n, k) ≡ get u.elements k
  item_in k = ap (λ (x : ListTables). get x.elements (n, k)) (sym view) ∙ has.items k

  pub fresh_place : (id : OpId) → get t.positions (n, id) ≡ None → is_row u.positions id ≡ false
  fresh_place id h = ap is_some (sym (place_in id) ∙ h)

  pub fresh_item : (id : OpId) → get t.elements (n, id) ≡ None → get u.elements id ≡ None
  fresh_item id h = sym (item_in id) ∙ h

  pub hangs_well : (id : OpId) (a : Anchor) → HangsIn t.positions n id a → HangsWell u.positions id a
  hangs_well id a h = elim h as (λ _. HangsWell u.positions id a) [ inl e ↦ inl e | inr k ↦ inr (ap is_some (sym (place_in a.on)) ∙ k.0, k.1) ]

  -- an element more, as the tables have it
  pub at_put : (id : OpId) (e : Element) → AreLists (record t { elements = insert t.elements (n, id) e }) → AreAt u.positions (insert u.elements id e)
  at_put id e h = record {
    position = λ k f s. ap is_some (sym (place_in f.position)) ∙ h.position n k f (more k ∙ s);
    own_position = λ k j f g s r same. h.own_position n k j f g (more k ∙ s) (more j ∙ r) same;
  }
    where
      more : (k : OpId) → get (insert t.elements (n, id) e) (n, k) ≡ get (insert u.elements id e) k
      more k =
          get-insert row_total t.elements (n, id) e (n, k) ∙ ap (λ b. cond b (Some e) (get t.elements (n, k))) (own_node n k id)
          ∙ ap (cond (key_eq k id) (Some e)) (item_in k) ∙ sym (get-insert id_cmp_total u.elements id e k)

-- ---- the tables of well-kept lists

module _ (es : Nodes) (se : Rising es) (kept : AreListsOf es) where
  abbrev ts : ListTables
  ts = tables_of es

  head_of : (n : OpId) (o : Option NodeRows) → lookup (key_eq n) es ≡ o → get ts.positions (n, root_id) ≡ None
  head_of n None s = no_place es se n root_id s
  head_of n (Some l) s = (has_found es se n l s).places root_id ∙ (list_of es kept n l s).list.tree.head

  anchor_in : (n id : OpId) (a : Anchor) (o : Option NodeRows) → lookup (key_eq n) es ≡ o → get ts.positions (n, id) ≡ Some a → HangsIn ts.positions n id a
  anchor_in n id a None s h = (let no : None ≡ Some a = sym (no_place es se n id s) ∙ h in absurd (let c : None ≡ Some a = no in cc))
  anchor_in n id a (Some l) s h =
      let has = has_found es se n l s in
      elim ((list_of es kept n l s).list.tree.anchors id a (sym (has.places id) ∙ h)) as (λ _. HangsIn ts.positions n id a) [
        | inl e ↦ inl e
        | inr k ↦ inr (ap is_some (has.places a.on) ∙ k.0, k.1)
      ]

  position_in : (n id : OpId) (e : Element) (o : Option NodeRows) → lookup (key_eq n) es ≡ o → get ts.elements (n, id) ≡ Some e → is_some (get ts.positions (n, e.position)) ≡ true
  position_in n id e None s h = (let no : None ≡ Some e = sym (no_item es se n id s) ∙ h in cc)
  position_in n id e (Some l) s h =
      let has = has_found es se n l s in
      ap is_some (has.places e.position) ∙ (list_of es kept n l s).list.items.position id e (sym (has.items id) ∙ h)

  own_in : (n id other : OpId) (e f : Element) (o : Option NodeRows) → lookup (key_eq n) es ≡ o → get ts.elements (n, id) ≡ Some e → get ts.elements (n, other) ≡ Some f → e.position ≡ f.position → id ≡ other
  own_in n id other e f None s h k same = (let no : None ≡ Some e = sym (no_item es se n id s) ∙ h in absurd (let c : None ≡ Some e = no in cc))
  own_in n id other e f (Some l) s h k same =
      let has = has_found es se n l s in
      (list_of es kept n l s).list.items.own_position id other e f (sym (has.items id) ∙ h) (sym (has.items other) ∙ k) same

  pub lists_are : AreLists ts
  lists_are = record {
    head = λ n. head_of n (lookup (key_eq n) es) refl;
    anchors = λ n id a h. anchor_in n id a (lookup (key_eq n) es) refl h;
    position = λ n id e h. position_in n id e (lookup (key_eq n) es) refl h;
    own_position = λ n id other e f h k same. own_in n id other e f (lookup (key_eq n) es) refl h k same;
  }

  -- ---- what is shown of them

  same_pairs : (rs : Rows) → map (λ r. (r.0, r.1)) rs ≡ rs
  same_pairs [] = refl
  same_pairs (r ∷ rs) = ap (λ xs. r ∷ xs) (same_pairs rs)

  pub rows_are : (n : OpId) (o : Option NodeRows) → lookup (key_eq n) es ≡ o → rows_of (λ at. at) ts.positions n ≡ rows_found places_in o
  rows_are n o s =
      ap (λ xs. map (λ r. (r.0, r.1)) (filter_map (owned n) xs)) (entries_all places_in es se (places_rise es kept))
      ∙ same_pairs (filter_map (owned n) (all_rows places_in es)) ∙ owned_all places_in es se n ∙ ap (rows_found places_in) s

  sought : (n p : OpId) (xs : List (RowKey × Element)) → option_map (λ e. e.0.1) (find (element_is_at n p) xs) ≡ shown_at (filter_map (owned n) xs) p
  sought n p [] = refl
  sought n p (x ∷ xs) =
      let rest = sought n p xs in
      elim (id_eq x.0.0 n)
      as (λ b. option_map (λ (e : RowKey × Element). e.0.1) (cond (b && is_shown_at p (x.0.1, x.1)) (Some x) (find (element_is_at n p) xs)) ≡ shown_at (cons_option (cond b (Some (x.0.1, x.1)) None) (filter_map (owned n) xs)) p) [
        | true ↦
            elim (is_shown_at p (x.0.1, x.1))
            as (λ b. option_map (λ (e : RowKey × Element). e.0.1) (cond b (Some x) (find (element_is_at n p) xs)) ≡ option_map (λ (e : OpId × Element). e.0) (cond b (Some (x.0.1, x.1)) (find (is_shown_at p) (filter_map (owned n) xs)))) [ true ↦ refl | false ↦ rest ]
        | false ↦ rest
      ]

  at_position : (n p : OpId) (o : Option NodeRows) → lookup (key_eq n) es ≡ o → element_at (document_of ts) n p ≡ shown_at (rows_found items_in o) p
  at_position n p o s =
      ap (λ xs. option_map (λ (e : RowKey × Element). e.0.1) (find (element_is_at n p) xs)) (entries_all items_in es se (items_rise es))
      ∙ sought n p (all_rows items_in es) ∙ ap (λ xs. shown_at xs p) (owned_all items_in es se n ∙ ap (rows_found items_in) s)

  pub live_are : (n : OpId) (o : Option NodeRows) → lookup (key_eq n) es ≡ o → live_elements (document_of ts) n ≡ filter_map (shown_at (rows_found items_in o)) (walk (rows_found places_in o))
  live_are n o s =
      filtered_same (element_at (document_of ts) n) (shown_at (rows_found items_in o)) (walk (rows_of (λ at. at) ts.positions n)) (λ p. at_position n p o s)
      ∙ ap (λ rs. filter_map (shown_at (rows_found items_in o)) (walk rs)) (rows_are n o s)

  ids_are : (items : List (OpId × OwnValue)) → ids_of items ≡ map (λ (x : OpId × Value). x.0) (handed items)
  ids_are [] = refl
  ids_are (x ∷ items) = ap (λ is. x.0 ∷ is) (ids_are items)

  values_are : (items : List (OpId × OwnValue)) → values_of items ≡ map (λ (x : OpId × Value). x.1) (handed items)
  values_are [] = refl
  values_are (x ∷ items) = ap (λ vs. own_value_of x.1 ∷ vs) (values_are items)

  module _ (n : OpId) (l : NodeRows) (s : lookup (key_eq n) es ≡ Some l) (items : List (OpId × OwnValue)) (h : handed items ≡ filter_map (item_at l.elements) (shown l)) where
    pub ids_shown : ids_of items ≡ live_elements (document_of ts) n
    ids_shown = ids_are items ∙ ap (map (λ (x : OpId × Value). x.0)) h ∙ ids_handed l.elements (shown l) (shown_are_there l) ∙ sym (live_are n (Some l) s)

    pub values_shown : values_of items ≡ elements_of (document_of ts) n
    values_shown =
        values_are items ∙ ap (map (λ (x : OpId × Value). x.1)) h ∙ values_handed l.elements (shown l)
        ∙ filtered_same (λ id. option_map (λ (e : Element). e.value) (get l.elements id)) (element_value (document_of ts) n) (shown l)
        (λ id. ap (option_map (λ (e : Element). e.value)) (sym ((has_found es se n l s).items id)))
        ∙ ap (filter_map (element_value (document_of ts) n)) (sym (live_are n (Some l) s))

  pub none_shown : (n : OpId) → lookup (key_eq n) es ≡ None → [] ≡ live_elements (document_of ts) n
  none_shown n s = sym (live_are n None s)

  pub no_values : (n : OpId) → lookup (key_eq n) es ≡ None → [] ≡ elements_of (document_of ts) n
  no_values n s = ap (filter_map (element_value (document_of ts) n)) (none_shown n s)

  -- ---- where a position goes

  head_or : (n left : OpId) (rows : Rows) → ((k : OpId) → get ts.positions (n, k) ≡ anchor_of rows k) → has_anchor ts.positions n left ≡ true → HeadOrRow rows left
  head_or n left rows same h =
      elim (id_eq left root_id) as (λ b. id_eq left root_id ≡ b → (b || is_some (get ts.positions (n, left))) ≡ true → HeadOrRow rows left) [
        | true ↦ λ e t. inl (id_eq-exact left root_id e)
        | false ↦ λ e t. inr (ap is_some (sym (same left)) ∙ t)
      ] refl h

  pub head_or_found : (n left : OpId) (l : NodeRows) → lookup (key_eq n) es ≡ Some l → has_anchor ts.positions n left ≡ true → HeadOrRow l.positions left
  head_or_found n left l s h = head_or n left l.positions (has_found es se n l s).places h

  pub head_or_none : (n left : OpId) → lookup (key_eq n) es ≡ None → has_anchor ts.positions n left ≡ true → HeadOrRow [] left
  head_or_none n left s h = head_or n left [] (λ k. no_place es se n k s) h

-- An element stands at a position of its node; one that isn't there is said to stand at the head.
pub element_anchored : (t : ListTables) (n id : OpId) → AreLists t → has_anchor t.positions n (element_position (document_of t) n id) ≡ true
element_anchored t n id h =
    elim (get t.elements (n, id)) as (λ o. get t.elements (n, id) ≡ o → has_anchor t.positions n (option_map_or (λ (e : Element). e.position) o root_id) ≡ true) [
      | None ↦ λ s. refl
      | Some e ↦ λ s. elim (id_eq e.position root_id) as (λ b. (b || is_some (get t.positions (n, e.position))) ≡ true) [ true ↦ refl | false ↦ h.position n id e s ]
    ] refl

pub placed_none : (left row : OpId) → HeadOrRow [] left → id_lt left row ≡ true → PlacedAfter [] left row
placed_none left row h l = place_after_is_after [] left row tree_empty h refl l

-- ---- one node's list anew

module _ (es fs : Nodes) (se : Rising es) (sf : Rising fs) (n : OpId) (u v : NodeRows)
    (updates : (q : OpId) → lookup (key_eq q) fs ≡ cond (key_eq n q) (Some v) (lookup (key_eq q) es)) (has : HasRows es n u) where
  places_with : (id : OpId) (a : Anchor) → v.positions ≡ with_row u.positions id a → table places_in fs ≡ insert (table places_in es) (n, id) a
  places_with id a e =
      table_put places_in es fs se sf n v updates id a
      (λ k. ap (λ rows. anchor_of rows k) e ∙ found_with u.positions id a k ∙ ap (cond (key_eq k id) (Some a)) (sym (has.places k)))

  places_same : v.positions ≡ u.positions → table places_in fs ≡ table places_in es
  places_same e = table_same places_in es fs se sf n v updates (λ k. ap (λ rows. anchor_of rows k) e ∙ sym (has.places k))

  items_with : (id : OpId) (x : Element) → v.elements ≡ insert u.elements id x → table items_in fs ≡ insert (table items_in es) (n, id) x
  items_with id x e =
      table_put items_in es fs se sf n v updates id x
      (λ k. sym (get-entries v.elements k) ∙ ap (λ (m : FinMap id_cmp Element). get m k) e ∙ get-insert id_cmp_total u.elements id x k ∙ ap (cond (key_eq k id) (Some x)) (sym (has.items k)))

  items_edit : (id : OpId) (f : Element → Element) → v.elements ≡ edited u.elements id f → table items_in fs ≡ edit_row (table items_in es) (n, id) f
  items_edit id f e =
      table_edit items_in es fs se sf n v updates id f
      (λ k. sym (get-entries v.elements k) ∙ ap (λ (m : FinMap id_cmp Element). get m k) e ∙ get-edited u.elements id f k ∙ ap (λ o. cond (key_eq k id) (option_map f o) o) (sym (has.items k)))

  items_same : v.elements ≡ u.elements → table items_in fs ≡ table items_in es
  items_same e = table_same items_in es fs se sf n v updates (λ k. sym (get-entries v.elements k) ∙ ap (λ (m : FinMap id_cmp Element). get m k) e ∙ sym (has.items k))

  pub lists_same : v ≡ u → tables_of fs ≡ tables_of es
  lists_same e = λ i. record { positions = places_same (ap (λ (l : NodeRows). l.positions) e) i; elements = items_same (ap (λ (l : NodeRows). l.elements) e) i }

  pub lists_added : (id : OpId) (a : Anchor) (value : Value) → v ≡ record u { positions = with_row u.positions id a; elements = insert u.elements id (added id value) } → tables_of fs ≡ lists_after (tables_of es) id (add_item n a value)
  lists_added id a value e =
      λ i. record { positions = places_with id a (ap (λ (l : NodeRows). l.positions) e) i; elements = items_with id (added id value) (ap (λ (l : NodeRows). l.elements) e) i }

  pub lists_shifted : (element id : OpId) (a : Anchor) → v ≡ record u { positions = with_row u.positions id a; elements = edited u.elements element (shifted_late id) } → tables_of fs ≡ lists_after (tables_of es) id (shift_item n element a)
  lists_shifted element id a e =
      λ i. record { positions = places_with id a (ap (λ (l : NodeRows). l.positions) e) i; elements = items_edit element (shifted_late id) (ap (λ (l : NodeRows). l.elements) e) i }

  pub lists_written : (element id : OpId) (value : Value) → v ≡ record u { elements = edited u.elements element (set_late id value) } → tables_of fs ≡ lists_after (tables_of es) id (set_item n element value)
  lists_written element id value e =
      λ i. record { positions = places_same (ap (λ (l : NodeRows). l.positions) e) i; elements = items_edit element (set_late id value) (ap (λ (l : NodeRows). l.elements) e) i }

  pub lists_dropped : (element id : OpId) → v ≡ record u { elements = edited u.elements element dropped_of } → tables_of fs ≡ lists_after (tables_of es) id (drop_item n element)
  lists_dropped element id e =
      λ i. record { positions = places_same (ap (λ (l : NodeRows). l.positions) e) i; elements = items_edit element dropped_of (ap (λ (l : NodeRows). l.elements) e) i }

  pub lists_hung : (id : OpId) (a : Anchor) → v ≡ record u { positions = with_row u.positions id a } → tables_of fs ≡ record (tables_of es) { positions = insert (tables_of es).positions (n, id) a }
  lists_hung id a e =
      λ i. record { positions = places_with id a (ap (λ (l : NodeRows). l.positions) e) i; elements = items_same (ap (λ (l : NodeRows). l.elements) e) i }

  pub lists_put : (id : OpId) (x : Element) → v ≡ record u { elements = insert u.elements id x } → tables_of fs ≡ record (tables_of es) { elements = insert (tables_of es).elements (n, id) x }
  lists_put id x e =
      λ i. record { positions = places_same (ap (λ (l : NodeRows). l.positions) e) i; elements = items_with id x (ap (λ (l : NodeRows). l.elements) e) i }

-- ---- rows in their order

-- with fewer elements they are well kept too
pub fewer_lists : (t : ListTables) (some : FinMap row_cmp Element) → AreLists t → ((k : RowKey) (e : Element) → get some k ≡ Some e → get t.elements k ≡ Some e) → AreLists (record t { elements = some })
fewer_lists t some h more = record {
  head = h.head;
  anchors = h.anchors;
  position = λ n id e s. h.position n id e (more (n, id) e s);
  own_position = λ n id other e f s r same. h.own_position n id other e f (more (n, id) e s) (more (n, other) f r) same;
}

pub put_there : (t : FinMap row_cmp Element) (n id : OpId) (e : Element) → get (insert t (n, id) e) (n, id) ≡ Some e
put_there t n id e = get-insert row_total t (n, id) e (n, id) ∙ ap (λ b. cond b (Some e) (get t (n, id))) (own_node n id id ∙ key_itself id)

-- the anchors of a table, told of the part before a row
pub hangs_before : (t some : FinMap row_cmp Anchor) (n id : OpId) (a : Anchor) → HangsIn t n id a → ((on : OpId) → id_lt on id ≡ true → get some (n, on) ≡ get t (n, on)) → HangsIn some n id a
hangs_before t some n id a h same = elim h as (λ _. HangsIn some n id a) [ inl e ↦ inl e | inr k ↦ inr (ap is_some (same a.on k.1) ∙ k.0, k.1) ]
