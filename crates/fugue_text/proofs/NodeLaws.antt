-- The texts of all nodes as one table.
use Rattle.std.specs.Prelude.{◌≡◌, ℕ, zero, suc, Bool, true, false, cond, ◌||◌, Option, Some, None, is_some, List, [], ◌∷◌, filter, filter_map, fold, refl}
use Rattle.std.proofs.Common.{sym, ◌∙◌, ap, subst, inl, inr}
use Rattle.std.specs.Option.{option_map}
use Rattle.std.specs.Map.{lookup, keys_of, set_value}
use Rattle.std.specs.BTreeMap.{insert_entry, is_at}
use Rattle.std.specs.List.Sorted.{IsStrictlySortedBy}
use Rattle.std.specs.Ordering.{match_ordering}
use Rattle.std.specs.FinMap.{find, put, get, insert}
use Rattle.std.specs.FinMap.Entries.{find-put}
use Rattle.std.specs.declared.cmp.Ordering.TheVariants.{Less, Equal, Greater}
use Rattle.op_ids.specs.declared.OpId.{OpId}
use Rattle.op_ids.specs.declared.Side.TheVariants.{Left}
use Rattle.op_ids.specs.Order.{id_cmp, id_eq, id_lt, id_plus, root_id}
use Rattle.op_ids.proofs.OrderLaws.{id_cmp_total, id_eq-exact}
use Rattle.model.specs.Operation.{Anchor}
use Rattle.model.specs.State.{RowKey, Character, edit_row, edit_found, has_anchor, run_of}
use Rattle.model.specs.View.{character_at, is_live, live_characters, text_of}
use Rattle.model.specs.Walk.{owned, rows_of, walk}
use Rattle.walk_laws.specs.Insertion.{HangsWell, HeadOrRow, IsInsertionTree, is_row}
use Rattle.walk_laws.proofs.Walks.{key_eq, key_cases, key_equiv, key_itself}
use Rattle.move_list.proofs.ShownLaws.{filtered_same}
use Rattle.move_list.proofs.TableLaws.{joined, rows_found, get_all, owned_all, entries_all, EachRises, table_same, table_put, table_edit}
use Rattle.fugue_text.specs.declared.texts.TextRow.{TextRow}
use Rattle.fugue_text.specs.Runs.{TextRows, character_in, edited, live_ids, places}
use Rattle.fugue_text.specs.Texts.{AreTexts, AreTrees, HangsIn, Table, document_of, own_rows, table_of}
use Rattle.fugue_text.proofs.IdLaws.{plus_zero, plus_plus}
use Rattle.fugue_text.proofs.RowLaws.{find-mapped}
use Rattle.fugue_text.proofs.CountLaws.{rising_of}

abbrev pub Nodes : Type 0
Nodes = List (OpId × TextRows)

abbrev pub Rising : Nodes → Type 0
Rising es = IsStrictlySortedBy id_cmp (keys_of es)

abbrev at_of : Character → Anchor
at_of c = c.at

some_mapped : {X Y : Type 0} (f : X → Y) (o : Option X) → is_some (option_map f o) ≡ is_some o
some_mapped f None = refl
some_mapped f (Some x) = refl

none_mapped : {X Y : Type 0} (f : X → Y) (o : Option X) → option_map f o ≡ None → o ≡ None
none_mapped f None h = refl
none_mapped f (Some x) h = cc

pub row_found : (rows : TextRows) (k : OpId) → is_row (places rows) k ≡ is_some (find id_cmp k rows)
row_found rows k = ap is_some (find-mapped at_of k rows) ∙ some_mapped at_of (find id_cmp k rows)

-- ---- the text of a node

pub tree_of : (es : Nodes) → AreTrees es → (n : OpId) (u : TextRows) → lookup (key_eq n) es ≡ Some u → IsInsertionTree (places u)
tree_of [] h n u t = cc
tree_of (e ∷ es) h n u t =
    elim (key_eq n e.0) as (λ b. cond b (Some e.1) (lookup (key_eq n) es) ≡ Some u → IsInsertionTree (places u)) [
      | true ↦ λ k. (let same : e.1 ≡ u = (let c : Some e.1 ≡ Some u = k in cc) in subst (λ (x : TextRows). IsInsertionTree (places x)) same h.0)
      | false ↦ λ k. tree_of es h.1 n u k
    ] t

pub trees_rise : (es : Nodes) → AreTrees es → EachRises own_rows es
trees_rise [] h = tt
trees_rise (e ∷ es) h = (rising_of e.1 h.0, trees_rise es h.1)

pub trees_set : (es : Nodes) (n : OpId) (v : TextRows) → AreTrees es → IsInsertionTree (places v) → AreTrees (set_value (is_at (id_cmp n)) es v)
trees_set [] n v h k = tt
trees_set (e ∷ es) n v h k =
    elim (is_at (id_cmp n) e.0) as (λ b. AreTrees (cond b ((e.0, v) ∷ es) (e ∷ set_value (is_at (id_cmp n)) es v))) [ true ↦ (k, h.1) | false ↦ (h.0, trees_set es n v h.1 k) ]

pub trees_insert : (es : Nodes) (n : OpId) (v : TextRows) → AreTrees es → IsInsertionTree (places v) → AreTrees (insert_entry id_cmp es n v)
trees_insert [] n v h k = (k, tt)
trees_insert (e ∷ es) n v h k =
    elim (id_cmp n e.0) as (λ o. AreTrees (match_ordering o ((n, v) ∷ e ∷ es) ((e.0, v) ∷ es) (e ∷ insert_entry id_cmp es n v))) [
      | Less ↦ (k, h)
      | Equal ↦ (k, h.1)
      | Greater ↦ (h.0, trees_insert es n v h.1 k)
    ]

-- ---- what the table has

abbrev pub HasRows : Nodes → OpId → TextRows → Type 0
HasRows es n u = (k : OpId) → get (table_of es) (n, k) ≡ find id_cmp k u

pub has_found : (es : Nodes) → Rising es → (n : OpId) (u : TextRows) → lookup (key_eq n) es ≡ Some u → HasRows es n u
has_found es se n u h k = get_all own_rows es se n k ∙ ap (λ o. joined own_rows o k) h

pub no_row : (es : Nodes) → Rising es → (n k : OpId) → lookup (key_eq n) es ≡ None → get (table_of es) (n, k) ≡ None
no_row es se n k h = get_all own_rows es se n k ∙ ap (λ o. joined own_rows o k) h

pub has_none : (es : Nodes) → Rising es → (n : OpId) (u : TextRows) → lookup (key_eq n) es ≡ None → u ≡ [] → HasRows es n u
has_none es se n u h e k = no_row es se n k h ∙ sym (ap (find id_cmp k) e)

module _ (es : Nodes) (n : OpId) (u : TextRows) (has : HasRows es n u) (t : Table) (view : table_of es ≡ t) where
  pub row_in : (k : OpId) → get t (n, k) ≡ find id_cmp k u
  row_in k = ap (λ (x : Table). get x (n, k)) (sym view) ∙ has k

  pub fresh_row : (id : OpId) → get t (n, id) ≡ None → find id_cmp id u ≡ None
  fresh_row id h = sym (row_in id) ∙ h

  pub fresh_place : (id : OpId) → get t (n, id) ≡ None → is_row (places u) id ≡ false
  fresh_place id h = row_found u id ∙ ap is_some (fresh_row id h)

  pub hangs_well : (id : OpId) (a : Anchor) → HangsIn t n id a → HangsWell (places u) id a
  hangs_well id a h = elim h as (λ _. HangsWell (places u) id a) [ inl e ↦ inl e | inr k ↦ inr (row_found u a.on ∙ ap is_some (sym (row_in a.on)) ∙ k.0, k.1) ]

  pub head_or : (left : OpId) → has_anchor t n left ≡ true → HeadOrRow (places u) left
  head_or left h =
      elim (id_eq left root_id) as (λ b. id_eq left root_id ≡ b → (b || is_some (get t (n, left))) ≡ true → HeadOrRow (places u) left) [
        | true ↦ λ e s. inl (id_eq-exact left root_id e)
        | false ↦ λ e s. inr (row_found u left ∙ ap is_some (sym (row_in left)) ∙ s)
      ] refl h

-- ---- the table of well-kept texts

module _ (es : Nodes) (se : Rising es) (kept : AreTrees es) where
  head_of : (n : OpId) (o : Option TextRows) → lookup (key_eq n) es ≡ o → get (table_of es) (n, root_id) ≡ None
  head_of n None s = no_row es se n root_id s
  head_of n (Some u) s = has_found es se n u s root_id ∙ none_mapped at_of (find id_cmp root_id u) (sym (find-mapped at_of root_id u) ∙ (tree_of es kept n u s).head)

  anchor_in : (n id : OpId) (c : Character) (o : Option TextRows) → lookup (key_eq n) es ≡ o → get (table_of es) (n, id) ≡ Some c → HangsIn (table_of es) n id c.at
  anchor_in n id c None s h = (let no : None ≡ Some c = sym (no_row es se n id s) ∙ h in absurd (let d : None ≡ Some c = no in cc))
  anchor_in n id c (Some u) s h =
      let has = has_found es se n u s in
      elim ((tree_of es kept n u s).anchors id c.at (find-mapped at_of id u ∙ ap (option_map at_of) (sym (has id) ∙ h))) as (λ _. HangsIn (table_of es) n id c.at) [
        | inl e ↦ inl e
        | inr k ↦ inr (ap is_some (has c.at.on) ∙ sym (row_found u c.at.on) ∙ k.0, k.1)
      ]

  pub texts_are : AreTexts (table_of es)
  texts_are = record { head = λ n. head_of n (lookup (key_eq n) es) refl; anchors = λ n id c h. anchor_in n id c (lookup (key_eq n) es) refl h }

  pub rows_are : (n : OpId) (o : Option TextRows) → lookup (key_eq n) es ≡ o → rows_of (λ c. c.at) (table_of es) n ≡ places (rows_found own_rows o)
  rows_are n o s = ap (λ xs. places (filter_map (owned n) xs)) (entries_all own_rows es se (trees_rise es kept)) ∙ ap places (owned_all own_rows es se n ∙ ap (rows_found own_rows) s)

  filter_same : (p q : OpId → Bool) (xs : List OpId) → ((x : OpId) → p x ≡ q x) → filter p xs ≡ filter q xs
  filter_same p q [] h = refl
  filter_same p q (x ∷ xs) h = λ i. cond (h x i) (x ∷ filter_same p q xs h i) (filter_same p q xs h i)

  found_in : (n : OpId) (o : Option TextRows) → lookup (key_eq n) es ≡ o → HasRows es n (rows_found own_rows o)
  found_in n None s = has_none es se n [] s refl
  found_in n (Some u) s = has_found es se n u s

  pub live_are : (n : OpId) (o : Option TextRows) → lookup (key_eq n) es ≡ o → live_characters (document_of (table_of es)) n ≡ live_ids (rows_found own_rows o)
  live_are n o s =
      filter_same (λ id. is_live (get (table_of es) (n, id))) (λ id. is_live (find id_cmp id (rows_found own_rows o))) (walk (rows_of (λ c. c.at) (table_of es) n)) (λ id. ap is_live (found_in n o s id))
      ∙ ap (λ rs. filter (λ id. is_live (find id_cmp id (rows_found own_rows o))) (walk rs)) (rows_are n o s)

  pub text_are : (n : OpId) (o : Option TextRows) → lookup (key_eq n) es ≡ o → text_of (document_of (table_of es)) n ≡ filter_map (character_in (rows_found own_rows o)) (live_ids (rows_found own_rows o))
  text_are n o s =
      filtered_same (character_at (document_of (table_of es)) n) (character_in (rows_found own_rows o)) (live_characters (document_of (table_of es)) n) (λ id. ap (option_map (λ (c : Character). c.character)) (found_in n o s id))
      ∙ ap (filter_map (character_in (rows_found own_rows o))) (live_are n o s)

-- ---- one node's text anew

find-edited : (id : OpId) (f : Character → Character) (k : OpId) (rows : TextRows) → find id_cmp k (edited rows id f) ≡ cond (key_eq k id) (option_map f (find id_cmp k rows)) (find id_cmp k rows)
find-edited id f k [] = elim (key_eq k id) as (λ b. ◌≡◌ {A = Option Character} None (cond b None None)) [ true ↦ refl | false ↦ refl ]
find-edited id f k (e ∷ rows) =
    let rest = find-edited id f k rows in
    elim (key_cases k e.0) as (λ _. find id_cmp k (edited (e ∷ rows) id f) ≡ cond (key_eq k id) (option_map f (find id_cmp k (e ∷ rows))) (find id_cmp k (e ∷ rows))) [
      | inl s ↦
          let own : key_eq k e.0 ≡ true = ap (λ x. key_eq x e.0) s ∙ key_itself e.0 in
          let turn : key_eq id e.0 ≡ key_eq k id = ap (key_eq id) (sym s) ∙ key_equiv.symm id k in
          rw own (ap (λ b. Some (cond b (f e.1) e.1)) turn ∙ elim (key_eq k id) as (λ b. Some (cond b (f e.1) e.1) ≡ cond b (Some (f e.1)) (Some e.1)) [ true ↦ refl | false ↦ refl ])
      | inr ne ↦ rw ne rest
    ]

module _ (es fs : Nodes) (se : Rising es) (sf : Rising fs) (n : OpId) (u v : TextRows)
    (updates : (q : OpId) → lookup (key_eq q) fs ≡ cond (key_eq n q) (Some v) (lookup (key_eq q) es)) (has : HasRows es n u) where
  pub texts_put : (id : OpId) (x : Character) → v ≡ put id_cmp id x u → table_of fs ≡ insert (table_of es) (n, id) x
  texts_put id x e =
      table_put own_rows es fs se sf n v updates id x
      (λ k. ap (find id_cmp k) e ∙ find-put id_cmp id_cmp_total k id x u ∙ ap (cond (key_eq k id) (Some x)) (sym (has k)))

  pub texts_same : v ≡ u → table_of fs ≡ table_of es
  texts_same e = table_same own_rows es fs se sf n v updates (λ k. ap (find id_cmp k) e ∙ sym (has k))

  pub texts_edited : (id : OpId) (f : Character → Character) → v ≡ edited u id f → table_of fs ≡ edit_row (table_of es) (n, id) f
  texts_edited id f e =
      table_edit own_rows es fs se sf n v updates id f
      (λ k. ap (find id_cmp k) e ∙ find-edited id f k u ∙ ap (λ o. cond (key_eq k id) (option_map f o) o) (sym (has k)))

pub nothing_edited : (t : Table) (key : RowKey) (f : Character → Character) → get t key ≡ None → edit_row t key f ≡ t
nothing_edited t key f h = ap (edit_found t key f) h

-- ---- erased ones in turn

pub fold_more : {X : Type 0} (g : X → OpId → X) (t : X) (first : OpId) (k : ℕ) → fold g t (run_of first (suc k)) ≡ g (fold g t (run_of first k)) (id_plus first k)
fold_more g t first zero = ap (g t) (sym (plus_zero first))
fold_more g t first (suc k) = fold_more g (g t first) (id_plus first 1) k ∙ ap (g (fold g (g t first) (run_of (id_plus first 1) k))) (plus_plus first k)

-- ---- rows in their order

-- what a read of a list of rows has past its end
abbrev pub no_text_row : TextRow
no_text_row = record { node = root_id; id = root_id; anchor = root_id; side = Left; character = 0; dead = false }

-- where a row hangs, told of the part before it
pub hangs_before : (t some : Table) (n id : OpId) (a : Anchor) → HangsIn t n id a → ((on : OpId) → id_lt on id ≡ true → get some (n, on) ≡ get t (n, on)) → HangsIn some n id a
hangs_before t some n id a h same = elim h as (λ _. HangsIn some n id a) [ inl e ↦ inl e | inr k ↦ inr (ap is_some (same a.on k.1) ∙ k.0, k.1) ]
