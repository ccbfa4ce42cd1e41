-- Elements by their ids: what a look-up finds, and what a write makes.
use Rattle.std.specs.Prelude.{◌≡◌, Bool, true, false, cond, Option, Some, None, is_some, List, [], ◌∷◌, map, refl, ◌⊎◌}
use Rattle.std.proofs.Common.{sym, ◌∙◌, ap, inl, inr}
use Rattle.std.specs.Option.{option_map}
use Rattle.std.specs.Map.{lookup, keys_of}
use Rattle.std.specs.List.Sorted.{IsStrictlySortedBy}
use Rattle.std.specs.List.{AllByRecursion}
use Rattle.std.specs.FinMap.{FinMap, find, get, insert, remove, entries, from_entries, get-from_entries, get-insert, get-remove, same_map}
use Rattle.std.specs.declared.cmp.Ordering.TheVariants.{Less}
use Rattle.op_ids.specs.declared.OpId.{OpId}
use Rattle.op_ids.specs.Order.{id_cmp}
use Rattle.op_ids.proofs.OrderLaws.{id_cmp_total, id_cmp_exact}
use Rattle.model.specs.State.{Element}
use Rattle.model_laws.proofs.KeptTables.{entries_are}
use Rattle.walk_laws.proofs.Walks.{key_eq, key_equiv, key_itself, key_cases}
use Rattle.move_list.specs.declared.item.Item.{Item}
use Rattle.move_list.specs.Items.{seen, kept_entry, items_of, edit_if, edited}

find_kept : (q : OpId) (es : List (OpId × Item)) → find id_cmp q (map kept_entry es) ≡ option_map seen (lookup (key_eq q) es)
find_kept q [] = refl
find_kept q (e ∷ es) =
    elim (key_eq q e.0) as (λ b. cond b (Some (seen e.1)) (find id_cmp q (map kept_entry es)) ≡ option_map seen (cond b (Some e.1) (lookup (key_eq q) es))) [ true ↦ refl | false ↦ find_kept q es ]

pub get_items : (es : List (OpId × Item)) (q : OpId) → get (items_of es) q ≡ option_map seen (lookup (key_eq q) es)
get_items es q = get-from_entries id_cmp_total (map kept_entry es) q ∙ find_kept q es

below_kept : (k : OpId) (es : List (OpId × Item)) → AllByRecursion (λ y. id_cmp k y ≡ Less) (keys_of es) → AllByRecursion (λ y. id_cmp k y ≡ Less) (keys_of (map kept_entry es))
below_kept k [] h = tt
below_kept k (e ∷ es) h = (h.0, below_kept k es h.1)

kept_rise : (es : List (OpId × Item)) → IsStrictlySortedBy id_cmp (keys_of es) → IsStrictlySortedBy id_cmp (keys_of (map kept_entry es))
unfolding IsStrictlySortedBy
kept_rise [] h = tt
kept_rise (e ∷ es) h = (below_kept e.0 es h.0, kept_rise es h.1)

pub entries_items : (es : List (OpId × Item)) → IsStrictlySortedBy id_cmp (keys_of es) → entries (items_of es) ≡ map kept_entry es
entries_items es h = entries_are id_cmp_total (map kept_entry es) (kept_rise es h)

-- ---- writes

pub insert_same : (m : FinMap id_cmp Element) (k : OpId) (e : Element) → get m k ≡ Some e → insert m k e ≡ m
insert_same m k e h =
    same_map id_cmp_total id_cmp_exact _ _ (λ q.
    get-insert id_cmp_total m k e q
    ∙ elim (key_cases q k) as (λ _. cond (key_eq q k) (Some e) (get m q) ≡ get m q) [
      | inl s ↦ (let own : key_eq q k ≡ true = ap (λ x. key_eq x k) s ∙ key_itself k in rw own (sym (ap (get m) s ∙ h)))
      | inr ne ↦ rw ne refl
    ])

pub removed_again : (m : FinMap id_cmp Element) (k : OpId) (e : Element) → get m k ≡ None → remove (insert m k e) k ≡ m
removed_again m k e h =
    same_map id_cmp_total id_cmp_exact _ _ (λ q.
    get-remove id_cmp_total (insert m k e) k q ∙ ap (cond (key_eq q k) None) (get-insert id_cmp_total m k e q)
    ∙ elim (key_cases q k) as (λ _. cond (key_eq q k) None (cond (key_eq q k) (Some e) (get m q)) ≡ get m q) [
      | inl s ↦ (let own : key_eq q k ≡ true = ap (λ x. key_eq x k) s ∙ key_itself k in rw own (sym (ap (get m) s ∙ h)))
      | inr ne ↦ rw ne refl
    ])

module _ (es fs : List (OpId × Item)) (id : OpId) where
  pub items_written : (w : Item) → ((q : OpId) → lookup (key_eq q) fs ≡ cond (key_eq id q) (Some w) (lookup (key_eq q) es)) → items_of fs ≡ insert (items_of es) id (seen w)
  items_written w h =
      same_map id_cmp_total id_cmp_exact _ _ (λ q.
      get_items fs q ∙ ap (option_map seen) (h q) ∙ ap (λ b. option_map seen (cond b (Some w) (lookup (key_eq q) es))) (key_equiv.symm id q)
      ∙ elim (key_eq q id) as (λ b. option_map seen (cond b (Some w) (lookup (key_eq q) es)) ≡ cond b (Some (seen w)) (get (items_of es) q)) [ true ↦ refl | false ↦ sym (get_items es q) ]
      ∙ sym (get-insert id_cmp_total (items_of es) id (seen w) q))

  pub items_taken : ((q : OpId) → lookup (key_eq q) fs ≡ cond (key_eq id q) None (lookup (key_eq q) es)) → items_of fs ≡ remove (items_of es) id
  items_taken h =
      same_map id_cmp_total id_cmp_exact _ _ (λ q.
      get_items fs q ∙ ap (option_map seen) (h q) ∙ ap (λ b. option_map seen (cond b None (lookup (key_eq q) es))) (key_equiv.symm id q)
      ∙ elim (key_eq q id) as (λ b. option_map seen (cond b None (lookup (key_eq q) es)) ≡ cond b None (get (items_of es) q)) [ true ↦ refl | false ↦ sym (get_items es q) ]
      ∙ sym (get-remove id_cmp_total (items_of es) id q))

  module _ (old w : Item) (there : lookup (key_eq id) es ≡ Some old) (h : (q : OpId) → lookup (key_eq q) fs ≡ cond (key_eq id q) (Some w) (lookup (key_eq q) es)) where
    was : get (items_of es) id ≡ Some (seen old)
    was = get_items es id ∙ ap (option_map seen) there

    pub items_edited : (f : Element → Element) → seen w ≡ f (seen old) → items_of fs ≡ edited (items_of es) id f
    items_edited f e = items_written w h ∙ ap (insert (items_of es) id) e ∙ sym (ap (edit_if (items_of es) id f) was)

    pub items_same : seen w ≡ seen old → items_of fs ≡ items_of es
    items_same e = items_written w h ∙ ap (insert (items_of es) id) e ∙ insert_same (items_of es) id (seen old) was

pub items_missing : (es : List (OpId × Item)) (id : OpId) (f : Element → Element) → lookup (key_eq id) es ≡ None → items_of es ≡ edited (items_of es) id f
items_missing es id f none = sym (ap (edit_if (items_of es) id f) (get_items es id ∙ ap (option_map seen) none))

-- what an edit leaves
pub get-edited : (m : FinMap id_cmp Element) (k : OpId) (f : Element → Element) (q : OpId) → get (edited m k f) q ≡ cond (key_eq q k) (option_map f (get m q)) (get m q)
get-edited m k f q =
    elim (key_cases q k) as (λ _. get (edited m k f) q ≡ cond (key_eq q k) (option_map f (get m q)) (get m q)) [
      | inl e ↦
          let own : key_eq q k ≡ true = ap (λ x. key_eq x k) e ∙ key_itself k in
          rw own
          (elim (get m k) as (λ o. get m k ≡ o → get (edit_if m k f o) q ≡ option_map f (get m q)) [
            | None ↦ λ s. ap (get m) e ∙ s ∙ sym (ap (option_map f) (ap (get m) e ∙ s))
            | Some x ↦ λ s. get-insert id_cmp_total m k (f x) q ∙ rw own (sym (ap (option_map f) (ap (get m) e ∙ s)))
          ] refl)
      | inr ne ↦
          rw ne
          (elim (get m k) as (λ o. get (edit_if m k f o) q ≡ get m q) [ None ↦ refl | Some x ↦ get-insert id_cmp_total m k (f x) q ∙ rw ne refl ])
    ]
