-- The rows of many owners as one table: what a look-up finds, what a new row makes, and each owner's tree.
use Rattle.std.specs.Prelude.{◌≡◌, Bool, true, false, cond, Option, Some, None, is_some, List, [], ◌∷◌, map, refl}
use Rattle.std.proofs.Common.{sym, ◌∙◌, ap, subst, inl, inr}
use Rattle.std.proofs.lemmas.Map.Made.{lookup-map_values}
use Rattle.std.specs.Map.{lookup, keys_of}
use Rattle.std.specs.List.Sorted.{IsStrictlySortedBy}
use Rattle.std.specs.Option.{option_map}
use Rattle.std.specs.Ordering.{eq_by_cmp, is_eq, ordering_then}
use Rattle.std.specs.Cmp.{tied_itself}
use Rattle.std.specs.declared.cmp.Ordering.{Ordering}
use Rattle.std.specs.declared.cmp.Ordering.TheVariants.{Less, Equal, Greater}
use Rattle.std.specs.BTreeSet.{BTreeSet, contains}
use Rattle.std.specs.FinMap.{empty, entries, get, get-empty, insert}
use Rattle.op_ids.specs.declared.OpId.{OpId}
use Rattle.op_ids.specs.declared.Side.{Side}
use Rattle.op_ids.specs.Order.{id_cmp, id_eq, root_id}
use Rattle.op_ids.proofs.OrderLaws.{id_cmp_total, eq_by_cmp-id, same_or_apart}
use Rattle.model.specs.Operation.{Anchor}
use Rattle.model.specs.State.{RowKey, row_cmp}
use Rattle.model.specs.Walk.{Rows, rows_of}
use Rattle.model_laws.proofs.Tables.{row_total, row_exact, row_eq}
use Rattle.model_laws.proofs.KeptTables.{entries_are, get_is_lookup, table_written}
use Rattle.walk_laws.specs.Insertion.{HangsWell, anchor_of, is_row}
use Rattle.effect_laws.proofs.RowsOf.{found_of, rising_of, rows_insert, rows_other, same_rows}
use Rattle.fugue_tree.specs.declared.tree.Anchor as code
use Rattle.fugue_tree.specs.declared.children.Child.{Child}
use Rattle.fugue_tree.specs.declared.owned.OwnedChild.{OwnedChild}
use Rattle.fugue_tree.specs.Tree.{AreChildren, IsKept, at, child_cmp, child_eq, kept_anchor}
use Rattle.fugue_tree.specs.Trees.{AreKept, AreTrees, MayHang, Table, children_of, kept_list, owned_at, owned_cmp, table_of}
use Rattle.fugue_tree.proofs.GrowLaws.{kept_added, kept_back, kept_empty}
use Rattle.fugue_tree.proofs.OwnedLaws.{contains_own, of}

abbrev pub own_rows : Table → OpId → Rows
own_rows m owner = rows_of (λ at. at) m owner

-- ---- look-ups

abbrev Kept : Type 0
Kept = List (RowKey × code.Anchor)

pub get_kept : (es : Kept) (k : RowKey) → get (table_of es) k ≡ option_map kept_anchor (lookup (eq_by_cmp row_cmp k) es)
get_kept es k = get_is_lookup row_total (kept_list es) k ∙ lookup-map_values kept_anchor (eq_by_cmp row_cmp k) es

some_mapped : (o : Option code.Anchor) → is_some (option_map kept_anchor o) ≡ is_some o
some_mapped None = refl
some_mapped (Some a) = refl

pub has_kept : (es : Kept) (k : RowKey) → is_some (get (table_of es) k) ≡ is_some (lookup (eq_by_cmp row_cmp k) es)
has_kept es k = ap is_some (get_kept es k) ∙ some_mapped (lookup (eq_by_cmp row_cmp k) es)

pub kept_written : (es fs : Kept) (k : RowKey) (a : code.Anchor)
    → ((q : RowKey) → lookup (eq_by_cmp row_cmp q) fs ≡ cond (eq_by_cmp row_cmp k q) (Some a) (lookup (eq_by_cmp row_cmp q) es)) → table_of fs ≡ insert (table_of es) k (kept_anchor a)
kept_written es fs k a updates =
    table_written row_total row_exact (kept_list es) (kept_list fs) k (kept_anchor a) (λ q.
    lookup-map_values kept_anchor (eq_by_cmp row_cmp q) fs ∙ ap (option_map kept_anchor) (updates q) ∙ either (eq_by_cmp row_cmp k q) (lookup (eq_by_cmp row_cmp q) es)
    ∙ ap (cond (eq_by_cmp row_cmp k q) (Some (kept_anchor a))) (sym (lookup-map_values kept_anchor (eq_by_cmp row_cmp q) es)))
  where
    either : (b : Bool) (o : Option code.Anchor) → option_map kept_anchor (cond b (Some a) o) ≡ cond b (Some (kept_anchor a)) (option_map kept_anchor o)
    either true o = refl
    either false o = refl

keys_kept : (es : Kept) → keys_of (kept_list es) ≡ keys_of es
keys_kept [] = refl
keys_kept (e ∷ es) = ap (λ ks. e.0 ∷ ks) (keys_kept es)

pub entries_kept : (es : Kept) → IsStrictlySortedBy row_cmp (keys_of es) → entries (table_of es) ≡ kept_list es
entries_kept es h = entries_are row_total (kept_list es) (subst (IsStrictlySortedBy row_cmp) (sym (keys_kept es)) h)

-- ---- the rows of an owner

same_anchor : (o : Option Anchor) → option_map (λ at. at) o ≡ o
same_anchor None = refl
same_anchor (Some a) = refl

pub found_own : (m : Table) (owner id : OpId) → anchor_of (own_rows m owner) id ≡ get m (owner, id)
found_own m owner id = found_of (λ at. at) m owner id ∙ same_anchor (get m (owner, id))

pub is_row-own : (m : Table) (owner id : OpId) → is_row (own_rows m owner) id ≡ is_some (get m (owner, id))
is_row-own m owner id = ap is_some (found_own m owner id)

pub hangs_own : (m : Table) (owner id : OpId) (a : Anchor) → MayHang m owner id a → HangsWell (own_rows m owner) id a
hangs_own m owner id a may =
    elim may.hangs as (λ _. HangsWell (own_rows m owner) id a) [
      | inl e ↦ inl e
      | inr h ↦ inr (is_row-own m owner a.on ∙ h.0, h.1)
    ]

pub trees_are : (m : Table) (s : BTreeSet OwnedChild) → AreKept m s → AreTrees m
trees_are m s kept owner = (kept owner).tree

pub none_kept : (m : Table) (s : BTreeSet OwnedChild) → m ≡ empty → ((c : OwnedChild) → contains owned_cmp s c ≡ false) → AreKept m s
none_kept m s no_row no_child owner =
    let none : own_rows m owner ≡ [] =
    same_rows (own_rows m owner) [] (rising_of (λ at. at) m owner) refl (λ id. found_own m owner id ∙ ap (λ (x : Table). get x (owner, id)) no_row ∙ get-empty row_cmp (owner, id)) in
    subst (λ rows. IsKept rows (children_of s owner)) (sym none) (kept_empty (children_of s owner) (λ c. contains_own owner s c ∙ no_child (of owner c)))

-- ---- a new row

abbrev owned_eq : OwnedChild → OwnedChild → Bool
owned_eq = eq_by_cmp owned_cmp

other_first : (r s : Ordering) → is_eq r ≡ false → is_eq (ordering_then r s) ≡ false
other_first Less s e = refl
other_first Equal s e = cc
other_first Greater s e = refl

own_eq : (owner : OpId) (c d : Child) → owned_eq (of owner c) (of owner d) ≡ child_eq c d
own_eq owner c d = ap (λ r. is_eq (ordering_then r (child_cmp c d))) (tied_itself id_cmp_total owner)

-- A set where one child is there or not, and the others are as they were, for each owner.
module _ (s t : BTreeSet OwnedChild) (owner : OpId) (k : Child) (b : Bool) (updates : (c : OwnedChild) → contains owned_cmp t c ≡ cond (owned_eq (of owner k) c) b (contains owned_cmp s c)) where
  own_updates : (c : Child) → contains child_cmp (children_of t owner) c ≡ cond (child_eq k c) b (contains child_cmp (children_of s owner) c)
  own_updates c = contains_own owner t c ∙ updates (of owner c) ∙ (λ p. cond (own_eq owner k c p) b (sym (contains_own owner s c) p))

  other_stays : (q : OpId) → id_eq q owner ≡ false → (c : Child) → contains child_cmp (children_of t q) c ≡ contains child_cmp (children_of s q) c
  other_stays q ne c =
      let apart : owned_eq (of owner k) (of q c) ≡ false =
      other_first (id_cmp owner q) (child_cmp k c) ((Rattle.std.specs.Cmp.eq_by_cmp_equiv id_cmp_total).symm owner q ∙ eq_by_cmp-id q owner ∙ ne) in
      contains_own q t c ∙ updates (of q c) ∙ ap (λ x. cond x b (contains owned_cmp s (of q c))) apart ∙ sym (contains_own q s c)

module _ (m : Table) (s : BTreeSet OwnedChild) (kept : AreKept m s) (owner id on : OpId) (side : Side) (may : MayHang m owner id (record { on = on; side = side })) where
  abbrev hung : Anchor
  hung = record { on = on; side = side }

  fresh : is_row (own_rows m owner) id ≡ false
  fresh = is_row-own m owner id ∙ ap is_some may.fresh

  module _ (t : BTreeSet OwnedChild) (added : (c : OwnedChild) → contains owned_cmp t c ≡ cond (owned_eq (owned_at owner on side id) c) true (contains owned_cmp s c)) where
    pub one_more : AreKept (insert m (owner, id) hung) t
    one_more q =
        elim (same_or_apart q owner) as (λ _. IsKept (own_rows (insert m (owner, id) hung) q) (children_of t q)) [
          | inl e ↦
              subst (λ x. IsKept (own_rows (insert m (owner, id) hung) x) (children_of t x)) (sym e)
              (subst (λ rows. IsKept rows (children_of t owner)) (sym (rows_insert (λ at. at) m owner id hung))
              (kept_added (own_rows m owner) (children_of s owner) (kept owner) id on side fresh (children_of t owner) (own_updates s t owner (at on side id) true added) may.no_head (hangs_own m owner id hung may)))
          | inr ne ↦
              subst (λ rows. IsKept rows (children_of t q)) (sym (rows_other (λ at. at) m owner id hung q ne))
              (record { tree = (kept q).tree; same = λ c. other_stays s t owner (at on side id) true added q ne c ∙ (kept q).same c })
        ]

    pub taken_back : (u : BTreeSet OwnedChild) → ((c : OwnedChild) → contains owned_cmp u c ≡ cond (owned_eq (owned_at owner on side id) c) false (contains owned_cmp t c)) → AreKept m u
    taken_back u removed q =
        elim (same_or_apart q owner) as (λ _. IsKept (own_rows m q) (children_of u q)) [
          | inl e ↦
              subst (λ x. IsKept (own_rows m x) (children_of u x)) (sym e)
              (kept_back (own_rows m owner) (children_of s owner) (kept owner) id on side fresh (children_of t owner) (own_updates s t owner (at on side id) true added) (children_of u owner)
              (own_updates t u owner (at on side id) false removed))
          | inr ne ↦
              record {
                tree = (kept q).tree;
                same = λ c. other_stays t u owner (at on side id) false removed q ne c ∙ other_stays s t owner (at on side id) true added q ne c ∙ (kept q).same c;
              }
        ]
