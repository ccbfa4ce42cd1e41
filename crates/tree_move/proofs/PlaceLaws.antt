-- The laws of places that are kept in slots.
use Rattle.std.specs.Prelude.{◌≡◌, ℕ, zero, suc, ◌<◌, ◌≤◌, Bool, true, false, cond, ◌||◌, Option, Some, None, is_some, List, [], ◌∷◌, map, refl}
use Rattle.std.proofs.Common.{sym, ◌∙◌, ap, inl, inr, arith, ⊎_elim, not}
use Rattle.std.specs.Map.{lookup}
use Rattle.std.specs.List.{list_any}
use Rattle.std.specs.Ordering.{eq_by_cmp}
use Rattle.std.specs.Cmp.{eq_by_cmp_equiv}
use Rattle.std.specs.FinMap.{get, insert, len, get-empty, get-remove, same_map}
use Rattle.std.specs.FinSet as set
use Rattle.std.specs.FinSet.{FinSet, contains, contains-from_list, contains-insert, same_set}
use Rattle.op_ids.specs.declared.OpId.{OpId}
use Rattle.op_ids.specs.Order.{id_cmp, id_eq}
use Rattle.op_ids.proofs.OrderLaws.{eq_by_cmp-id, id_cmp_total, id_cmp_exact, id_eq-exact, id_eq-itself, same_or_apart, id_equiv}
use Rattle.model.specs.State.{Place, is_fixed, is_above, above_within, parent_is, moved}
use Rattle.model_laws.specs.Tree.{Places, IsTree}
use Rattle.model_laws.proofs.TreeLaws.{bool_cases, true_or, Ranked, above_itself, above_top, above_step, above_known, or_cases, tree_leads, tree_node, tree_ranks, steps_up, get-inserted}
use Rattle.tree_move.specs.declared.places.Place as code
use Rattle.tree_move.specs.Parents.{with_place, places_of, nodes_of, Nodes, IsTreeOfAdmitted, Slot, place_if, kept_place, is_node}
use Rattle.tree_move.specs.Moves.{UndoGivesBack, HasNoCycle}

-- the keys that a map takes for one
abbrev pub tied : OpId → OpId → Bool
tied = eq_by_cmp id_cmp

-- what a look-up among the rows finds, as a place
abbrev pub joined : Option (Option code.Place) → Option Place
joined None = None
joined (Some o) = place_if o

pub get-with_place : (m : Places) (c : OpId) (o : Option Place) (q : OpId) → get (with_place m c o) q ≡ cond (id_eq q c) o (get m q)
get-with_place m c None q = get-remove id_cmp_total m c q ∙ ap (λ b. cond b None (get m q)) (eq_by_cmp-id q c)
get-with_place m c (Some p) q = get-inserted m c p q

pub get-places_of : (es : List Slot) (q : OpId) → get (places_of es) q ≡ joined (lookup (tied q) es)
get-places_of [] q = get-empty id_cmp q
get-places_of (e ∷ es) q =
    get-with_place (places_of es) e.0 (place_if e.1) q
    ∙ ap (λ t. cond t (place_if e.1) (get (places_of es) q)) (sym (eq_by_cmp-id q e.0))
    ∙ elim (tied q e.0) as (λ t. cond t (place_if e.1) (get (places_of es) q) ≡ joined (cond t (Some e.1) (lookup (tied q) es))) [ true ↦ refl | false ↦ get-places_of es q ]

any_key : (es : List Slot) (q : OpId) → list_any (tied q) (map (λ e. e.0) es) ≡ is_some (lookup (tied q) es)
any_key [] q = refl
any_key (e ∷ es) q =
    elim (tied q e.0) as (λ t. (t || list_any (tied q) (map (λ e. e.0) es)) ≡ is_some (cond t (Some e.1) (lookup (tied q) es))) [ true ↦ refl | false ↦ any_key es q ]

pub contains-nodes_of : (es : List Slot) (q : OpId) → contains (nodes_of es).admitted q ≡ is_some (lookup (tied q) es)
contains-nodes_of es q = contains-from_list id_cmp_total (map (λ e. e.0) es) q ∙ any_key es q

pub none_there : {A : Type 0} (o : Option A) → o ≡ None → is_some o ≡ true → ⊥
none_there o e h = let k : false ≡ true = ap is_some (sym e) ∙ h in cc

pub none_are_tree : IsTreeOfAdmitted (nodes_of [])
none_are_tree = record {
  tree = record { tops = λ b _. get-empty id_cmp b; leads = λ b h. absurd (none_there _ (get-empty id_cmp b) h) };
  below = λ q h. let k = contains-nodes_of [] q ∙ refl in let e : true ≡ false = sym h ∙ k in cc;
  placed = λ q h. absurd (none_there _ (get-empty id_cmp q) h);
}

-- ---- a walk up

module _ (m : Places) (t : IsTree m) (a b : OpId) (apart : id_eq a b ≡ false) where
  pub climb_more : (p : Place) → get m b ≡ Some p → is_above m a p.parent ≡ is_above m a b
  climb_more p e =
      sym (above_step (get m) t.tops (len m) a b p e (t.leads b (ap is_some e)) (tree_leads m t p.parent (tree_node m t b p e)) ∙ rw apart refl)

  pub climb_end : get m b ≡ None → is_above m a b ≡ false
  climb_end e = above_top (get m) t.tops (len m) a b e ∙ apart

pub climb_falls : (m : Places) → IsTree m → (b : OpId) (p : Place) → get m b ≡ Some p → steps_up (len m) (get m) p.parent < steps_up (len m) (get m) b
climb_falls m t b p e = (tree_ranks m t).falls b p e

pub climb_here : (m : Places) (a b : OpId) → a ≡ b → is_above m a b ≡ true
climb_here m a b e = ap (is_above m a) (sym e) ∙ above_itself (len m) (get m) a

-- a node without a place is above no node
pub not_above : (m : Places) → IsTree m → (a b : OpId) → is_fixed a ≡ false → get m a ≡ None → is_node m b ≡ true → is_above m a b ≡ false
not_above m t a b below none node =
    elim (bool_cases (is_above m a b)) as (λ _. is_above m a b ≡ false) [
      | inl e ↦
          (let there = above_known m t (len m) a b node e in let placed : is_some (get m a) ≡ true = rw below at there in absurd (none_there _ none placed))
      | inr e ↦ e
    ]

-- what is above has no greater rank
above_rank : (f : OpId → Option Place) (r : OpId → ℕ) → Ranked f r → (n : ℕ) (a b : OpId) → above_within n f a b ≡ true → r a ≤ r b
above_rank f r h zero a b e = let s = ap r (id_eq-exact a b e) in omega (arith, s)
above_rank f r h (suc n) a b e =
    ⊎_elim
    (λ s. let k = ap r (id_eq-exact a b s) in omega (arith, k))
    (λ s. elim (f b) as (λ o. f b ≡ o → parent_is (above_within n f a) o ≡ true → r a ≤ r b) [
      | None ↦ λ w u. cc
      | Some p ↦ λ w u. let k = h.falls b p w in let l = above_rank f r h n a p.parent u in omega (arith, k, l)
    ] refl s)
    (or_cases (id_eq a b) (parent_is (above_within n f a) (f b)) e)

pub tree_has_no_cycle : HasNoCycle
tree_has_no_cycle m t child place e =
    elim (bool_cases (is_above m child place.parent)) as (λ _. is_above m child place.parent ≡ false) [
      | inl up ↦
          (let k = (tree_ranks m t).falls child place e in let l = above_rank (get m) _ (tree_ranks m t) (len m) child place.parent up in absurd (omega (arith, k, l)))
      | inr none ↦ none
    ]

-- ---- a row written

none_tied : (q c : OpId) → tied c q ≡ tied q c
none_tied q c = (eq_by_cmp_equiv id_cmp_total).symm c q

module _ (es fs : List Slot) (c : OpId) (w : Option code.Place) (written : (q : OpId) → lookup (tied q) fs ≡ cond (tied c q) (Some w) (lookup (tied q) es)) where
  pub places_written : places_of fs ≡ with_place (places_of es) c (place_if w)
  places_written =
      same_map id_cmp_total id_cmp_exact _ _ (λ q.
      get-places_of fs q ∙ ap joined (written q) ∙ ap (λ t. joined (cond t (Some w) (lookup (tied q) es))) (none_tied q c)
      ∙ elim (tied q c) as (λ t. joined (cond t (Some w) (lookup (tied q) es)) ≡ cond t (place_if w) (joined (lookup (tied q) es))) [ true ↦ refl | false ↦ refl ]
      ∙ ap (cond (tied q c) (place_if w)) (sym (get-places_of es q))
      ∙ ap (λ t. cond t (place_if w) (get (places_of es) q)) (eq_by_cmp-id q c)
      ∙ sym (get-with_place (places_of es) c (place_if w) q))

  pub admitted_written : (nodes_of fs).admitted ≡ set.insert (nodes_of es).admitted c
  admitted_written =
      same_set id_cmp_total id_cmp_exact _ _ (λ q.
      contains-nodes_of fs q ∙ ap is_some (written q) ∙ ap (λ t. is_some (cond t (Some w) (lookup (tied q) es))) (none_tied q c)
      ∙ elim (tied q c) as (λ t. is_some (cond t (Some w) (lookup (tied q) es)) ≡ (t || is_some (lookup (tied q) es))) [ true ↦ refl | false ↦ refl ]
      ∙ ap (λ x. tied q c || x) (sym (contains-nodes_of es q)) ∙ sym (contains-insert id_cmp_total (nodes_of es).admitted c q))

  pub nodes_written : nodes_of fs ≡ record { places = with_place (places_of es) c (place_if w); admitted = set.insert (nodes_of es).admitted c }
  nodes_written = λ i. record { places = places_written i; admitted = admitted_written i }

pub contains-inserted : (s : FinSet id_cmp) (c q : OpId) → contains (set.insert s c) q ≡ (id_eq q c || contains s q)
contains-inserted s c q = contains-insert id_cmp_total s c q ∙ ap (λ b. b || contains s q) (eq_by_cmp-id q c)

pub insert_member : (s : FinSet id_cmp) (c : OpId) → contains s c ≡ true → set.insert s c ≡ s
insert_member s c h =
    same_set id_cmp_total id_cmp_exact _ _ (λ q.
    contains-inserted s c q
    ∙ ⊎_elim
    (λ e. let k : contains s q ≡ true = ap (contains s) e ∙ h in rw k (true_or (id_eq q c)))
    (λ ne. rw ne refl)
    (same_or_apart q c))

pub put_keeps_tree : (k : Nodes) (c : OpId) (w : Option Place) → IsTreeOfAdmitted k → contains k.admitted c ≡ true → IsTree (with_place k.places c w) → IsTreeOfAdmitted (record { places = with_place k.places c w; admitted = k.admitted })
put_keeps_tree k c w h a t = record {
  tree = t;
  below = h.below;
  placed = λ q e.
      ⊎_elim
      (λ s. ap (contains k.admitted) s ∙ a)
      (λ ne. let e' : is_some (cond (id_eq q c) w (get k.places q)) ≡ true = ap is_some (sym (get-with_place k.places c w q)) ∙ e in
      h.placed q (rw ne at e'))
      (same_or_apart q c);
}

pub admit_keeps_tree : (k : Nodes) (c : OpId) → IsTreeOfAdmitted k → is_fixed c ≡ false → IsTreeOfAdmitted (record { places = k.places; admitted = set.insert k.admitted c })
admit_keeps_tree k c h b = record {
  tree = h.tree;
  below = λ q e.
      ⊎_elim
      (λ s. ap is_fixed s ∙ b)
      (λ ne. let e' : (id_eq q c || contains k.admitted q) ≡ true = sym (contains-inserted k.admitted c q) ∙ e in h.below q (rw ne at e'))
      (same_or_apart q c);
  placed = λ q e. contains-inserted k.admitted c q ∙ rw (h.placed q e) (true_or (id_eq q c));
}

-- giving a node the place that it has changes nothing
pub with_place_same : (m : Places) (c : OpId) (w : Option Place) → get m c ≡ w → with_place m c w ≡ m
with_place_same m c w e =
    same_map id_cmp_total id_cmp_exact _ _ (λ q.
    get-with_place m c w q
    ∙ ⊎_elim
    (λ s. let k : get m q ≡ w = ap (get m) s ∙ e in let h : id_eq q c ≡ true = ap (λ x. id_eq x c) s ∙ id_eq-itself c in rw h (sym k))
    (λ ne. rw ne refl)
    (same_or_apart q c))

-- a move changes the place of its child alone
moved_apart : (m : Places) (c : OpId) (to : Place) (q : OpId) → id_eq q c ≡ false → get (moved m c to) q ≡ get m q
moved_apart m c to q ne =
    elim (is_above m c to.parent) as (λ v. get (cond v m (insert m c to)) q ≡ get m q) [ true ↦ refl | false ↦ get-inserted m c to q ∙ rw ne refl ]

pub undo_gives_back : UndoGivesBack
undo_gives_back m c to =
    same_map id_cmp_total id_cmp_exact _ _ (λ q.
    get-with_place (moved m c to) c (get m c) q
    ∙ ⊎_elim
    (λ s. let h : id_eq q c ≡ true = ap (λ x. id_eq x c) s ∙ id_eq-itself c in rw h (ap (get m) (sym s)))
    (λ ne. rw ne (moved_apart m c to q ne))
    (same_or_apart q c))

-- ---- what `!=` on ids answers

pub ne-apart : (a b : OpId) → not (id_eq a b) ≡ true → id_eq b a ≡ false
ne-apart a b e = id_equiv.symm b a ∙ elim (id_eq a b) as (λ t. not t ≡ true → t ≡ false) [ true ↦ λ k. sym k | false ↦ λ k. refl ] e

pub ne-same : (a b : OpId) → not (id_eq a b) ≡ false → a ≡ b
ne-same a b e = id_eq-exact a b (elim (id_eq a b) as (λ t. not t ≡ false → t ≡ true) [ true ↦ λ k. refl | false ↦ λ k. sym k ] e)

-- ---- places of the code and of the model

pub place_if-kept : (o : Option Place) → place_if (kept_place o) ≡ o
place_if-kept None = refl
place_if-kept (Some p) = refl

pub kept-place_if : (o : Option code.Place) → kept_place (place_if o) ≡ o
kept-place_if None = refl
kept-place_if (Some p) = refl

pub some-place_if : (o : Option code.Place) → is_some (place_if o) ≡ is_some o
some-place_if None = refl
some-place_if (Some p) = refl

pub none_from_is_some : {A : Type 0} (o : Option A) → is_some o ≡ false → o ≡ None
none_from_is_some None e = refl
none_from_is_some (Some x) e = let c : true ≡ false = e in cc

pub insert_has : (s : FinSet id_cmp) (c : OpId) → contains (set.insert s c) c ≡ true
insert_has s c = contains-inserted s c c ∙ rw (id_eq-itself c) refl
