-- A stored file's ledger shows each node once.
use Rattle.std.proofs.Common.{◌≡◌, ℕ, zero, suc, ◌<◌, ◌≤◌, ◌⊎◌, ◌||◌, true, false, Bool, List, [], ◌∷◌, ◌++◌, map, refl, sym, ap, subst, ◌∙◌, arith, inl, inr}
use Rattle.std.specs.Prelude.{Option, Some, None, flat_map}
use Rattle.std.specs.List.{AllByRecursion, IsDistinct}
use Rattle.std.specs.FinMap.{get, len}
use Rattle.std.specs.Option.{option_map_or}
use Rattle.std.proofs.lemmas.List.{map-append}
use Rattle.std.proofs.lemmas.Option.{same_Some}
use Rattle.op_ids.specs.declared.OpId.{OpId}
use Rattle.op_ids.specs.Order.{id_eq, root_id, trash_id}
use Rattle.op_ids.proofs.OrderLaws.{id_eq-exact, id_eq-itself, same_or_apart}
use Rattle.model.specs.Edit.{position_of}
use Rattle.model.specs.State.{Place, State, above_within, is_fixed, parent_is, replay}
use Rattle.model.specs.View.{ViewNode, child_at, children, listed, outline}
use Rattle.model.specs.Walk.{rows_of, walk}
use Rattle.model_laws.specs.Tree.{IsTree, NodesAreTree, leads_within}
use Rattle.model_laws.proofs.ListLaws.{all_append, all_both, all_more, all_of_any}
use Rattle.model_laws.proofs.NodeLaws.{replays_are_trees}
use Rattle.model_laws.proofs.TreeLaws.{Ranked, or_cases, steps_up, tree_ranks, true_or}
use Rattle.ledger_laws.proofs.FileLaws.{timed}
use Rattle.walk_laws.proofs.InsertionLaws.{walk_has_each_once}
use Rattle.effect_laws.specs.Whole.{IsWhole}
use Rattle.effect_laws.proofs.ChildLaws.{at_child}
use Rattle.effect_laws.proofs.GivenLists.{all_given, given_distinct}
use Rattle.effect_laws.proofs.WholeLaws.{contra}
use Rattle.keeping_laws.specs.Showing.{NodesShownOnce}
use Rattle.keeping_laws.proofs.ShowLaws.{stored_are_whole}

-- ---- lists without repetition

abbrev AllApart : List OpId → List OpId → Type 0
AllApart xs ys = AllByRecursion (λ x. AllByRecursion (λ y. id_eq x y ≡ false) ys) xs

distinct_append : (xs ys : List OpId) → IsDistinct id_eq xs → IsDistinct id_eq ys → AllApart xs ys → IsDistinct id_eq (xs ++ ys)
unfolding IsDistinct
distinct_append [] ys d e a = e
distinct_append (x ∷ xs) ys d e a = (all_append (λ y. id_eq x y ≡ false) xs ys d.0 a.0, distinct_append xs ys d.1 e a.1)

module _ (P : OpId → Type 0) (g : OpId → List OpId) (branch : (b c : OpId) → P b → P c → id_eq b c ≡ false → AllApart (g b) (g c)) where
  apart_flat : (b : OpId) (cs : List OpId) → P b → AllByRecursion P cs → AllByRecursion (λ c. id_eq b c ≡ false) cs → AllApart (g b) (flat_map g cs)
  apart_flat b [] p h a = all_of_any (λ x. Unit {0}) (λ x. tt) (g b)
  apart_flat b (c ∷ cs) p h a =
      all_more (λ x. AllByRecursion (λ y. id_eq x y ≡ false) (g c) × AllByRecursion (λ y. id_eq x y ≡ false) (flat_map g cs)) (λ x. AllByRecursion (λ y. id_eq x y ≡ false) (flat_map g (c ∷ cs)))
      (λ x k. all_append (λ y. id_eq x y ≡ false) (g c) (flat_map g cs) k.0 k.1) (g b)
      (all_both (λ x. AllByRecursion (λ y. id_eq x y ≡ false) (g c)) (λ x. AllByRecursion (λ y. id_eq x y ≡ false) (flat_map g cs)) (g b) (branch b c p h.0 a.0) (apart_flat b cs p h.1 a.1))

  distinct_flat : (cs : List OpId) → AllByRecursion P cs → IsDistinct id_eq cs → AllByRecursion (λ c. IsDistinct id_eq (g c)) cs → IsDistinct id_eq (flat_map g cs)
  unfolding IsDistinct
  distinct_flat [] h d e = tt
  distinct_flat (c ∷ cs) h d e = distinct_append (g c) (flat_map g cs) e.0 (distinct_flat cs h.1 d.1 e.1) (apart_flat c cs h.0 h.1 d.0)

map_flat : (f : ViewNode → OpId) (g : OpId → List ViewNode) (h : OpId → List OpId) → ((x : OpId) → map f (g x) ≡ h x) → (xs : List OpId) → map f (flat_map g xs) ≡ flat_map h xs
map_flat f g h e [] = refl
map_flat f g h e (x ∷ xs) = map-append f (g x) (flat_map g xs) ∙ ap (λ l. l ++ map f (flat_map g xs)) (e x) ∙ ap (λ l. h x ++ l) (map_flat f g h e xs)

all_flat : (P : OpId → Type 0) (g : OpId → List OpId) (xs : List OpId) → AllByRecursion (λ x. AllByRecursion P (g x)) xs → AllByRecursion P (flat_map g xs)
all_flat P g [] h = tt
all_flat P g (x ∷ xs) h = all_append P (g x) (flat_map g xs) h.0 (all_flat P g xs h.1)

-- ---- nodes under a node

-- a node itself, or one whose parents lead to it
data Under (s : State) (q : OpId) : OpId → Type 0 where
  itself : Under s q q
  under_it : {y : OpId} {p : Place} → get s.nodes y ≡ Some p → Under s q p.parent → Under s q y

abbrev IsChild : State → OpId → OpId → Type 0
IsChild s q c = (p : Place) × (get s.nodes c ≡ Some p) × (p.parent ≡ q)

under_cases : (s : State) (c y : OpId) → Under s c y → (y ≡ c) ⊎ ((p : Place) × (get s.nodes y ≡ Some p) × Under s c p.parent)
under_cases s c y itself = inl refl
under_cases s c y (under_it {p = p} e u) = inr (p, e, u)

through : (s : State) (q c y : OpId) → IsChild s q c → Under s c y → Under s q y
through s q c y k itself = under_it {p = k.0} k.1 (subst (Under s q) (sym k.2) itself)
through s q c y k (under_it {p = p} e u) = under_it {p = p} e (through s q c p.parent k u)

module _ (s : State) (r : OpId → ℕ) (ranked : Ranked (get s.nodes) r) where
  rises : (q y : OpId) → Under s q y → r q ≤ r y
  rises q y itself = omega arith
  rises q y (under_it {p = p} e u) = let a = rises q p.parent u in let b = ranked.falls y p e in omega arith

  child_rises : (q c : OpId) → IsChild s q c → r q < r c
  child_rises q c k = let b = ranked.falls c k.0 k.1 in let e = ap r k.2 in omega arith

  not_up : {Q : Type 0} (q c : OpId) → IsChild s q c → Under s c q → Q
  not_up q c k u = let a = rises c q u in let b = child_rises q c k in absurd (omega arith)

  -- what is under two children of a node is under one
  one_branch : (q b c y : OpId) → IsChild s q b → IsChild s q c → Under s b y → Under s c y → b ≡ c
  one_branch q b c y k l itself v =
      elim (under_cases s c y v) as (λ _. y ≡ c) [
        | inl e ↦ e
        | inr w ↦
            let same : w.0 ≡ k.0 = same_Some w.0 k.0 (sym w.1 ∙ k.1) in
            not_up q c l (subst (Under s c) (ap (λ (p : Place). p.parent) same ∙ k.2) w.2)
      ]
  one_branch q b c y k l (under_it {p = p} e u) v =
      elim (under_cases s c y v) as (λ _. b ≡ c) [
        | inl at ↦
            let same : p ≡ l.0 = same_Some p l.0 (sym e ∙ ap (get s.nodes) at ∙ l.1) in
            not_up q b k (subst (Under s b) (ap (λ (x : Place). x.parent) same ∙ l.2) u)
        | inr w ↦
            let same : w.0 ≡ p = same_Some w.0 p (sym w.1 ∙ e) in
            one_branch q b c p.parent k l u (subst (λ (x : Place). Under s c x.parent) same w.2)
      ]

  -- ---- what is shown

  abbrev ids_of : ℕ → OpId → List OpId
  ids_of zero q = q ∷ []
  ids_of (suc n) q = q ∷ flat_map (ids_of n) (children s q)

  listed_ids : (n depth : ℕ) (q : OpId) → map (λ (v : ViewNode). v.id) (listed n (outline s) depth q) ≡ ids_of n q
  listed_ids zero depth q = refl
  listed_ids (suc n) depth q = ap (λ l. q ∷ l) (map_flat (λ (v : ViewNode). v.id) (listed n (outline s) (suc depth)) (ids_of n) (λ x. listed_ids n (suc depth) x) (children s q))

  children_are : (q : OpId) → AllByRecursion (IsChild s q) (children s q)
  children_are q = all_given (IsChild s q) (child_at s q) (walk (rows_of (λ at. at) s.positions q)) (λ p c h. let a = at_child s q p c h in (a.x, a.is, a.below))

  each_under : (n : ℕ) (q : OpId) → AllByRecursion (Under s q) (ids_of n q)
  each_under zero q = (itself, tt)
  each_under (suc n) q = (
    itself,
    all_flat (Under s q) (ids_of n) (children s q)
        (all_more (IsChild s q) (λ c. AllByRecursion (Under s q) (ids_of n c)) (λ c k. all_more (Under s c) (Under s q) (λ y u. through s q c y k u) (ids_of n c) (each_under n c)) (children s q) (children_are q)),
  )

  module _ (whole : IsWhole s) where
    children_distinct : (q : OpId) → IsDistinct id_eq (children s q)
    children_distinct q =
        given_distinct (child_at s q) (position_of s) (walk (rows_of (λ at. at) s.positions q))
        (λ p y h. let a = at_child s q p y h in ap (λ o. option_map_or (λ (x : Place). x.position) o root_id) a.is ∙ a.at)
        (walk_has_each_once (rows_of (λ at. at) s.positions q) (whole.nodes.trees q)).distinct

    branches : (n : ℕ) (q b c : OpId) → IsChild s q b → IsChild s q c → id_eq b c ≡ false → AllApart (ids_of n b) (ids_of n c)
    branches n q b c k l ne =
        all_more (Under s b) (λ x. AllByRecursion (λ y. id_eq x y ≡ false) (ids_of n c))
        (λ x u. all_more (Under s c) (λ y. id_eq x y ≡ false)
        (λ y v. elim (same_or_apart x y) as (λ _. id_eq x y ≡ false) [
          | inl e ↦ contra (id_eq b c) (ap (λ z. id_eq z c) (one_branch q b c y k l (subst (Under s b) e u) v) ∙ id_eq-itself c) ne
          | inr off ↦ off
        ])
        (ids_of n c) (each_under n c))
        (ids_of n b) (each_under n b)

    ids_distinct : (n : ℕ) (q : OpId) → IsDistinct id_eq (ids_of n q)
    unfolding IsDistinct
    ids_distinct zero q = (tt, tt)
    ids_distinct (suc n) q = (
      all_flat (λ y. id_eq q y ≡ false) (ids_of n) (children s q)
          (all_more (IsChild s q) (λ c. AllByRecursion (λ y. id_eq q y ≡ false) (ids_of n c))
          (λ c k. all_more (Under s c) (λ y. id_eq q y ≡ false)
          (λ y u. elim (same_or_apart q y) as (λ _. id_eq q y ≡ false) [ inl e ↦ not_up q c k (subst (Under s c) (sym e) u) | inr off ↦ off ])
          (ids_of n c) (each_under n c))
          (children s q) (children_are q)),
      distinct_flat (IsChild s q) (ids_of n) (branches n q) (children s q) (children_are q) (children_distinct q) (all_of_any (λ c. IsDistinct id_eq (ids_of n c)) (λ c. ids_distinct n c) (children s q)),
    )

-- ---- the nodes of a ledger

or_either : (a b : Bool) → (a ≡ true) ⊎ (b ≡ true) → (a || b) ≡ true
or_either true b h = refl
or_either false b (inl e) = absurd cc
or_either false b (inr e) = e

-- a node that a fixed one is above leads up
leads_from : (n : ℕ) (f : OpId → Option Place) (top b : OpId) → is_fixed top ≡ true → above_within n f top b ≡ true → leads_within n f b ≡ true
leads_from zero f top b t h = ap is_fixed (sym (id_eq-exact top b h)) ∙ t
leads_from (suc n) f top b t h =
    or_either (is_fixed b) (parent_is (leads_within n f) (f b))
    (elim (or_cases (id_eq top b) (parent_is (above_within n f top) (f b)) h) as (λ _. (is_fixed b ≡ true) ⊎ (parent_is (leads_within n f) (f b) ≡ true)) [
      | inl e ↦ inl (ap is_fixed (sym (id_eq-exact top b e)) ∙ t)
      | inr k ↦ inr (elim (f b) as (λ o. parent_is (above_within n f top) o ≡ true → parent_is (leads_within n f) o ≡ true) [ None ↦ λ e. e | Some p ↦ λ e. leads_from n f top p.parent t e ] k)
    ])

tree_from : (s : State) → NodesAreTree s → IsTree s.nodes
tree_from s t = record {
  tops = t.tops;
  leads = λ b there.
      elim (t.lead_up b (ap (λ x. is_fixed b || x) there ∙ true_or (is_fixed b))) as (λ _. leads_within (len s.nodes) (get s.nodes) b ≡ true) [
        | inl e ↦ leads_from (len s.nodes) (get s.nodes) root_id b refl e
        | inr e ↦ leads_from (len s.nodes) (get s.nodes) trash_id b refl e
      ];
}

pub nodes_shown_once : NodesShownOnce
nodes_shown_once bytes f h stored stands =
    let s = replay h in
    let tree = tree_from s (replays_are_trees h stands.sound.in_order (timed f.members h stands.sound)) in
    let rank = steps_up (len s.nodes) (get s.nodes) in
    let ranked = tree_ranks s.nodes tree in
    subst (IsDistinct id_eq) (sym (listed_ids s rank ranked (len s.nodes) 0 root_id)) (ids_distinct s rank ranked (stored_are_whole bytes f h stored stands) (len s.nodes) root_id)
