-- The laws of moves put in their places.
use Rattle.std.specs.Prelude.{◌≡◌, ℕ, zero, suc, Bool, true, false, cond, ◌||◌, None, Some, is_some, List, [], ◌∷◌, ◌++◌, ◌+◌, ◌≤◌, length, count_by, refl}
use Rattle.std.proofs.Common.{sym, ◌∙◌, ap, subst, inl, inr, arith, ⊎_elim}
use Rattle.std.specs.Prelude.{drop, take, ◌<◌, ◌-◌, nat_lt, nat_le, filter}
use Rattle.std.proofs.lemmas.Bool.Decides.{nat_tests}
use Rattle.std.proofs.lemmas.Bool.{cases_lt}
use Rattle.std.proofs.Common.{get_or}
use Rattle.std.proofs.lemmas.List.{map-append, drop_more, drop_all, get_or_default, append_assoc, take-append-drop, length-map, take_more}
use Rattle.std.proofs.lemmas.List.Sums.{sum_by-append}
use Rattle.std.specs.Bool.{OnTrue, OnFalse}
use Rattle.std.specs.FinSet.{FinSet, contains, insert as set_insert}
use Rattle.std.specs.List.{AllByRecursion, list_any}
use Rattle.std.specs.Ordering.{is_lt, is_eq, ordering_reverse}
use Rattle.std.specs.FinMap.{get, insert, len, same_map}
use Rattle.std.specs.declared.cmp.Ordering.{Ordering}
use Rattle.std.specs.declared.cmp.Ordering.TheVariants.{Less, Equal, Greater}
use Rattle.op_ids.specs.declared.OpId.{OpId}
use Rattle.op_ids.specs.Order.{id_cmp, id_eq, id_lt}
use Rattle.op_ids.proofs.OrderLaws.{id_cmp_total, id_cmp_exact, id_eq-exact, id_eq-itself, same_or_apart, id_equiv, eq_by_cmp-id, lt_trans, lt_itself}
use Rattle.model.specs.State.{Place, is_fixed, is_above, moved}
use Rattle.model_laws.specs.Tree.{Places, IsTree}
use Rattle.model_laws.proofs.TreeLaws.{bool_cases, true_or, or_cases, move_keeps_tree, get-inserted, above_known}
use Rattle.outside.specs.Work.{Work}
use Rattle.outside.specs.Faults.{raised}
use Rattle.tree_move.specs.Parents.{with_place, place_if, kept_place}
use Rattle.tree_move.proofs.PlaceLaws.{get-with_place, with_place_same, contains-inserted, place_if-kept}
use Rattle.tree_log.specs.declared.moves.TreeMove.{TreeMove}
use Rattle.tree_log.specs.declared.moves.Held.{Held}
use Rattle.tree_log.specs.Log.{IsMoveIn, AreMovesIn, steps, Recorded, undone, IsLog}
use Rattle.tree_log.specs.Merge.{put_in, merged, Redo}
use Rattle.tree_log.specs.Moves.{place_by, after_move, after_moves, Rises, with_child, has_place, RefersBack, AllReferBack, IsFresh, later_count, Worked}

-- the nodes after the moves
abbrev pub nodes_after : (OpId → Bool) → List TreeMove → OpId → Bool
nodes_after known ts q = known q || list_any (λ t. id_eq q t.child) ts

-- ---- the order of ids

turned : (r : Ordering) → is_lt r ≡ false → is_eq r ≡ false → is_lt (ordering_reverse r) ≡ true
turned Less e f = cc
turned Equal e f = cc
turned Greater e f = refl

pub lt_other : (a b : OpId) → id_lt a b ≡ false → id_eq a b ≡ false → id_lt b a ≡ true
lt_other a b e f = ap is_lt (id_cmp_total.antisymm b a) ∙ turned (id_cmp a b) e (eq_by_cmp-id a b ∙ f)

pub or_assoc : (a b c : Bool) → ((a || b) || c) ≡ (a || (b || c))
or_assoc true b c = refl
or_assoc false b c = refl

or_swap : (a b c : Bool) → (a || (b || c)) ≡ (b || (a || c))
or_swap true true c = refl
or_swap true false c = refl
or_swap false true c = refl
or_swap false false c = refl

pub true_false : {A : Type 0} (b : Bool) → b ≡ true → b ≡ false → A
true_false b e f = let k : true ≡ false = sym e ∙ f in cc

all_below : (i : OpId) (t : TreeMove) (ts : List TreeMove) → id_lt i t.id ≡ true → AllByRecursion (λ u. id_lt t.id u.id ≡ true) ts → AllByRecursion (λ u. id_lt i u.id ≡ true) ts
all_below i t [] l h = tt
all_below i t (u ∷ ts) l h = (lt_trans i t.id u.id l h.0, all_below i t ts l h.1)

pub or_false : (b : Bool) → (b || false) ≡ b
or_false true = refl
or_false false = refl

pub lt_apart_ids : (a b : OpId) → id_lt a b ≡ true → id_eq a b ≡ false
lt_apart_ids a b l =
    ⊎_elim (λ s. true_false (id_lt a b) l (ap (id_lt a) (sym s) ∙ lt_itself a)) (λ e. e) (same_or_apart a b)

-- ---- moves that fit

child_wider : (known wider : OpId → Bool) (c : OpId) → ((q : OpId) → known q ≡ true → wider q ≡ true) → (q : OpId) → with_child known c q ≡ true → with_child wider c q ≡ true
child_wider known wider c h q e = ⊎_elim (λ l. rw (h q l) refl) (λ r. rw r (true_or (wider q))) (or_cases (known q) (id_eq q c) e)

pub fits_more : (known wider : OpId → Bool) → ((q : OpId) → known q ≡ true → wider q ≡ true) → (ts : List TreeMove) → AreMovesIn known ts → AreMovesIn wider ts
fits_more known wider h [] k = tt
fits_more known wider h (t ∷ ts) k = (
  record {
    parent = ⊎_elim (λ e. rw e refl) (λ e. let p : known t.parent ≡ true = rw e at k.0.parent in rw (h t.parent p) (true_or (is_fixed t.parent))) (bool_cases (is_fixed t.parent));
    child = ⊎_elim inl (λ e. inr (h t.child e)) k.0.child;
    below = k.0.below;
  },
  fits_more (with_child known t.child) (with_child wider t.child) (child_wider known wider t.child h) ts k.1,
)

pub joins_more : (known wider : OpId → Bool) → ((q : OpId) → known q ≡ true → wider q ≡ true) → (ts : List TreeMove) → AllReferBack known ts → AllReferBack wider ts
joins_more known wider h [] k = tt
joins_more known wider h (t ∷ ts) k = (
  record {
    parent = ⊎_elim inl (λ e. inr (h t.parent e.0, e.1)) k.0.parent;
    child = ⊎_elim inl (λ e. inr (h t.child e.0, e.1)) k.0.child;
    below = k.0.below;
  },
  joins_more (with_child known t.child) (with_child wider t.child) (child_wider known wider t.child h) ts k.1,
)

pub all_put : (P : TreeMove → Type 0) (x : TreeMove) (ts : List TreeMove) → P x → AllByRecursion P ts → AllByRecursion P (put_in x ts)
all_put P x [] p k = (p, tt)
all_put P x (t ∷ ts) p k =
    elim (id_lt t.id x.id) as (λ b. AllByRecursion P (cond b (t ∷ put_in x ts) (x ∷ t ∷ ts))) [ true ↦ (k.0, all_put P x ts p k.1) | false ↦ (p, k) ]

pub any_put : (q : OpId) (x : TreeMove) (ts : List TreeMove) → list_any (λ t. id_eq q t.child) (put_in x ts) ≡ (id_eq q x.child || list_any (λ t. id_eq q t.child) ts)
any_put q x [] = refl
any_put q x (t ∷ ts) =
    elim (id_lt t.id x.id) as (λ b. list_any (λ u. id_eq q u.child) (cond b (t ∷ put_in x ts) (x ∷ t ∷ ts)) ≡ (id_eq q x.child || (id_eq q t.child || list_any (λ u. id_eq q u.child) ts))) [
      | true ↦ ap (λ b. id_eq q t.child || b) (any_put q x ts) ∙ or_swap (id_eq q t.child) (id_eq q x.child) (list_any (λ u. id_eq q u.child) ts)
      | false ↦ refl
    ]

pub all_after : (i : OpId) (t : TreeMove) (ts : List TreeMove) → id_lt t.id i ≡ false → AllByRecursion (λ u. id_lt t.id u.id ≡ true) ts → AllByRecursion (λ u. id_lt u.id i ≡ false) ts
all_after i t [] e h = tt
all_after i t (u ∷ ts) e h =
    (⊎_elim (λ k. true_false (id_lt t.id i) (lt_trans t.id u.id i h.0 k) e) (λ k. k) (bool_cases (id_lt u.id i)), all_after i t ts e h.1)

-- moves of no lesser ids make no node of a lesser id known
pub known_early : (known : OpId → Bool) (ts : List TreeMove) (i q : OpId) → AreMovesIn known ts → AllByRecursion (λ u. id_lt u.id i ≡ false) ts → id_lt q i ≡ true → nodes_after known ts q ≡ true → known q ≡ true
known_early known [] i q f a l k = ⊎_elim (λ e. e) (λ e. cc) (or_cases (known q) false k)
known_early known (t ∷ ts) i q f a l k =
    let k' : nodes_after (with_child known t.child) ts q ≡ true = or_assoc (known q) (id_eq q t.child) _ ∙ k in
    ⊎_elim
    (λ e. e)
    (λ e. let s = id_eq-exact q t.child e in
    ⊎_elim
    (λ own. true_false (id_lt t.id i) (ap (λ x. id_lt x i) (sym own ∙ sym s) ∙ l) a.0)
    (λ old. ap known s ∙ old)
    f.0.child)
    (or_cases (known q) (id_eq q t.child) (known_early (with_child known t.child) ts i q f.1 a.1 l k'))

joins_fits : (known : OpId → Bool) (ts : List TreeMove) (x : TreeMove) → AreMovesIn known ts → AllByRecursion (λ u. id_lt u.id x.id ≡ false) ts → RefersBack (nodes_after known ts) x → IsMoveIn known x
joins_fits known ts x f a j = record {
  parent = ⊎_elim (λ e. rw e refl) (λ e. rw (known_early known ts x.id x.parent f a e.1 e.0) (true_or (is_fixed x.parent))) j.parent;
  child = ⊎_elim inl (λ e. inr (known_early known ts x.id x.child f a e.1 e.0)) j.child;
  below = j.below;
}

pub fits_put : (known : OpId → Bool) (ts : List TreeMove) (x : TreeMove) → AreMovesIn known ts → Rises ts → RefersBack (nodes_after known ts) x → AreMovesIn known (put_in x ts)
fits_put known [] x f r j = (joins_fits known [] x tt tt j, tt)
fits_put known (t ∷ ts) x f r j =
    elim (id_lt t.id x.id) as (λ b. id_lt t.id x.id ≡ b → AreMovesIn known (cond b (t ∷ put_in x ts) (x ∷ t ∷ ts))) [
      | true ↦ λ e.
          let shift : (q : OpId) → nodes_after known (t ∷ ts) q ≡ true → nodes_after (with_child known t.child) ts q ≡ true = λ q h. or_assoc (known q) (id_eq q t.child) _ ∙ h in
          let j' = joins_more (nodes_after known (t ∷ ts)) (nodes_after (with_child known t.child) ts) shift (x ∷ []) (j, tt) in
          (f.0, fits_put (with_child known t.child) ts x f.1 r.1 j'.0)
      | false ↦ λ e. (joins_fits known (t ∷ ts) x f (e, all_after x.id t ts e r.0) j, fits_more known (with_child known x.child) (λ q h. rw h refl) (t ∷ ts) f)
    ] refl

pub rises_put : (ts : List TreeMove) (x : TreeMove) → Rises ts → IsFresh ts x.id → Rises (put_in x ts)
rises_put [] x r f = (tt, tt)
rises_put (t ∷ ts) x r f =
    elim (id_lt t.id x.id) as (λ b. id_lt t.id x.id ≡ b → Rises (cond b (t ∷ put_in x ts) (x ∷ t ∷ ts))) [
      | true ↦ λ e. (all_put (λ u. id_lt t.id u.id ≡ true) x ts e r.0, rises_put ts x r.1 f.1)
      | false ↦ λ e. let l = lt_other t.id x.id e f.0 in ((l, all_below x.id t ts l r.0), r)
    ] refl

-- the moves of xs are of rising ids
pub fresh_put : (ts xs : List TreeMove) (x : TreeMove) → AllByRecursion (λ y. id_lt x.id y.id ≡ true) xs → AllByRecursion (λ y. IsFresh ts y.id) xs → AllByRecursion (λ y. IsFresh (put_in x ts) y.id) xs
fresh_put ts [] x l f = tt
fresh_put ts (y ∷ ys) x l f =
    (all_put (λ t. id_eq t.id y.id ≡ false) x ts (lt_apart_ids x.id y.id l.0) f.0, fresh_put ts ys x l.1 f.1)

pub wider_put : (known : OpId → Bool) (ts : List TreeMove) (x : TreeMove) (q : OpId) → with_child (nodes_after known ts) x.child q ≡ true → nodes_after known (put_in x ts) q ≡ true
wider_put known ts x q e =
    rw (any_put q x ts)
    (⊎_elim
    (λ l. ⊎_elim (λ a. rw a refl) (λ b. rw b (ap (λ t. known q || t) (true_or (id_eq q x.child)) ∙ true_or (known q))) (or_cases (known q) _ l))
    (λ r. rw r (true_or (known q)))
    (or_cases (nodes_after known ts q) (id_eq q x.child) e))

pub fits_merged : (known : OpId → Bool) (ts xs : List TreeMove) → AreMovesIn known ts → Rises ts → Rises xs → AllByRecursion (λ y. IsFresh ts y.id) xs → AllReferBack (nodes_after known ts) xs → AreMovesIn known (merged ts xs)
fits_merged known ts [] f r s g j = f
fits_merged known ts (x ∷ xs) f r s g j =
    fits_merged known (put_in x ts) xs (fits_put known ts x f r j.0) (rises_put ts x r g.0) s.1 (fresh_put ts xs x s.0 g.1)
    (joins_more (with_child (nodes_after known ts) x.child) (nodes_after known (put_in x ts)) (wider_put known ts x) xs j.1)

pub rises_merged : (ts xs : List TreeMove) → Rises ts → Rises xs → AllByRecursion (λ y. IsFresh ts y.id) xs → Rises (merged ts xs)
rises_merged ts [] r s g = r
rises_merged ts (x ∷ xs) r s g = rises_merged (put_in x ts) xs (rises_put ts x r g.0) s.1 (fresh_put ts xs x s.0 g.1)

pub all_merged : (P : TreeMove → Type 0) (ts xs : List TreeMove) → AllByRecursion P ts → AllByRecursion P xs → AllByRecursion P (merged ts xs)
all_merged P ts [] p q = p
all_merged P ts (x ∷ xs) p q = all_merged P (put_in x ts) xs (all_put P x ts q.0 p) q.1

-- ---- a merge, one move at a time

pub merged_first : (t : TreeMove) (ts xs : List TreeMove) → AllByRecursion (λ x. id_lt t.id x.id ≡ true) xs → merged (t ∷ ts) xs ≡ t ∷ merged ts xs
merged_first t ts [] h = refl
merged_first t ts (x ∷ xs) h = rw h.0 (merged_first t (put_in x ts) xs h.1)

put_first : (x : TreeMove) (ts : List TreeMove) → AllByRecursion (λ t. id_lt t.id x.id ≡ false) ts → put_in x ts ≡ x ∷ ts
put_first x [] h = refl
put_first x (t ∷ ts) h = rw h.0 refl

pub merged_new : (x : TreeMove) (ts xs : List TreeMove) → AllByRecursion (λ t. id_lt t.id x.id ≡ false) ts → AllByRecursion (λ y. id_lt x.id y.id ≡ true) xs → merged ts (x ∷ xs) ≡ x ∷ merged ts xs
merged_new x ts xs h l = ap (λ us. merged us xs) (put_first x ts h) ∙ merged_first x ts xs l

pub merged_past : (pre ts xs : List TreeMove) → AllByRecursion (λ t. AllByRecursion (λ x. id_lt t.id x.id ≡ true) xs) pre → merged (pre ++ ts) xs ≡ pre ++ merged ts xs
merged_past [] ts xs h = refl
merged_past (t ∷ pre) ts xs h = merged_first t (pre ++ ts) xs h.0 ∙ ap (λ us. t ∷ us) (merged_past pre ts xs h.1)

-- ---- the places after moves

pub known_done : (m : Places) (t : TreeMove) → IsTree m → IsMoveIn (has_place m) t → (q : OpId) → has_place (after_move m t) q ≡ with_child (has_place m) t.child q
known_done m t k f q =
    elim (is_above m t.child t.parent) as (λ b. is_above m t.child t.parent ≡ b → is_some (get (cond b m (insert m t.child (place_by t))) q) ≡ (is_some (get m q) || id_eq q t.child)) [
      | true ↦ λ e.
          let a = above_known m k (len m) t.child t.parent f.parent e in
          let a' : is_some (get m t.child) ≡ true = rw f.below at a in
          ⊎_elim
          (λ s. let u : is_some (get m q) ≡ true = ap (λ x. is_some (get m x)) s ∙ a' in rw u refl)
          (λ ne. rw ne (sym (or_false _)))
          (same_or_apart q t.child)
      | false ↦ λ e.
          ap is_some (get-inserted m t.child (place_by t) q)
          ∙ elim (id_eq q t.child) as (λ v. is_some (cond v (Some (place_by t)) (get m q)) ≡ (is_some (get m q) || v)) [ true ↦ sym (true_or _) | false ↦ sym (or_false _) ]
    ] refl

pub after_move_tree : (m : Places) (t : TreeMove) → IsTree m → IsMoveIn (has_place m) t → IsTree (after_move m t)
after_move_tree m t k f = move_keeps_tree m t.child (place_by t) k f.below f.parent

pub fits_rest : (m : Places) (t : TreeMove) (ts : List TreeMove) → IsTree m → AreMovesIn (has_place m) (t ∷ ts) → AreMovesIn (has_place (after_move m t)) ts
fits_rest m t ts k f = fits_more (with_child (has_place m) t.child) (has_place (after_move m t)) (λ q e. known_done m t k f.0 q ∙ e) ts f.1

pub after_moves_tree : (m : Places) (ts : List TreeMove) → IsTree m → AreMovesIn (has_place m) ts → IsTree (after_moves m ts)
after_moves_tree m [] k f = k
after_moves_tree m (t ∷ ts) k f = after_moves_tree (after_move m t) ts (after_move_tree m t k f.0) (fits_rest m t ts k f)

pub after_moves-append : (m : Places) (ts us : List TreeMove) → after_moves m (ts ++ us) ≡ after_moves (after_moves m ts) us
after_moves-append m [] us = refl
after_moves-append m (t ∷ ts) us = after_moves-append (after_move m t) ts us

pub fits-append : (m : Places) (ts us : List TreeMove) → IsTree m → AreMovesIn (has_place m) (ts ++ us) → AreMovesIn (has_place m) ts × AreMovesIn (has_place (after_moves m ts)) us
fits-append m [] us k f = (tt, f)
fits-append m (t ∷ ts) us k f =
    let h = fits-append (after_move m t) ts us (after_move_tree m t k f.0) (fits_rest m t (ts ++ us) k f) in
    ((f.0, fits_more (has_place (after_move m t)) (with_child (has_place m) t.child) (λ q e. sym (known_done m t k f.0 q) ∙ e) ts h.0), h.1)

-- the nodes that are known after the moves
pub known_done_all : (m : Places) (ts : List TreeMove) → IsTree m → AreMovesIn (has_place m) ts → (q : OpId) → has_place (after_moves m ts) q ≡ nodes_after (has_place m) ts q
known_done_all m [] k f q = sym (or_false _)
known_done_all m (t ∷ ts) k f q =
    known_done_all (after_move m t) ts (after_move_tree m t k f.0) (fits_rest m t ts k f) q
    ∙ ap (λ b. b || list_any (λ u. id_eq q u.child) ts) (known_done m t k f.0 q) ∙ or_assoc (has_place m q) (id_eq q t.child) _

-- ---- undoing

pub undone_move : (m : Places) (c : OpId) (to : Place) → with_place (moved m c to) c (get m c) ≡ m
undone_move m c to =
    elim (is_above m c to.parent) as (λ b. with_place (cond b m (insert m c to)) c (get m c) ≡ m) [
      | true ↦ with_place_same m c (get m c) refl
      | false ↦
          same_map id_cmp_total id_cmp_exact _ _ (λ q.
          get-with_place (insert m c to) c (get m c) q
          ∙ ⊎_elim
          (λ s. let h : id_eq q c ≡ true = ap (λ x. id_eq x c) s ∙ id_eq-itself c in rw h (ap (get m) (sym s)))
          (λ ne. rw ne (get-inserted m c to q ∙ rw ne refl))
          (same_or_apart q c))
    ]

pub undone_done : (m : Places) (hs : List Held) → Recorded m hs → undone (after_moves m (steps hs)) hs ≡ m
undone_done m [] r = refl
undone_done m (h ∷ hs) r =
    ap (λ x. with_place x h.step.child (place_if h.before)) (undone_done (after_move m h.step) hs r.1) ∙ ap (with_place (after_move m h.step) h.step.child) r.0
    ∙ undone_move m h.step.child (place_by h.step)

pub recorded-append : (m : Places) (hs gs : List Held) → Recorded m (hs ++ gs) → Recorded m hs × Recorded (after_moves m (steps hs)) gs
recorded-append m [] gs r = (tt, r)
recorded-append m (h ∷ hs) gs r = let k = recorded-append (after_move m h.step) hs gs r.1 in ((r.0, k.0), k.1)

pub append-recorded : (m : Places) (hs gs : List Held) → Recorded m hs → Recorded (after_moves m (steps hs)) gs → Recorded m (hs ++ gs)
append-recorded m [] gs r k = k
append-recorded m (h ∷ hs) gs r k = (r.0, append-recorded (after_move m h.step) hs gs r.1 k)

-- ---- the log, one move at a time

pub steps-append : (hs gs : List Held) → steps (hs ++ gs) ≡ steps hs ++ steps gs
steps-append hs gs = map-append (λ (h : Held). h.step) hs gs

all-append : (P : TreeMove → Type 0) (ts us : List TreeMove) → AllByRecursion P (ts ++ us) → AllByRecursion P ts × AllByRecursion P us
all-append P [] us h = (tt, h)
all-append P (t ∷ ts) us h = let k = all-append P ts us h.1 in ((h.0, k.0), k.1)

pub all_push : (P : TreeMove → Type 0) (ts : List TreeMove) (t : TreeMove) → AllByRecursion P ts → P t → AllByRecursion P (ts ++ t ∷ [])
all_push P [] t h p = (p, tt)
all_push P (u ∷ us) t h p = (h.0, all_push P us t h.1 p)

pub rises-append : (ts us : List TreeMove) → Rises (ts ++ us) → Rises ts × Rises us
rises-append [] us r = (tt, r)
rises-append (t ∷ ts) us r = let k = rises-append ts us r.1 in (((all-append _ ts us r.0).0, k.0), k.1)

pub append-fits : (m : Places) (ts us : List TreeMove) → IsTree m → AreMovesIn (has_place m) ts → AreMovesIn (has_place (after_moves m ts)) us → AreMovesIn (has_place m) (ts ++ us)
append-fits m [] us k f g = g
append-fits m (t ∷ ts) us k f g = (
  f.0,
  fits_more (has_place (after_move m t)) (with_child (has_place m) t.child) (λ q e. sym (known_done m t k f.0 q) ∙ e) (ts ++ us)
      (append-fits (after_move m t) ts us (after_move_tree m t k f.0) (fits_rest m t ts k f) g),
)

pub log_tree : (base : Places) (hs : List Held) (now : Places) → IsLog base hs now → IsTree now
log_tree base hs now l = subst IsTree l.is (after_moves_tree base (steps hs) l.tree l.fits)

-- the log before its last move
module _ (base : Places) (hs : List Held) (h : Held) (now : Places) (l : IsLog base (hs ++ h ∷ []) now) where
  parts : AreMovesIn (has_place base) (steps hs) × AreMovesIn (has_place (after_moves base (steps hs))) (h.step ∷ [])
  parts = fits-append base (steps hs) (h.step ∷ []) l.tree (subst (AreMovesIn (has_place base)) (steps-append hs (h ∷ [])) l.fits)

  kept : Recorded base hs × Recorded (after_moves base (steps hs)) (h ∷ [])
  kept = recorded-append base hs (h ∷ []) l.recorded

  last_done : now ≡ after_move (after_moves base (steps hs)) h.step
  last_done = sym l.is ∙ ap (after_moves base) (steps-append hs (h ∷ [])) ∙ after_moves-append base (steps hs) (h.step ∷ [])

  before_last : with_place now h.step.child (place_if h.before) ≡ after_moves base (steps hs)
  before_last =
      ap (λ m. with_place m h.step.child (place_if h.before)) last_done ∙ ap (with_place (after_move (after_moves base (steps hs)) h.step) h.step.child) kept.1.0
      ∙ undone_move (after_moves base (steps hs)) h.step.child (place_by h.step)

  pub log_pop : IsLog base hs (with_place now h.step.child (place_if h.before))
  log_pop = record {
    tree = l.tree;
    fits = parts.0;
    rises = (rises-append (steps hs) (h.step ∷ []) (subst Rises (steps-append hs (h ∷ [])) l.rises)).0;
    recorded = kept.0;
    is = sym before_last;
  }

  pub last_known : is_some (get now h.step.child) ≡ true
  last_known =
      ap (λ m. is_some (get m h.step.child)) last_done
      ∙ known_done (after_moves base (steps hs)) h.step (after_moves_tree base (steps hs) l.tree parts.0) parts.1.0 h.step.child
      ∙ rw (id_eq-itself h.step.child) (true_or _)

-- the log with one move more
pub log_push : (base : Places) (hs : List Held) (now : Places) (t : TreeMove) → IsLog base hs now → IsMoveIn (has_place now) t → Rises (steps hs ++ t ∷ []) → IsLog base (hs ++ record { step = t; before = kept_place (get now t.child) } ∷ []) (after_move now t)
log_push base hs now t l f r =
    let h : Held = record { step = t; before = kept_place (get now t.child) } in
    record {
      tree = l.tree;
      fits = subst (AreMovesIn (has_place base)) (sym (steps-append hs (h ∷ [])))
          (append-fits base (steps hs) (t ∷ []) l.tree l.fits (subst (λ m. IsMoveIn (has_place m) t) (sym l.is) f, tt));
      rises = subst Rises (sym (steps-append hs (h ∷ []))) r;
      recorded = append-recorded base hs (h ∷ []) l.recorded (place_if-kept (get now t.child) ∙ ap (λ m. get m t.child) (sym l.is), tt);
      is = ap (after_moves base) (steps-append hs (h ∷ [])) ∙ after_moves-append base (steps hs) (t ∷ []) ∙ ap (λ m. after_move m t) l.is;
    }

-- ---- the next of two rising lists

all_first : (x t : TreeMove) (xs : List TreeMove) → id_lt t.id x.id ≡ true → AllByRecursion (λ y. id_lt x.id y.id ≡ true) xs → AllByRecursion (λ y. id_lt t.id y.id ≡ true) (x ∷ xs)
all_first x t xs l h = (l, all_below t.id x xs l h)

module _ (ts xs : List TreeMove) (i j : ℕ) (d : TreeMove) (r : Rises (drop i ts)) (s : Rises (drop j xs)) where
  pub next_old_alone : i < length ts → length xs ≤ j → merged (drop i ts) (drop j xs) ≡ get_or ts i d ∷ merged (drop (i + 1) ts) (drop j xs)
  next_old_alone l k = rw (drop_all j xs k) (drop_more ts i d l)

  pub next_old : i < length ts → j < length xs → id_lt (get_or ts i d).id (get_or xs j d).id ≡ true → merged (drop i ts) (drop j xs) ≡ get_or ts i d ∷ merged (drop (i + 1) ts) (drop j xs)
  next_old l k e =
      let p = drop_more xs j d k in
      let s' = subst Rises p s in
      ap (λ us. merged us (drop j xs)) (drop_more ts i d l)
      ∙ merged_first (get_or ts i d) (drop (i + 1) ts) (drop j xs) (subst (AllByRecursion (λ y. id_lt (get_or ts i d).id y.id ≡ true)) (sym p) (all_first (get_or xs j d) (get_or ts i d) (drop (j + 1) xs) e s'.0))

  pub next_new_alone : length ts ≤ i → j < length xs → merged (drop i ts) (drop j xs) ≡ get_or xs j d ∷ merged (drop i ts) (drop (j + 1) xs)
  next_new_alone l k =
      let p = drop_more xs j d k in
      let s' = subst Rises p s in
      let q = drop_all i ts l in
      ap (merged (drop i ts)) p ∙ merged_new (get_or xs j d) (drop i ts) (drop (j + 1) xs) (subst (AllByRecursion (λ t. id_lt t.id (get_or xs j d).id ≡ false)) (sym q) tt) s'.0

  pub next_new : i < length ts → j < length xs → id_lt (get_or ts i d).id (get_or xs j d).id ≡ false → merged (drop i ts) (drop j xs) ≡ get_or xs j d ∷ merged (drop i ts) (drop (j + 1) xs)
  next_new l k e =
      let p = drop_more xs j d k in
      let s' = subst Rises p s in
      let q = drop_more ts i d l in
      let r' = subst Rises q r in
      ap (merged (drop i ts)) p
      ∙ merged_new (get_or xs j d) (drop i ts) (drop (j + 1) xs)
      (subst (AllByRecursion (λ t. id_lt t.id (get_or xs j d).id ≡ false)) (sym q) (e, all_after (get_or xs j d).id (get_or ts i d) (drop (i + 1) ts) e r'.0)) s'.0

pub on_true : (b : Bool) (P : Type 0) → (b ≡ true → P) → OnTrue b P
on_true true P h = h refl
on_true false P h = tt

pub on_false : (b : Bool) (P : Type 0) → (b ≡ false → P) → OnFalse b P
on_false true P h = tt
on_false false P h = h refl

-- the value that a read of a list of moves has past its end
abbrev pub no_id : OpId
no_id = record { time = 0; member = 0; index = 0 }

abbrev pub no_move : TreeMove
no_move = record { id = no_id; child = no_id; parent = no_id }

abbrev pub no_held : Held
no_held = record { step = no_move; before = None }

pub at_defaults : (ts xs : List TreeMove) (i j : ℕ) (d : TreeMove) (b : Bool) → i < length ts → j < length xs → id_lt (get_or ts i no_move).id (get_or xs j no_move).id ≡ b → id_lt (get_or ts i d).id (get_or xs j d).id ≡ b
at_defaults ts xs i j d b l k e =
    ap (λ (x : TreeMove). id_lt x.id (get_or xs j d).id) (get_or_default ts i d no_move l) ∙ ap (λ (x : TreeMove). id_lt (get_or ts i no_move).id x.id) (get_or_default xs j d no_move k) ∙ e

-- ---- moves that are done again

pub redo_one : (base : Places) (hs : List Held) (now : Places) (t : TreeMove) (rest total : List TreeMove) (admitted : FinSet id_cmp) → Redo base hs now (t ∷ rest) total admitted → Redo base (hs ++ record { step = t; before = kept_place (get now t.child) } ∷ []) (after_move now t) rest total admitted
redo_one base hs now t rest total admitted r =
    let same : (steps hs ++ t ∷ []) ++ rest ≡ total = append_assoc (steps hs) (t ∷ []) rest ∙ r.all in
    record {
      log = log_push base hs now t r.log r.fits.0 (rises-append (steps hs ++ t ∷ []) rest (subst Rises (sym same) r.rises)).0;
      fits = fits_rest now t rest (log_tree base hs now r.log) r.fits;
      all = ap (λ ts. ts ++ rest) (steps-append hs (record { step = t; before = kept_place (get now t.child) } ∷ [])) ∙ same;
      rises = r.rises;
      admitted_all = r.admitted_all.1;
    }

pub rises_more : (ts : List TreeMove) (i : ℕ) → i < length ts → Rises (drop i ts) → Rises (drop (i + 1) ts)
rises_more ts i l r = (subst Rises (drop_more ts i no_move l) r).1

-- ---- a late list of moves

pub log_base : (base : Places) (hs : List Held) (now : Places) → IsLog base hs now → undone now hs ≡ base
log_base base hs now l = ap (λ m. undone m hs) (sym l.is) ∙ undone_done base hs l.recorded

all_map : (P Q : TreeMove → Type 0) (ts : List TreeMove) → ((t : TreeMove) → P t → Q t) → AllByRecursion P ts → AllByRecursion Q ts
all_map P Q [] f h = tt
all_map P Q (t ∷ ts) f h = (f t h.0, all_map P Q ts f h.1)

-- the moves below an index come before i
pub before_border : (hs : List Held) (k : ℕ) (i : OpId) → Rises (steps hs) → k ≤ length hs → ((n : ℕ) (d : Held) → k ≡ suc n → id_lt i (get_or hs n d).step.id ≡ false) → IsFresh (steps hs) i → AllByRecursion (λ t. id_lt t.id i ≡ true) (steps (take k hs))
before_border hs zero i r l b f = tt
before_border [] (suc k) i r l b f = tt
before_border (h ∷ []) (suc zero) i r l b f = (lt_other i h.step.id (b zero h refl) (id_equiv.symm i h.step.id ∙ f.0), tt)
before_border (h ∷ []) (suc (suc k)) i r l b f = absurd (omega arith)
before_border (h ∷ g ∷ gs) (suc zero) i r l b f = (lt_other i h.step.id (b zero h refl) (id_equiv.symm i h.step.id ∙ f.0), tt)
before_border (h ∷ g ∷ gs) (suc (suc k)) i r l b f =
    let rest = before_border (g ∷ gs) (suc k) i r.1 (omega arith) (λ n d e. b (suc n) d (ap suc e)) f.1 in
    (lt_trans h.step.id g.step.id i r.0.0 rest.0, rest)

pub before_all : (x : TreeMove) (xs ts : List TreeMove) → Rises (x ∷ xs) → AllByRecursion (λ t. id_lt t.id x.id ≡ true) ts → AllByRecursion (λ t. AllByRecursion (λ y. id_lt t.id y.id ≡ true) (x ∷ xs)) ts
before_all x xs ts r h = all_map (λ t. id_lt t.id x.id ≡ true) (λ t. AllByRecursion (λ y. id_lt t.id y.id ≡ true) (x ∷ xs)) ts (λ t l. (l, all_below t.id x xs l r.0)) h

children_known : (ts : List TreeMove) → AllByRecursion (λ t. list_any (λ u. id_eq t.child u.child) ts ≡ true) ts
children_known [] = tt
children_known (t ∷ ts) = (
  rw (id_eq-itself t.child) refl,
  all_map (λ s. list_any (λ u. id_eq s.child u.child) ts ≡ true) (λ s. list_any (λ u. id_eq s.child u.child) (t ∷ ts) ≡ true) ts (λ s e. rw e (true_or _)) (children_known ts),
)

pub children_placed : (base : Places) (hs : List Held) (now : Places) → IsLog base hs now → AllByRecursion (λ t. is_some (get now t.child) ≡ true) (steps hs)
children_placed base hs now l =
    all_map (λ t. list_any (λ u. id_eq t.child u.child) (steps hs) ≡ true) (λ t. is_some (get now t.child) ≡ true) (steps hs)
    (λ t e. ap (λ m. is_some (get m t.child)) (sym l.is) ∙ known_done_all base (steps hs) l.tree l.fits t.child ∙ rw e (true_or _))
    (children_known (steps hs))

pub steps_split : (hs : List Held) (k : ℕ) → steps hs ≡ steps (take k hs) ++ steps (drop k hs)
steps_split hs k = ap steps (sym (take-append-drop k hs)) ∙ steps-append (take k hs) (drop k hs)

module _ (base : Places) (hs : List Held) (now : Places) (k : ℕ) (x : TreeMove) (xs : List TreeMove) (admitted : FinSet id_cmp) (l : IsLog base hs now) (r : Rises (x ∷ xs)) (f : AllByRecursion (λ y. IsFresh (steps hs) y.id) (x ∷ xs)) (j : AllReferBack (has_place now) (x ∷ xs)) (early : AllByRecursion (λ t. id_lt t.id x.id ≡ true) (steps (take k hs))) where
  abbrev front : List TreeMove
  front = steps (take k hs)

  abbrev back : List TreeMove
  back = steps (drop k hs)

  whole : merged (steps hs) (x ∷ xs) ≡ front ++ merged back (x ∷ xs)
  whole = ap (λ ts. merged ts (x ∷ xs)) (steps_split hs k) ∙ merged_past front back (x ∷ xs) (before_all x xs front r early)

  all_fit : AreMovesIn (has_place base) (merged (steps hs) (x ∷ xs))
  all_fit =
      fits_merged (has_place base) (steps hs) (x ∷ xs) l.fits l.rises r f
      (joins_more (has_place now) (nodes_after (has_place base) (steps hs)) (λ q e. sym (known_done_all base (steps hs) l.tree l.fits q) ∙ ap (λ m. has_place m q) l.is ∙ e) (x ∷ xs) j)

  all_rise : Rises (merged (steps hs) (x ∷ xs))
  all_rise = rises_merged (steps hs) (x ∷ xs) l.rises r f

  pub ready : (mid : Places) (gs : List Held) → gs ≡ take k hs → IsLog base gs mid → ((q : OpId) → is_some (get now q) ≡ true → contains admitted q ≡ true) → AllByRecursion (λ t. contains admitted t.child ≡ true) (x ∷ xs) → Redo base gs mid (merged back (x ∷ xs)) (steps gs ++ merged back (x ∷ xs)) admitted
  ready mid gs same m placed new =
      let front_is : front ≡ steps gs = ap steps (sym same) in
      let total : front ++ merged back (x ∷ xs) ≡ steps gs ++ merged back (x ∷ xs) = ap (λ ts. ts ++ merged back (x ∷ xs)) front_is in
      record {
        log = m;
        fits = subst (λ p. AreMovesIn (has_place p) (merged back (x ∷ xs))) m.is (fits-append base (steps gs) (merged back (x ∷ xs)) l.tree (subst (AreMovesIn (has_place base)) (whole ∙ total) all_fit)).1;
        all = refl;
        rises = subst Rises (whole ∙ total) all_rise;
        admitted_all = all_merged (λ t. contains admitted t.child ≡ true) back (x ∷ xs)
            (all-append _ front back (subst (AllByRecursion (λ t. contains admitted t.child ≡ true)) (steps_split hs k)
            (all_map (λ t. is_some (get now t.child) ≡ true) (λ t. contains admitted t.child ≡ true) (steps hs) (λ t e. placed t.child e) (children_placed base hs now l)))).1
            new;
      }

  pub total_is : (gs : List Held) → gs ≡ take k hs → steps gs ++ merged back (x ∷ xs) ≡ merged (steps hs) (x ∷ xs)
  total_is gs same = ap (λ hs. steps hs ++ merged back (x ∷ xs)) same ∙ sym whole

-- ---- how many moves are later

pub count-append : (p : TreeMove → Bool) (ts us : List TreeMove) → count_by p (ts ++ us) ≡ count_by p ts + count_by p us
count-append p ts us = sum_by-append (λ x. cond (p x) 1 0) ts us

count_cons : (p : TreeMove → Bool) (t : TreeMove) (ts : List TreeMove) → p t ≡ true → count_by p (t ∷ ts) ≡ 1 + count_by p ts
count_cons p t ts e = count-append p (t ∷ []) ts ∙ ap (λ b. (0 + cond b 1 0) + count_by p ts) e

pub count_all : (p : TreeMove → Bool) (ts : List TreeMove) → AllByRecursion (λ t. p t ≡ true) ts → count_by p ts ≡ length ts
count_all p [] h = refl
count_all p (t ∷ ts) h = let e = count_cons p t ts h.0 in let k = count_all p ts h.1 in omega arith

later_steps : (x : TreeMove) (xs : List TreeMove) (hs : List Held) → AllByRecursion (λ h. id_lt x.id h.step.id ≡ true) hs → AllByRecursion (λ t. list_any (λ y. id_lt y.id t.id) (x ∷ xs) ≡ true) (steps hs)
later_steps x xs [] h = tt
later_steps x xs (g ∷ gs) h = (rw h.0 refl, later_steps x xs gs h.1)

pub later_bound : (x : TreeMove) (xs : List TreeMove) (hs : List Held) (k : ℕ) → AllByRecursion (λ h. id_lt x.id h.step.id ≡ true) (drop k hs) → length (drop k hs) ≤ later_count (steps hs) (x ∷ xs)
later_bound x xs hs k h =
    let p : TreeMove → Bool = λ t. list_any (λ y. id_lt y.id t.id) (x ∷ xs) in
    let all = count_all p (steps (drop k hs)) (later_steps x xs (drop k hs) h) in
    let split = ap (count_by p) (steps_split hs k) ∙ count-append p (steps (take k hs)) (steps (drop k hs)) in
    let len = length-map (drop k hs) (λ (g : Held). g.step) in
    omega arith

-- ---- nodes admitted one by one

pub all_take_more : (P : TreeMove → Type 0) (ts : List TreeMove) (i : ℕ) → i < length ts → AllByRecursion P (take i ts) → P (get_or ts i no_move) → AllByRecursion P (take (i + 1) ts)
all_take_more P ts i l h p = rw (take_more ts i no_move l) (all_push P (take i ts) (get_or ts i no_move) h p)

pub admitted_more : (s : FinSet id_cmp) (c : OpId) (ts : List TreeMove) → AllByRecursion (λ t. contains s t.child ≡ true) ts → AllByRecursion (λ t. contains (set_insert s c) t.child ≡ true) ts
admitted_more s c ts h =
    all_map (λ t. contains s t.child ≡ true) (λ t. contains (set_insert s c) t.child ≡ true) ts (λ t e. contains-inserted s c t.child ∙ rw e (true_or _)) h

pub admitted_same : (s : FinSet id_cmp) (c : OpId) → contains (set_insert s c) c ≡ true
admitted_same s c = contains-inserted s c c ∙ rw (id_eq-itself c) refl

-- ---- the whole insertion

pub first_cons : (ms : List TreeMove) (x : TreeMove) → 0 < length ms → x ≡ get_or ms 0 no_move → ms ≡ x ∷ drop (0 + 1) ms
first_cons ms x l e = drop_more ms 0 no_move l ∙ ap (λ y. y ∷ drop (0 + 1) ms) (sym e)

pub early_moves : (base now : Places) (hs : List Held) (k : ℕ) (x : TreeMove) (xs : List TreeMove) → IsLog base hs now → k ≤ length hs → ((d : Held) → 0 < k → id_lt x.id (get_or hs (k - 1) d).step.id ≡ false) → AllByRecursion (λ y. IsFresh (steps hs) y.id) (x ∷ xs) → AllByRecursion (λ t. id_lt t.id x.id ≡ true) (steps (take k hs))
early_moves base now hs k x xs l b border f =
    before_border hs k x.id l.rises b (λ n d e. let pos : 0 < k = omega arith in let at : k - 1 ≡ n = omega arith in ap (λ i. id_lt x.id (get_or hs i d).step.id) (sym at) ∙ border d pos) f.0

module _ (base now mid : Places) (hs gs : List Held) (k : ℕ) (later ms : List TreeMove) (x : TreeMove) (admitted : FinSet id_cmp) (l : IsLog base hs now) (cons : ms ≡ x ∷ drop (0 + 1) ms) (r : Rises ms) (f : AllByRecursion (λ y. IsFresh (steps hs) y.id) ms) (j : AllReferBack (has_place now) ms) (early : AllByRecursion (λ t. id_lt t.id x.id ≡ true) (steps (take k hs))) (later_is : later ≡ steps (drop k hs)) (same : gs ≡ take k hs) (m : IsLog base gs mid) where
  r' : Rises (x ∷ drop (0 + 1) ms)
  r' = subst Rises cons r

  f' : AllByRecursion (λ y. IsFresh (steps hs) y.id) (x ∷ drop (0 + 1) ms)
  f' = subst (AllByRecursion (λ y. IsFresh (steps hs) y.id)) cons f

  j' : AllReferBack (has_place now) (x ∷ drop (0 + 1) ms)
  j' = subst (AllReferBack (has_place now)) cons j

  pub todo : ((q : OpId) → is_some (get now q) ≡ true → contains admitted q ≡ true) → AllByRecursion (λ t. contains admitted t.child ≡ true) ms → Redo (undone mid gs) gs mid (merged later ms) (steps gs ++ merged later ms) admitted
  todo placed new =
      rw (log_base base gs mid m, later_is)
      (subst (λ ys. Redo base gs mid (merged (steps (drop k hs)) ys) (steps gs ++ merged (steps (drop k hs)) ys) admitted) (sym cons)
      (ready base hs now k x (drop (0 + 1) ms) admitted l r' f' j' early mid gs same m placed (subst (AllByRecursion (λ t. contains admitted t.child ≡ true)) cons new)))

  pub all_moves : steps gs ++ merged later ms ≡ merged (steps hs) ms
  all_moves =
      ap (λ ts. steps gs ++ merged ts ms) later_is
      ∙ subst (λ ys. steps gs ++ merged (steps (drop k hs)) ys ≡ merged (steps hs) ys) (sym cons) (total_is base hs now k x (drop (0 + 1) ms) admitted l r' f' j' early gs same)

  pub later_rise : Rises later
  later_rise = rw later_is (rises-append (steps (take k hs)) (steps (drop k hs)) (subst Rises (steps_split hs k) l.rises)).1

pub joins_below : (known : OpId → Bool) (ms : List TreeMove) → AllReferBack known ms → AllByRecursion (λ t. is_fixed t.child ≡ false) ms
joins_below known [] j = tt
joins_below known (t ∷ ts) j = (j.0.below, joins_below (with_child known t.child) ts j.1)

-- ---- moves forgotten by their time

abbrev pub kept_at : ℕ → Held → Bool
kept_at time h = nat_lt time h.step.id.time

abbrev pub gone_at : ℕ → Held → Bool
gone_at time h = nat_le h.step.id.time time

-- ids that rise have times that do not fall
time_rises : (a b : OpId) → id_lt a b ≡ true → a.time ≤ b.time
time_rises a b l = grind (arith, nat_tests, l)

steps-filter : (p : TreeMove → Bool) (hs : List Held) → steps (filter (λ h. p h.step) hs) ≡ filter p (steps hs)
steps-filter p [] = refl
steps-filter p (h ∷ hs) =
    elim (p h.step) as (λ b. steps (cond b (h ∷ filter (λ g. p g.step) hs) (filter (λ g. p g.step) hs)) ≡ cond b (h.step ∷ filter p (steps hs)) (filter p (steps hs))) [ true ↦ ap (λ ts. h.step ∷ ts) (steps-filter p hs) | false ↦ steps-filter p hs ]

all_kept : (time : ℕ) (i : OpId) (hs : List Held) → time < i.time → AllByRecursion (λ u. id_lt i u.id ≡ true) (steps hs) → (filter (gone_at time) hs ≡ []) × (filter (kept_at time) hs ≡ hs)
all_kept time i [] l r = (refl, refl)
all_kept time i (h ∷ hs) l r =
    let k = all_kept time i hs l r.1 in
    let up = time_rises i h.step.id r.0 in
    let gone : gone_at time h ≡ false = grind (arith, nat_tests) in
    let kept : kept_at time h ≡ true = grind (arith, nat_tests) in
    (rw gone k.0, rw kept (ap (λ gs. h ∷ gs) k.1))

pub split_time : (time : ℕ) (hs : List Held) → Rises (steps hs) → hs ≡ filter (gone_at time) hs ++ filter (kept_at time) hs
split_time time [] r = refl
split_time time (h ∷ hs) r =
    elim (cases_lt time h.step.id.time) as (λ _. h ∷ hs ≡ filter (gone_at time) (h ∷ hs) ++ filter (kept_at time) (h ∷ hs)) [
      | inl l ↦
          let k = all_kept time h.step.id hs l r.0 in
          let gone : gone_at time h ≡ false = grind (arith, nat_tests) in
          let kept : kept_at time h ≡ true = grind (arith, nat_tests) in
          rw (gone, kept, k.0, k.1) refl
      | inr l ↦
          let gone : gone_at time h ≡ true = grind (arith, nat_tests) in
          let kept : kept_at time h ≡ false = grind (arith, nat_tests) in
          rw (gone, kept) (ap (λ gs. h ∷ gs) (split_time time hs r.1))
    ]

pub log_drop : (base now : Places) (gs ks : List Held) → IsLog base (gs ++ ks) now → IsLog (after_moves base (steps gs)) ks now
log_drop base now gs ks l =
    let fits = fits-append base (steps gs) (steps ks) l.tree (subst (AreMovesIn (has_place base)) (steps-append gs ks) l.fits) in
    record {
      tree = after_moves_tree base (steps gs) l.tree fits.0;
      fits = fits.1;
      rises = (rises-append (steps gs) (steps ks) (subst Rises (steps-append gs ks) l.rises)).1;
      recorded = (recorded-append base gs ks l.recorded).1;
      is = sym (after_moves-append base (steps gs) (steps ks)) ∙ ap (after_moves base) (sym (steps-append gs ks)) ∙ l.is;
    }

-- the log without the moves of at most the time
pub log_kept : (base now : Places) (time : ℕ) (hs : List Held) → IsLog base hs now → IsLog (after_moves base (filter (λ t. nat_le t.id.time time) (steps hs))) (filter (kept_at time) hs) now
log_kept base now time hs l =
    subst (λ ts. IsLog (after_moves base ts) (filter (kept_at time) hs) now) (steps-filter (λ t. nat_le t.id.time time) hs)
    (log_drop base now (filter (gone_at time) hs) (filter (kept_at time) hs) (subst (λ gs. IsLog base gs now) (split_time time hs l.rises) l))

pub steps_kept : (time : ℕ) (hs : List Held) → steps (filter (kept_at time) hs) ≡ filter (λ t. nat_lt time t.id.time) (steps hs)
steps_kept time hs = steps-filter (λ t. nat_lt time t.id.time) hs

-- ---- work

raised_rose : (n : ℕ) → n ≤ raised n
raised_rose n = grind arith

raised_bound : (n : ℕ) → raised n ≤ n + 1
raised_bound n = grind arith

pub worked_none : (a : Work) → Worked a a 0
worked_none a = record { rose = omega arith; bound = omega arith; decoded = refl }

pub worked_tick : (a b c : Work) (n : ℕ) → Worked a b n → c ≡ record b { moves = raised b.moves } → Worked a c (n + 1)
worked_tick a b c n w e =
    let now = ap (λ (x : Work). x.moves) e in
    let up = raised_rose b.moves in
    let top = raised_bound b.moves in
    let rose = w.rose in
    let bound = w.bound in
    record { rose = omega arith; bound = omega arith; decoded = ap (λ (x : Work). x.decoded) e ∙ w.decoded }

pub worked_then : (a b c : Work) (m n : ℕ) → Worked a b m → Worked b c n → Worked a c (m + n)
worked_then a b c m n w v =
    let r = w.rose in
    let s = v.rose in
    let t = w.bound in
    let u = v.bound in
    record { rose = omega arith; bound = omega arith; decoded = v.decoded ∙ w.decoded }

pub worked_within : (a b : Work) (m n : ℕ) → Worked a b m → m ≤ n → Worked a b n
worked_within a b m n w l = let t = w.bound in record { rose = w.rose; bound = omega arith; decoded = w.decoded }
