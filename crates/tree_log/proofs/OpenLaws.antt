-- The laws of moves that were taken in and are still to be done.
use Rattle.std.specs.Prelude.{◌≡◌, Bool, true, false, cond, ◌||◌, ◌&&◌, Option, Some, None, List, [], ◌∷◌, ◌++◌, refl}
use Rattle.std.proofs.Common.{sym, ◌∙◌, ap, subst, inl, inr, ⊎_elim}
use Rattle.std.proofs.lemmas.List.{append_assoc}
use Rattle.std.proofs.lemmas.List.Sorted.{IsPermutation-trans, IsPermutation-sym, IsPermutation-append_left, IsPermutation-append_right}
use Rattle.std.specs.List.{AllByRecursion, list_any}
use Rattle.std.specs.List.Sorted.{IsPermutation}
use Rattle.std.specs.BTreeMap.{insert_entry, is_at}
use Rattle.std.specs.Map.{lookup}
use Rattle.std.specs.Ordering.{is_lt, is_eq, match_ordering, ordering_reverse}
use Rattle.std.specs.declared.cmp.Ordering.TheVariants.{Less, Equal, Greater}
use Rattle.op_ids.specs.declared.OpId.{OpId}
use Rattle.op_ids.specs.Order.{id_cmp, id_eq, id_lt}
use Rattle.op_ids.proofs.OrderLaws.{id_cmp_total, id_cmp_exact, id_eq-exact, id_eq-itself, id_equiv, eq_by_cmp-id, lt_not_back, lt_apart}
use Rattle.model_laws.specs.Tree.{IsTree}
use Rattle.model_laws.proofs.TreeLaws.{true_or}
use Rattle.tree_log.specs.declared.moves.TreeMove.{TreeMove}
use Rattle.tree_log.specs.Log.{AreMovesIn}
use Rattle.tree_log.specs.Merge.{put_in, merged}
use Rattle.tree_log.specs.Moves.{after_moves, Rises, with_child, has_place, RefersBack, AllReferBack, IsFresh, inserted, Log, places_now}
use Rattle.tree_log.specs.Open.{IsOpen, is_child, late_in, makes}
use Rattle.tree_log.proofs.LogLaws.{nodes_after, or_assoc, or_false, true_false, all_after, all_put, any_put, known_early, wider_put, fits_merged, joins_more, rises_put, fresh_put, known_done_all, all_merged}
use Rattle.tree_log.proofs.SortLaws.{placed_put, inserted_merged, insertion_sorts, one_order}

abbrev pub Entries : Type 0
Entries = List (OpId × TreeMove)

abbrev pub AtIds : Entries → Type 0
AtIds es = AllByRecursion (λ e. e.0 ≡ e.1.id) es

-- ---- the entries

-- a new entry at its id is the move in its place
pub entry_put : (x : TreeMove) (es : Entries) → AtIds es → IsFresh (late_in es) x.id → (late_in (insert_entry id_cmp es x.id x) ≡ put_in x (late_in es)) × AtIds (insert_entry id_cmp es x.id x)
entry_put x [] h f = (refl, (refl, tt))
entry_put x (e ∷ es) h f =
    let k = x.id in
    let more = insert_entry id_cmp es k x in
    let rest = entry_put x es h.1 f.1 in
    elim (id_cmp k e.0) as (λ o. id_cmp k e.0 ≡ o → (late_in (match_ordering o ((k, x) ∷ e ∷ es) ((e.0, x) ∷ es) (e ∷ more)) ≡ put_in x (late_in (e ∷ es))) × AtIds (match_ordering o ((k, x) ∷ e ∷ es) ((e.0, x) ∷ es) (e ∷ more))) [
      | Less ↦ λ c.
          let n : id_lt e.1.id k ≡ false = lt_not_back k e.1.id (ap (λ i. id_lt k i) (sym h.0) ∙ ap is_lt c) in
          (rw n refl, (refl, h))
      | Equal ↦ λ c.
          let same : e.1.id ≡ k = sym h.0 ∙ sym (id_cmp_exact k e.0 c) in
          true_false (id_eq e.1.id k) (ap (λ i. id_eq i k) same ∙ id_eq-itself k) f.0
      | Greater ↦ λ c.
          let b : id_lt e.1.id k ≡ true = ap (λ i. id_lt i k) (sym h.0) ∙ ap is_lt (id_cmp_total.antisymm e.0 k ∙ ap ordering_reverse c) in
          (rw b (ap (λ (ts : List TreeMove). e.1 ∷ ts) rest.0), (h.0, rest.1))
    ] refl

-- whether the move at an id, if there is one, makes the node
abbrev pub made_by : OpId → Option TreeMove → Bool
made_by node None = false
made_by node (Some t) = id_eq t.child node

none_made : (i node : OpId) (ts : List TreeMove) → id_eq node i ≡ true → AllByRecursion (λ t. id_lt i t.id ≡ true) ts → list_any (makes node) ts ≡ false
none_made i node [] e h = refl
none_made i node (t ∷ ts) e h =
    let apart : id_eq node t.id ≡ false = ap (λ n. id_eq n t.id) (id_eq-exact node i e) ∙ lt_apart i t.id h.0 in
    rw apart (none_made i node ts e h.1)

pub made_at : (node : OpId) (es : Entries) → AtIds es → Rises (late_in es) → made_by node (lookup (is_at (id_cmp node)) es) ≡ list_any (makes node) (late_in es)
made_at node [] h r = refl
made_at node (e ∷ es) h r =
    let key : is_eq (id_cmp node e.0) ≡ id_eq node e.1.id = eq_by_cmp-id node e.0 ∙ ap (id_eq node) h.0 in
    rw key
    (elim (id_eq node e.1.id) as (λ b. id_eq node e.1.id ≡ b → made_by node (cond b (Some e.1) (lookup (is_at (id_cmp node)) es)) ≡ ((b && id_eq node e.1.child) || list_any (makes node) (late_in es))) [
      | true ↦ λ s. id_equiv.symm e.1.child node ∙ sym (ap (λ b. id_eq node e.1.child || b) (none_made e.1.id node (late_in es) s r.0) ∙ or_false _)
      | false ↦ λ s. made_at node es h.1 r.1
    ] refl)

-- ---- moves that refer back

pub fits_joins : (known : OpId → Bool) (ts : List TreeMove) → AllReferBack known ts → AreMovesIn known ts
fits_joins known [] j = tt
fits_joins known (t ∷ ts) j = (
  record {
    parent = ⊎_elim (λ e. rw e refl) (λ e. rw e.0 (true_or _)) j.0.parent;
    child = ⊎_elim inl (λ e. inr e.0) j.0.child;
    below = j.0.below;
  },
  fits_joins (with_child known t.child) ts j.1,
)

-- before moves of no lesser ids, a move refers to what is known there
refers_early : (known : OpId → Bool) (ts : List TreeMove) (x : TreeMove) → AllReferBack known ts → AllByRecursion (λ u. id_lt u.id x.id ≡ false) ts → RefersBack (nodes_after known ts) x → RefersBack known x
refers_early known ts x j a b =
    let f = fits_joins known ts j in
    record {
      parent = ⊎_elim inl (λ e. inr (known_early known ts x.id x.parent f a e.1 e.0, e.1)) b.parent;
      child = ⊎_elim inl (λ e. inr (known_early known ts x.id x.child f a e.1 e.0, e.1)) b.child;
      below = b.below;
    }

pub refer_put : (known : OpId → Bool) (ts : List TreeMove) (x : TreeMove) → AllReferBack known ts → Rises ts → RefersBack (nodes_after known ts) x → AllReferBack known (put_in x ts)
refer_put known [] x j r b = (refers_early known [] x tt tt b, tt)
refer_put known (t ∷ ts) x j r b =
    elim (id_lt t.id x.id) as (λ v. id_lt t.id x.id ≡ v → AllReferBack known (cond v (t ∷ put_in x ts) (x ∷ t ∷ ts))) [
      | true ↦ λ e.
          let shift : (q : OpId) → nodes_after known (t ∷ ts) q ≡ true → nodes_after (with_child known t.child) ts q ≡ true = λ q h. or_assoc (known q) (id_eq q t.child) _ ∙ h in
          let b' = joins_more (nodes_after known (t ∷ ts)) (nodes_after (with_child known t.child) ts) shift (x ∷ []) (b, tt) in
          (j.0, refer_put (with_child known t.child) ts x j.1 r.1 b'.0)
      | false ↦ λ e. (refers_early known (t ∷ ts) x j (e, all_after x.id t ts e r.0) b, joins_more known (with_child known x.child) (λ q h. rw h refl) (t ∷ ts) j)
    ] refl

-- of the moves of a node that was not there, one makes it
pub made_new : (known : OpId → Bool) (ts : List TreeMove) (q : OpId) → AllReferBack known ts → known q ≡ false → list_any (λ t. id_eq q t.child) ts ≡ list_any (makes q) ts
made_new known [] q j n = refl
made_new known (t ∷ ts) q j n =
    elim (id_eq q t.child) as (λ b. id_eq q t.child ≡ b → (b || list_any (λ u. id_eq q u.child) ts) ≡ ((id_eq q t.id && b) || list_any (makes q) ts)) [
      | true ↦ λ e.
          let s = id_eq-exact q t.child e in
          ⊎_elim
          (λ own. let k : id_eq q t.id ≡ true = ap (id_eq q) (sym (s ∙ own)) ∙ id_eq-itself q in rw k refl)
          (λ old. true_false (known q) (ap known s ∙ old.0) n)
          j.0.child
      | false ↦ λ e. rw (and_false (id_eq q t.id)) (made_new (with_child known t.child) ts q j.1 (rw (n, e) refl))
    ] refl
  where
    and_false : (b : Bool) → (b && false) ≡ false
    and_false true = refl
    and_false false = refl

-- ---- the whole log

or_between : (a b c d : Bool) → ((a || (b || c)) || d) ≡ ((a || c) || (b || d))
or_between true b c d = refl
or_between false true true d = refl
or_between false true false d = refl
or_between false false c d = refl

pub nodes_merged : (known : OpId → Bool) (ts xs : List TreeMove) (q : OpId) → nodes_after known (merged ts xs) q ≡ nodes_after (nodes_after known ts) xs q
nodes_merged known ts [] q = sym (or_false _)
nodes_merged known ts (x ∷ xs) q =
    nodes_merged known (put_in x ts) xs q
    ∙ ap (λ b. (known q || b) || list_any (λ t. id_eq q t.child) xs) (any_put q x ts)
    ∙ or_between (known q) (id_eq q x.child) (list_any (λ t. id_eq q t.child) ts) (list_any (λ t. id_eq q t.child) xs)

put_parts : (P : TreeMove → Type 0) (x : TreeMove) (ts : List TreeMove) → AllByRecursion P (put_in x ts) → P x × AllByRecursion P ts
put_parts P x [] h = h
put_parts P x (t ∷ ts) h =
    elim (id_lt t.id x.id) as (λ b. AllByRecursion P (cond b (t ∷ put_in x ts) (x ∷ t ∷ ts)) → P x × AllByRecursion P (t ∷ ts)) [
      | true ↦ λ k. let rest = put_parts P x ts k.1 in (rest.0, (k.0, rest.1))
      | false ↦ λ k. k
    ] h

all_parts : (P : TreeMove → Type 0) (ts xs : List TreeMove) → AllByRecursion P (merged ts xs) → AllByRecursion P ts × AllByRecursion P xs
all_parts P ts [] h = (h, tt)
all_parts P ts (x ∷ xs) h =
    let rest = all_parts P (put_in x ts) xs h in
    let one = put_parts P x ts rest.0 in
    (one.1, (one.0, rest.1))

-- what has the id of none of the moves together has the id of none of either
module _ (ts us : List TreeMove) (rises : Rises ts) (us_rise : Rises us) (fresh : AllByRecursion (λ t. IsFresh ts t.id) us) where
  pub fresh_both : (xs : List TreeMove) → AllByRecursion (λ x. IsFresh (inserted ts us) x.id) xs → AllByRecursion (λ x. IsFresh ts x.id) xs × AllByRecursion (λ x. IsFresh us x.id) xs
  fresh_both [] h = (tt, tt)
  fresh_both (x ∷ xs) h =
      let one = all_parts (λ t. id_eq t.id x.id ≡ false) ts us (subst (λ vs. IsFresh vs x.id) (inserted_merged ts us rises us_rise fresh) h.0) in
      let rest = fresh_both xs h.1 in
      ((one.0, rest.0), (one.1, rest.1))

  -- moves put in among late ones, and all of them in a log: the same as one after the other
  pub inserted_after : (xs : List TreeMove) → Rises xs → AllByRecursion (λ x. IsFresh (inserted ts us) x.id) xs → inserted ts (inserted us xs) ≡ inserted (inserted ts us) xs
  inserted_after xs xs_rise h =
      let both = fresh_both xs h in
      let among = insertion_sorts us xs us_rise xs_rise both.1 in
      let apart : AllByRecursion (λ x. IsFresh ts x.id) (inserted us xs) =
      subst (AllByRecursion (λ x. IsFresh ts x.id)) (sym (inserted_merged us xs us_rise xs_rise both.1)) (all_merged (λ x. IsFresh ts x.id) us xs fresh both.0) in
      let left = insertion_sorts ts (inserted us xs) rises among.rises apart in
      let first = insertion_sorts ts us rises us_rise fresh in
      let right = insertion_sorts (inserted ts us) xs first.rises xs_rise h in
      let to_left = IsPermutation-trans (ts ++ (us ++ xs)) (ts ++ inserted us xs) (inserted ts (inserted us xs)) (IsPermutation-append_right ts (us ++ xs) (inserted us xs) among.all) left.all in
      let to_right = IsPermutation-trans ((ts ++ us) ++ xs) (inserted ts us ++ xs) (inserted (inserted ts us) xs) (IsPermutation-append_left xs (ts ++ us) (inserted ts us) first.all) right.all in
      one_order _ _ left.rises right.rises
      (IsPermutation-trans (inserted ts (inserted us xs)) (ts ++ (us ++ xs)) (inserted (inserted ts us) xs) (IsPermutation-sym _ _ to_left)
      (subst (λ vs. IsPermutation vs (inserted (inserted ts us) xs)) (append_assoc ts us xs) to_right))

-- a log of moves that fit, and the late ones
module _ (log : Log) (late : List TreeMove) (tree : IsTree log.base) (fits : AreMovesIn (has_place log.base) log.moves) (rises : Rises log.moves) (late_rises : Rises late) (fresh : AllByRecursion (λ t. IsFresh log.moves t.id) late) (refer : AllReferBack (has_place (places_now log)) late) where
  merged_is : inserted log.moves late ≡ merged log.moves late
  merged_is = inserted_merged log.moves late rises late_rises fresh

  known_now : (q : OpId) → has_place (places_now log) q ≡ nodes_after (has_place log.base) log.moves q
  known_now q = known_done_all log.base log.moves tree fits q

  -- a node has a place in the whole log where it has one in the log, or is a late move's child
  pub whole_nodes : (q : OpId) → has_place (after_moves log.base (inserted log.moves late)) q ≡ nodes_after (has_place (places_now log)) late q
  whole_nodes q =
      ap (λ ts. has_place (after_moves log.base ts) q) merged_is
      ∙ known_done_all log.base (merged log.moves late) tree
      (fits_merged (has_place log.base) log.moves late fits rises late_rises fresh (joins_more (has_place (places_now log)) (nodes_after (has_place log.base) log.moves) (λ p e. sym (known_now p) ∙ e) late refer)) q
      ∙ nodes_merged (has_place log.base) log.moves late q ∙ ap (λ b. b || list_any (λ t. id_eq q t.child) late) (sym (known_now q))

-- ---- moves taken in, one at a time

-- the moves rest are still to be taken in, and total are all late moves then
pub record Taking (log : Log) (entries : Entries) (rest total : List TreeMove) : Type 0 where
  pub open_now : IsOpen log entries
  pub rises : Rises rest
  pub fresh : AllByRecursion (λ x. IsFresh log.moves x.id) rest
  pub unlike : AllByRecursion (λ x. IsFresh (late_in entries) x.id) rest
  pub refer : AllReferBack (nodes_after (has_place (places_now log)) (late_in entries)) rest
  pub all : inserted (late_in entries) rest ≡ total

pub take_one : (log : Log) (entries : Entries) (x : TreeMove) (rest total : List TreeMove) → Taking log entries (x ∷ rest) total → Taking log (insert_entry id_cmp entries x.id x) rest total
take_one log entries x rest total t =
    let put = entry_put x entries t.open_now.at_ids t.unlike.0 in
    let late = late_in entries in
    let back = sym put.0 in
    record {
      open_now = record {
        at_ids = put.1;
        rises = subst Rises back (rises_put late x t.open_now.rises t.unlike.0);
        fresh = subst (AllByRecursion (λ u. IsFresh log.moves u.id)) back (all_put (λ u. IsFresh log.moves u.id) x late t.fresh.0 t.open_now.fresh);
        refer = subst (AllReferBack (has_place (places_now log))) back (refer_put (has_place (places_now log)) late x t.open_now.refer t.open_now.rises t.refer.0);
      };
      rises = t.rises.1;
      fresh = t.fresh.1;
      unlike = subst (λ us. AllByRecursion (λ y. IsFresh us y.id) rest) back (fresh_put late rest x t.rises.0 t.unlike.1);
      refer = subst (λ us. AllReferBack (nodes_after (has_place (places_now log)) us) rest) back
          (joins_more (with_child (nodes_after (has_place (places_now log)) late) x.child) (nodes_after (has_place (places_now log)) (put_in x late)) (wider_put (has_place (places_now log)) late x) rest t.refer.1);
      all = ap (λ us. inserted us rest) (put.0 ∙ sym (placed_put x late t.open_now.rises t.unlike.0)) ∙ t.all;
    }

-- the moves of one change, before the first is taken in
module _ (log : Log) (entries : Entries) (ms : List TreeMove) (tree : IsTree log.base) (fits : AreMovesIn (has_place log.base) log.moves) (rising : Rises log.moves) (o : IsOpen log entries) (rises : Rises ms) (fresh : AllByRecursion (λ x. IsFresh (inserted log.moves (late_in entries)) x.id) ms) (refer : AllReferBack (has_place (after_moves log.base (inserted log.moves (late_in entries)))) ms) where
  parts : AllByRecursion (λ x. IsFresh log.moves x.id) ms × AllByRecursion (λ x. IsFresh (late_in entries) x.id) ms
  parts = fresh_both log.moves (late_in entries) rising o.rises o.fresh ms fresh

  pub take_first : Taking log entries ms (inserted (late_in entries) ms)
  take_first = record {
    open_now = o;
    rises = rises;
    fresh = parts.0;
    unlike = parts.1;
    refer = joins_more (has_place (after_moves log.base (inserted log.moves (late_in entries)))) (nodes_after (has_place (places_now log)) (late_in entries))
        (λ q e. sym (whole_nodes log (late_in entries) tree fits rising o.rises o.fresh o.refer q) ∙ e) ms refer;
    all = refl;
  }

  -- what is there once they are taken in
  pub there_after : (fs : Entries) → IsOpen log fs → late_in fs ≡ inserted (late_in entries) ms → (q : OpId)
      → has_place (after_moves log.base (inserted log.moves (late_in fs))) q ≡ (has_place (after_moves log.base (inserted log.moves (late_in entries))) q || is_child q ms)
  there_after fs k all q =
      let known = has_place (places_now log) in
      whole_nodes log (late_in fs) tree fits rising k.rises k.fresh k.refer q
      ∙ ap (λ ts. nodes_after known ts q) (all ∙ inserted_merged (late_in entries) ms o.rises rises parts.1) ∙ nodes_merged known (late_in entries) ms q
      ∙ ap (λ b. b || is_child q ms) (sym (whole_nodes log (late_in entries) tree fits rising o.rises o.fresh o.refer q))
