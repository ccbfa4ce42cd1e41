-- Entries of a map by stamps, as the list of their changes.
use Rattle.std.proofs.Common.{◌≡◌, ℕ, zero, suc, ◌+◌, true, false, List, [], ◌∷◌, ◌++◌, map, take, refl, sym, ap, subst, ◌∙◌}
use Rattle.std.specs.Prelude.{Some, slice_get}
use Rattle.std.specs.List.{AllByRecursion}
use Rattle.std.specs.List.Sorted.{IsStrictlySortedBy}
use Rattle.std.specs.Map.{keys_of}
use Rattle.std.specs.BTreeMap.{insert_entry}
use Rattle.std.specs.Ordering.{is_lt, match_ordering, ordering_reverse}
use Rattle.std.specs.declared.cmp.Ordering.TheVariants.{Less, Equal, Greater}
use Rattle.std.proofs.lemmas.List.{take_more}
use Rattle.std.proofs.lemmas.Option.{slice_get_within, get_or_from_slice_get}
use Rattle.op_ids.specs.Order.{stamp_cmp, stamp_lt}
use Rattle.op_ids.specs.declared.Stamp.{Stamp}
use Rattle.op_ids.proofs.OrderLaws.{stamp_cmp_total, stamp_cmp_exact, stamp_lt_itself}
use Rattle.model.specs.Change.{Change, AreInTimeOrder, change_stamp, is_before}
use Rattle.model.specs.Ledger.{add}
use Rattle.model_laws.proofs.ListLaws.{all_back, all_more, filter_all, filter_none}
use Rattle.arrival_laws.proofs.AddLaws.{InOrder, order_from, before_not_back, all_later}

abbrev pub Entries : Type 0
Entries = List (Stamp × Change)

abbrev pub vals : Entries → List Change
vals es = map (λ e. e.1) es

abbrev pub Stamped : Entries → Type 0
Stamped es = AllByRecursion (λ e. e.0 ≡ change_stamp e.1) es

pub stand_in_order : (es : Entries) → Stamped es → IsStrictlySortedBy stamp_cmp (keys_of es) → InOrder (vals es)
unfolding IsStrictlySortedBy
stand_in_order [] h s = tt
stand_in_order (e ∷ es) h s = (behind es h.1 s.0, stand_in_order es h.1 s.1)
  where
    behind : (fs : Entries) → Stamped fs → AllByRecursion (λ y. stamp_cmp e.0 y ≡ Less) (keys_of fs) → AllByRecursion (λ d. is_before e.1 d ≡ true) (vals fs)
    behind [] k l = tt
    behind (f ∷ fs) k l = (let p = h.0 in let q = k.0 in (λ i. is_lt (stamp_cmp (sym p i) (sym q i))) ∙ ap is_lt l.0, behind fs k.1 l.1)

none_back : (c : Change) (ds : List Change) → AllByRecursion (λ d. is_before c d ≡ true) ds → AllByRecursion (λ d. is_before d c ≡ false) ds
none_back c ds h = all_more (λ d. is_before c d ≡ true) (λ d. is_before d c ≡ false) (λ d e. before_not_back c d e) ds h

-- an entry at its stamp is the change in its place
pub inserted : (c : Change) (es : Entries) → Stamped es → InOrder (vals es) → (vals (insert_entry stamp_cmp es (change_stamp c) c) ≡ add (vals es) c) × Stamped (insert_entry stamp_cmp es (change_stamp c) c)
inserted c [] h r = (refl, (refl, tt))
inserted c (e ∷ es) h r =
    let k = change_stamp c in
    let more = insert_entry stamp_cmp es k c in
    let rest = inserted c es h.1 r.1 in
    elim (stamp_cmp k e.0) as (λ o. stamp_cmp k e.0 ≡ o → (vals (match_ordering o ((k, c) ∷ e ∷ es) ((e.0, c) ∷ es) (e ∷ more)) ≡ add (vals (e ∷ es)) c) × Stamped (match_ordering o ((k, c) ∷ e ∷ es) ((e.0, c) ∷ es) (e ∷ more))) [
      | Less ↦ λ f.
          let b : is_before c e.1 ≡ true = ap (λ s. is_lt (stamp_cmp k s)) (sym h.0) ∙ ap is_lt f in
          let n : is_before e.1 c ≡ false = before_not_back c e.1 b in
          let after = all_later c e.1 (vals es) b r.0 in
          let front = filter_none (λ d. is_before d c) (vals es) (none_back c (vals es) after) in
          let back = filter_all (λ d. is_before c d) (vals es) after in
          (rw (n, b) (rw (front, back) refl), (refl, h))
      | Equal ↦ λ f.
          let same : k ≡ e.0 = stamp_cmp_exact k e.0 f in
          let own : change_stamp e.1 ≡ k = sym (same ∙ h.0) in
          let b : is_before c e.1 ≡ false = ap (stamp_lt k) own ∙ stamp_lt_itself k in
          let n : is_before e.1 c ≡ false = ap (λ s. stamp_lt s k) own ∙ stamp_lt_itself k in
          let after = all_more (λ d. is_before e.1 d ≡ true) (λ d. is_before c d ≡ true) (λ d l. ap (λ s. stamp_lt s (change_stamp d)) (sym own) ∙ l) (vals es) r.0 in
          let front = filter_none (λ d. is_before d c) (vals es) (none_back c (vals es) after) in
          let back = filter_all (λ d. is_before c d) (vals es) after in
          (rw (n, b) (rw (front, back) refl), (sym same, h.1))
      | Greater ↦ λ f.
          let b : is_before e.1 c ≡ true = ap (λ s. is_lt (stamp_cmp s k)) (sym h.0) ∙ ap is_lt (stamp_cmp_total.antisymm e.0 k ∙ ap ordering_reverse f) in
          let n : is_before c e.1 ≡ false = before_not_back e.1 c b in
          (rw (b, n) (ap (λ (ds : List Change). e.1 ∷ ds) rest.0), (h.0, rest.1))
    ] refl

-- ---- in order already

all_before : (front : List Change) (x : Change) → InOrder (front ++ x ∷ []) → AllByRecursion (λ d. is_before d x ≡ true) front
all_before [] x r = tt
all_before (a ∷ front) x r = ((all_back (λ d. is_before a d ≡ true) front (x ∷ []) r.0).0, all_before front x r.1)

-- behind them all it is put at the end
added_last : (front : List Change) (c : Change) → InOrder (front ++ c ∷ []) → add front c ≡ front ++ c ∷ []
added_last front c r =
    let before = all_before front c r in
    let after = all_more (λ d. is_before d c ≡ true) (λ d. is_before c d ≡ false) (λ d e. before_not_back d c e) front before in
    rw (filter_all (λ d. is_before d c) front before, filter_none (λ d. is_before c d) front after) refl

all_front : (P : Change → Type 0) (k : ℕ) (xs : List Change) → AllByRecursion P xs → AllByRecursion P (take k xs)
all_front P zero xs h = tt
all_front P (suc k) [] h = tt
all_front P (suc k) (x ∷ xs) h = (h.0, all_front P k xs h.1)

front_in_order : (k : ℕ) (xs : List Change) → InOrder xs → InOrder (take k xs)
front_in_order zero xs r = tt
front_in_order (suc k) [] r = tt
front_in_order (suc k) (x ∷ xs) r = (all_front (λ d. is_before x d ≡ true) k xs r.0, front_in_order k xs r.1)

pub added_next : (xs : List Change) (i : ℕ) (c : Change) → AreInTimeOrder xs → slice_get xs i ≡ Some c → add (take i xs) c ≡ take (i + 1) xs
added_next xs i c sorted at =
    let more : take (i + 1) xs ≡ take i xs ++ c ∷ [] = take_more xs i c (slice_get_within xs i c at) ∙ ap (λ (y : Change). take i xs ++ y ∷ []) (get_or_from_slice_get xs i c c at) in
    added_last (take i xs) c (subst InOrder more (front_in_order (i + 1) xs (order_from xs sorted))) ∙ sym more
