-- Which changes wait, told by counts.
use Rattle.std.proofs.Common.{◌≡◌, ℕ, suc, ◌+◌, ◌≤◌, Bool, true, false, eqb, ◌&&◌, not, leb, ltb, zero, zero-add, List, [], ◌∷◌, ◌++◌, cond, length, map, take, refl, sym, ap, ◌∙◌, arith}
use Rattle.std.specs.Prelude.{Some, filter, slice_get, slice_index}
use Rattle.std.specs.List.{AllByRecursion, list_all, range_with_len}
use Rattle.std.proofs.lemmas.Bool.{eq-eqb, lt-leb}
use Rattle.std.proofs.lemmas.List.{append-nil}
use Rattle.std.proofs.lemmas.List.FromFn.{get_or-map-range_with_len}
use Rattle.model.specs.Base.{members}
use Rattle.model.specs.Change.{Change, IsChange}
use Rattle.model.specs.Held.{Held, is_missing, waits}
use Rattle.arrival_laws.proofs.AddLaws.{filter-append}
use Rattle.causal_inbox.specs.Counted.{Counts, counted}
use Rattle.causal_inbox.proofs.ReadyLaws.{has_causes}
use Rattle.replica.proofs.PartLaws.{take_next}

-- the counts of what is held, as a list
pub counts_of : (past : Held) (counts : List ℕ) → counts ≡ map (λ m. (past.row m).count) (members (length counts)) → Counts past counts
counts_of past counts e m lt = sym (ap (λ (ks : List ℕ). slice_index ks m) e ∙ get_or-map-range_with_len (λ k. (past.row k).count) 0 (length counts) m m 0 lt (zero-add m))

module _ (past : Held) (counts : List ℕ) (are : Counts past counts) where
  causes_alike : (c : Change) (n a : ℕ) → a + n ≤ length counts → list_all (λ k. not (is_missing past c k)) (range_with_len a n) ≡ list_all (λ k. not (is_missing (counted counts) c k)) (range_with_len a n)
  causes_alike c zero a le = refl
  causes_alike c (suc n) a le =
      let e = are a (omega arith) in
      let f = causes_alike c n (a + 1) (omega arith) in
      λ i. not (ltb (e i) (slice_index c.causes a)) && f i

  -- Whether a change waits is told by the counts alone.
  pub waits_alike : (c : Change) → IsChange (length counts) c → waits (length counts) past c ≡ waits (length counts) (counted counts) c
  waits_alike c is =
      let e = are c.member is.member in
      let f = causes_alike c (length counts) 0 (omega arith) in
      λ i. not (leb c.number (e i)) && not (eqb c.number (e i + 1) && f i)

  pub filter_alike : (cs : List Change) → AllByRecursion (IsChange (length counts)) cs → filter (waits (length counts) (counted counts)) cs ≡ filter (waits (length counts) past) cs
  filter_alike [] all = refl
  filter_alike (c ∷ cs) all = (let e = sym (waits_alike c all.0) in let f = filter_alike cs all.1 in λ i. cond (e i) (c ∷ f i) (f i))

-- ---- one after the other

pub filter_next : (p : Change → Bool) (cs : List Change) (i : ℕ) (c : Change) → slice_get cs i ≡ Some c → p c ≡ true → filter p (take (i + 1) cs) ≡ filter p (take i cs) ++ c ∷ []
filter_next p cs i c at passes = ap (filter p) (take_next cs i c at) ∙ filter-append p (take i cs) (c ∷ []) ∙ rw passes refl

pub filter_skips : (p : Change → Bool) (cs : List Change) (i : ℕ) (c : Change) → slice_get cs i ≡ Some c → p c ≡ false → filter p (take (i + 1) cs) ≡ filter p (take i cs)
filter_skips p cs i c at fails = ap (filter p) (take_next cs i c at) ∙ filter-append p (take i cs) (c ∷ []) ∙ rw fails (append-nil (filter p (take i cs)))

-- ---- by the causes

by_parts : (held : List ℕ) (c : Change) {b : Bool} → c.number ≡ slice_index held c.member + 1 → has_causes held c ≡ b → waits (length held) (counted held) c ≡ not b
by_parts held c next causes =
    let unknown : leb c.number (slice_index held c.member) ≡ false = lt-leb c.number (slice_index held c.member) (omega (arith, next)) in
    let own : eqb c.number (slice_index held c.member + 1) ≡ true = eq-eqb c.number (slice_index held c.member + 1) next in
    λ i. not (unknown i) && not (own i && causes i)

-- The next change of its member waits where it lacks a cause.
pub waits_by_causes : (held : List ℕ) (c : Change) (b : Bool) → c.number ≡ slice_index held c.member + 1 → (b ≡ true → has_causes held c ≡ true) → (b ≡ false → has_causes held c ≡ false) → waits (length held) (counted held) c ≡ not b
waits_by_causes held c true next has lacks = by_parts held c next (has refl)
waits_by_causes held c false next has lacks = by_parts held c next (lacks refl)
