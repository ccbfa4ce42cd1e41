-- Entries of a map by names, as the list of their changes.
use Rattle.std.specs.Prelude.{◌≡◌, ℕ, Bool, true, false, not, cond, List, [], ◌∷◌, map, Some, refl}
use Rattle.std.proofs.Common.{sym, ◌∙◌, ap}
use Rattle.std.specs.List.{AllByRecursion, find}
use Rattle.std.specs.List.Sorted.{IsStrictlySortedBy}
use Rattle.std.specs.Map.{lookup, remove_entry, keys_of}
use Rattle.std.specs.BTreeMap.{is_at, insert_entry}
use Rattle.std.specs.Ordering.{is_lt, is_eq, match_ordering}
use Rattle.std.specs.declared.cmp.Ordering.TheVariants.{Less, Equal, Greater}
use Rattle.model.specs.Change.{Change, has_name, name_of}
use Rattle.model.specs.Settle.{name_before}
use Rattle.model_laws.proofs.ListLaws.{filter_all, all_more}
use Rattle.causal_inbox.specs.Names.{key_of, name_by, key_cmp, NamesRise, others}
use Rattle.causal_inbox.proofs.NameLaws.{key_same, before_key, put, Lacks, lacks_behind, not_back, one_first, name_turned}

abbrev pub Entries : Type 0
Entries = List ((ℕ × ℕ) × Change)

abbrev pub vals : Entries → List Change
vals es = map (λ e. e.1) es

abbrev pub Keyed : Entries → Type 0
Keyed es = AllByRecursion (λ e. e.0 ≡ key_of e.1) es

at_name : (k q : ℕ × ℕ) (c : Change) → q ≡ key_of c → is_at (key_cmp k) q ≡ has_name (name_by k) c
at_name k q c e = ap (λ (p : ℕ × ℕ). is_eq (key_cmp k p)) e ∙ key_same k c

pub found : (k : ℕ × ℕ) (es : Entries) → Keyed es → lookup (is_at (key_cmp k)) es ≡ find (has_name (name_by k)) (vals es)
found k [] h = refl
found k (e ∷ es) h =
    let p = at_name k e.0 e.1 h.0 in
    let q = found k es h.1 in
    λ i. cond (p i) (Some e.1) (q i)

less_before : (k q : ℕ × ℕ) (c d : Change) → k ≡ key_of c → q ≡ key_of d → name_before c d ≡ is_lt (key_cmp k q)
less_before k q c d e f = before_key c d ∙ (λ i. is_lt (key_cmp (sym e i) (sym f i)))

pub rise : (es : Entries) → Keyed es → IsStrictlySortedBy key_cmp (keys_of es) → NamesRise (vals es)
unfolding IsStrictlySortedBy
rise [] h s = tt
rise (e ∷ es) h s = (behind es h.1 s.0, rise es h.1 s.1)
  where
    behind : (fs : Entries) → Keyed fs → AllByRecursion (λ y. key_cmp e.0 y ≡ Less) (keys_of fs) → AllByRecursion (λ d. name_before e.1 d ≡ true) (vals fs)
    behind [] k l = tt
    behind (f ∷ fs) k l = (less_before e.0 f.0 e.1 f.1 h.0 k.0 ∙ ap is_lt l.0, behind fs k.1 l.1)

-- ---- an entry more

pub inserted : (c : Change) (es : Entries) → Keyed es → Lacks (key_of c) (vals es) → (vals (insert_entry key_cmp es (key_of c) c) ≡ put c (vals es)) × Keyed (insert_entry key_cmp es (key_of c) c)
inserted c [] h l = (refl, (refl, tt))
inserted c (e ∷ es) h l =
    let k = key_of c in
    let more = insert_entry key_cmp es k c in
    let rest = inserted c es h.1 l.1 in
    elim (key_cmp k e.0) as (λ o. key_cmp k e.0 ≡ o → (vals (match_ordering o ((k, c) ∷ e ∷ es) ((e.0, c) ∷ es) (e ∷ more)) ≡ put c (vals (e ∷ es))) × Keyed (match_ordering o ((k, c) ∷ e ∷ es) ((e.0, c) ∷ es) (e ∷ more))) [
      | Less ↦ λ f.
          let b = less_before k e.0 c e.1 refl h.0 ∙ ap is_lt f in
          let n = not_back c e.1 b in
          (sym (ap (λ t. cond t (e.1 ∷ put c (vals es)) (c ∷ e.1 ∷ vals es)) n), (refl, h))
      | Equal ↦ λ f.
          let same = sym (at_name k e.0 e.1 h.0) ∙ ap is_eq f in
          absurd (true_false same l.0)
      | Greater ↦ λ f.
          let b = less_before k e.0 c e.1 refl h.0 ∙ ap is_lt f in
          let first = first_of c e.1 b l.0 in
          (sym (ap (λ t. cond t (e.1 ∷ put c (vals es)) (c ∷ e.1 ∷ vals es)) first ∙ ap (λ (us : List Change). e.1 ∷ us) (sym rest.0)), (h.0, rest.1))
    ] refl
  where
    true_false : {b : Bool} → b ≡ true → b ≡ false → ⊥
    true_false h k = cc

    first_of : (x y : Change) → name_before x y ≡ false → has_name (name_of x) y ≡ false → name_before y x ≡ true
    first_of x y b n = one_first y x b (name_turned x y n)

-- ---- an entry less

pub removed : (k : ℕ × ℕ) (es : Entries) → Keyed es → NamesRise (vals es) → (vals (remove_entry (is_at (key_cmp k)) es) ≡ others k (vals es)) × Keyed (remove_entry (is_at (key_cmp k)) es)
removed k [] h r = (refl, tt)
removed k (e ∷ es) h r =
    let rest = removed k es h.1 r.1 in
    let less = remove_entry (is_at (key_cmp k)) es in
    let at = at_name k e.0 e.1 h.0 in
    elim (has_name (name_by k) e.1) as (λ b. has_name (name_by k) e.1 ≡ b → (vals (cond (is_at (key_cmp k) e.0) es (e ∷ less)) ≡ cond (not b) (e.1 ∷ others k (vals es)) (others k (vals es))) × Keyed (cond (is_at (key_cmp k) e.0) es (e ∷ less))) [
      | true ↦ λ t.
          let here : is_at (key_cmp k) e.0 ≡ true = at ∙ t in
          rw here (sym (kept (vals es) (lacks_behind k e.1 (vals es) t r.0)), h.1)
      | false ↦ λ t.
          let there : is_at (key_cmp k) e.0 ≡ false = at ∙ t in
          rw there (ap (λ (us : List Change). e.1 ∷ us) rest.0, (h.0, rest.1))
    ] refl
  where
    kept : (ds : List Change) → Lacks k ds → others k ds ≡ ds
    kept ds l = filter_all (λ d. not (has_name (name_by k) d)) ds (all_more (λ d. has_name (name_by k) d ≡ false) (λ d. not (has_name (name_by k) d) ≡ true) (λ d f. ap not f) ds l)
