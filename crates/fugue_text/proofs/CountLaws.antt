-- How many characters aren't erased: among the rows, and in the walk.
use Rattle.std.specs.Prelude.{◌≡◌, ℕ, suc, ◌+◌, ◌≤◌, Bool, true, false, not, cond, ◌&&◌, ◌||◌, Option, Some, None, is_some, List, [], ◌∷◌, map, filter, length, refl}
use Rattle.std.proofs.Common.{sym, ◌∙◌, ap, inl, inr, arith}
use Rattle.std.proofs.lemmas.Map.Entries.{length-keys_of}
use Rattle.std.proofs.lemmas.Map.Made.{IsDistinct-keys_filter}
use Rattle.std.proofs.lemmas.Map.Views.{any-filter_same}
use Rattle.std.proofs.lemmas.Map.Steps.{length-le_from_keys}
use Rattle.std.specs.List.{AllByRecursion, IsDistinct, list_any}
use Rattle.std.specs.Map.{lookup, keys_of}
use Rattle.std.specs.Option.{option_map}
use Rattle.std.specs.FinMap.{find, put, is_sorted}
use Rattle.std.specs.FinMap.Entries.{by_order, below_all}
use Rattle.std.specs.declared.cmp.Ordering.TheVariants.{Less, Equal, Greater}
use Rattle.op_ids.specs.declared.OpId.{OpId}
use Rattle.op_ids.specs.Order.{id_cmp, id_eq}
use Rattle.op_ids.proofs.OrderLaws.{id_cmp_exact, eq_by_cmp-id, lt_apart, id_eq-exact, id_eq-itself, id_equiv}
use Rattle.model.specs.State.{Character, killed}
use Rattle.model.specs.View.{is_live}
use Rattle.model.specs.Walk.{walk}
use Rattle.walk_laws.specs.Insertion.{IsInsertionTree}
use Rattle.walk_laws.proofs.Walks.{key_eq, key_cases, key_itself, lt_back, both}
use Rattle.walk_laws.proofs.InsertionLaws.{walk_has_each_once}
use Rattle.fugue_text.specs.Runs.{TextRows, edited, is_alive, live_ids, places, weight_of}
use Rattle.fugue_text.proofs.RowLaws.{below_found, find-mapped, sorted-mapped}
use Rattle.fugue_text.proofs.RunLaws.{edited_none}

abbrev pub alive_in : TextRows → ℕ
alive_in rows = length (filter is_alive rows)

alive_first : (e : OpId × Character) (rows : TextRows) → alive_in (e ∷ rows) ≡ weight_of e.1.dead + alive_in rows
alive_first e rows =
    elim e.1.dead as (λ b. length (cond (not b) (e ∷ filter is_alive rows) (filter is_alive rows)) ≡ weight_of b + alive_in rows) [ true ↦ omega arith | false ↦ omega arith ]

pub rising_of : (rows : TextRows) → IsInsertionTree (places rows) → is_sorted id_cmp rows ≡ true
rising_of rows t = sym (sorted-mapped (λ (c : Character). c.at) rows) ∙ t.rising

-- ---- a change

pub alive_put : (id : OpId) (x : Character) (rows : TextRows) → find id_cmp id rows ≡ None → alive_in (put id_cmp id x rows) ≡ weight_of x.dead + alive_in rows
alive_put id x [] n = alive_first (id, x) []
alive_put id x (e ∷ rows) n =
    elim (id_cmp id e.0) as (λ o. id_cmp id e.0 ≡ o → alive_in (by_order o ((id, x) ∷ e ∷ rows) ((e.0, x) ∷ rows) (e ∷ put id_cmp id x rows)) ≡ weight_of x.dead + alive_in (e ∷ rows)) [
      | Less ↦ λ s. alive_first (id, x) (e ∷ rows)
      | Equal ↦ λ s.
          let own : key_eq id e.0 ≡ true = ap (λ y. key_eq y e.0) (id_cmp_exact id e.0 s) ∙ key_itself e.0 in
          let no : Some e.1 ≡ None = rw own at n in
          absurd (let c : Some e.1 ≡ None = no in cc)
      | Greater ↦ λ s.
          elim (key_cases id e.0) as (λ _. alive_in (e ∷ put id_cmp id x rows) ≡ weight_of x.dead + alive_in (e ∷ rows)) [
            | inl same ↦
                let own : key_eq id e.0 ≡ true = ap (λ y. key_eq y e.0) same ∙ key_itself e.0 in
                let no : Some e.1 ≡ None = rw own at n in
                absurd (let c : Some e.1 ≡ None = no in cc)
            | inr ne ↦
                let n' : find id_cmp id rows ≡ None = rw ne at n in
                let rest = alive_put id x rows n' in
                let one = alive_first e (put id_cmp id x rows) in
                let two = alive_first e rows in
                omega (arith, rest, one, two)
          ]
    ] refl

none_above : (i : OpId) (rows : TextRows) → below_all id_cmp i rows ≡ true → find id_cmp i rows ≡ None
none_above i [] h = refl
none_above i (e ∷ rows) h =
    let k = both _ _ h in
    let apart : key_eq i e.0 ≡ false = eq_by_cmp-id i e.0 ∙ lt_apart i e.0 k.0 in
    rw apart (none_above i rows k.1)

pub alive_killed : (id : OpId) (c : Character) (rows : TextRows) → is_sorted id_cmp rows ≡ true → find id_cmp id rows ≡ Some c → alive_in (edited rows id killed) + weight_of c.dead ≡ alive_in rows
alive_killed id c [] h f = cc
alive_killed id c (e ∷ rows) h f =
    let k = both _ _ h in
    elim (key_cases id e.0) as (λ _. alive_in (edited (e ∷ rows) id killed) + weight_of c.dead ≡ alive_in (e ∷ rows)) [
      | inl s ↦
          let own : key_eq id e.0 ≡ true = ap (λ y. key_eq y e.0) s ∙ key_itself e.0 in
          let is : Some e.1 ≡ Some c = rw own at f in
          let same : e.1 ≡ c = cc in
          let rest : edited rows id killed ≡ rows = edited_none id killed rows (ap (λ y. find id_cmp y rows) s ∙ none_above e.0 rows k.0) in
          let two : alive_in (e ∷ rows) ≡ weight_of c.dead + alive_in rows = alive_first e rows ∙ ap (λ (x : Character). weight_of x.dead + alive_in rows) same in
          let one : alive_in (edited rows id killed) ≡ alive_in rows = ap alive_in rest in
          rw own (omega (arith, one, two))
      | inr ne ↦
          let f' : find id_cmp id rows ≡ Some c = rw ne at f in
          let rest = alive_killed id c rows k.1 f' in
          let one = alive_first e (edited rows id killed) in
          let two = alive_first e rows in
          rw ne (omega (arith, rest, one, two))
    ]

-- a row marked counts no more, if it was alive
pub alive_change : (id : OpId) (rows : TextRows) → is_sorted id_cmp rows ≡ true → alive_in (edited rows id killed) + cond (is_live (find id_cmp id rows)) 1 0 ≡ alive_in rows
alive_change id rows h =
    elim (find id_cmp id rows) as (λ o. find id_cmp id rows ≡ o → alive_in (edited rows id killed) + cond (is_live o) 1 0 ≡ alive_in rows) [
      | None ↦ λ s. (let same : alive_in (edited rows id killed) ≡ alive_in rows = ap alive_in (edited_none id killed rows s) in omega (arith, same))
      | Some c ↦ λ s.
          let all = alive_killed id c rows h s in
          let same : cond (not c.dead) 1 0 ≡ weight_of c.dead = elim c.dead as (λ b. cond (not b) 1 0 ≡ weight_of b) [ true ↦ refl | false ↦ refl ] in
          omega (arith, all, same)
    ] refl

-- ---- in the walk

module _ (p : OpId → Bool) where
  all_apart : (q : OpId) (xs : List OpId) → AllByRecursion (λ y. id_eq q y ≡ false) xs → AllByRecursion (λ y. id_eq q y ≡ false) (filter p xs)
  all_apart q [] h = tt
  all_apart q (x ∷ xs) h = elim (p x) as (λ b. AllByRecursion (λ y. id_eq q y ≡ false) (cond b (x ∷ filter p xs) (filter p xs))) [ true ↦ (h.0, all_apart q xs h.1) | false ↦ all_apart q xs h.1 ]

  distinct_filter : (xs : List OpId) → IsDistinct id_eq xs → IsDistinct id_eq (filter p xs)
  unfolding IsDistinct
  distinct_filter [] h = tt
  distinct_filter (x ∷ xs) h = elim (p x) as (λ b. IsDistinct id_eq (cond b (x ∷ filter p xs) (filter p xs))) [ true ↦ (all_apart x xs h.0, distinct_filter xs h.1) | false ↦ distinct_filter xs h.1 ]

  any_filter : (q : OpId) (xs : List OpId) → list_any (id_eq q) (filter p xs) ≡ (p q && list_any (id_eq q) xs)
  any_filter q xs = any-filter_same (id_eq q) p (p q) (λ k t. ap p (sym (id_eq-exact q k t))) xs

keys_apart : (i : OpId) (rows : TextRows) → below_all id_cmp i rows ≡ true → AllByRecursion (λ y. id_eq i y ≡ false) (keys_of rows)
keys_apart i [] h = tt
keys_apart i (e ∷ rows) h = (let k = both _ _ h in (lt_apart i e.0 k.0, keys_apart i rows k.1))

distinct_rows : (rows : TextRows) → is_sorted id_cmp rows ≡ true → IsDistinct id_eq (keys_of rows)
unfolding IsDistinct
distinct_rows [] h = tt
distinct_rows (e ∷ rows) h = (let k = both _ _ h in (keys_apart e.0 rows k.0, distinct_rows rows k.1))

abbrev pairs : List OpId → List (OpId × OpId)
pairs xs = map (λ i. (i, i)) xs

lookup_pairs : (q : OpId) (xs : List OpId) → is_some (lookup (id_eq q) (pairs xs)) ≡ list_any (id_eq q) xs
lookup_pairs q [] = refl
lookup_pairs q (x ∷ xs) = elim (id_eq q x) as (λ b. is_some (cond b (Some x) (lookup (id_eq q) (pairs xs))) ≡ (b || list_any (id_eq q) xs)) [ true ↦ refl | false ↦ lookup_pairs q xs ]

length_pairs : (xs : List OpId) → length (pairs xs) ≡ length xs
length_pairs [] = refl
length_pairs (x ∷ xs) = ap suc (length_pairs xs)

abbrev Alive : TextRows → OpId → Type 0
Alive rows q = (c : Character) × (find id_cmp q rows ≡ Some c) × (c.dead ≡ false)

not_true : (b : Bool) → not b ≡ true → b ≡ false
not_true true h = cc
not_true false h = refl

lookup_alive : (q : OpId) (c : Character) (rows : TextRows) → find id_cmp q rows ≡ Some c → c.dead ≡ false → is_some (lookup (id_eq q) (filter is_alive rows)) ≡ true
lookup_alive q c [] f d = cc
lookup_alive q c (e ∷ rows) f d =
    elim (key_cases q e.0) as (λ _. is_some (lookup (id_eq q) (filter is_alive (e ∷ rows))) ≡ true) [
      | inl s ↦
          let own : key_eq q e.0 ≡ true = ap (λ y. key_eq y e.0) s ∙ key_itself e.0 in
          let is : Some e.1 ≡ Some c = rw own at f in
          let same : e.1 ≡ c = cc in
          let alive : is_alive e ≡ true = ap not (ap (λ (x : Character). x.dead) same ∙ d) in
          let here : id_eq q e.0 ≡ true = ap (λ y. id_eq y e.0) s ∙ id_eq-itself e.0 in
          rw alive (rw here refl)
      | inr ne ↦
          let f' : find id_cmp q rows ≡ Some c = rw ne at f in
          let rest = lookup_alive q c rows f' d in
          elim (is_alive e) as (λ b. is_some (lookup (id_eq q) (cond b (e ∷ filter is_alive rows) (filter is_alive rows))) ≡ true) [
            | true ↦ elim (id_eq q e.0) as (λ b. is_some (cond b (Some e.1) (lookup (id_eq q) (filter is_alive rows))) ≡ true) [ true ↦ refl | false ↦ rest ]
            | false ↦ rest
          ]
    ]

behind_first : (e : OpId × Character) (rows : TextRows) (q : OpId) → below_all id_cmp e.0 rows ≡ true → Alive rows q → Alive (e ∷ rows) q
behind_first e rows q h a = (a.0, (let apart = lt_back e.0 q (below_found e.0 q a.0 rows h a.1) in rw apart a.1), a.2)

alive_found : (q : OpId) (rows : TextRows) → is_sorted id_cmp rows ≡ true → list_any (id_eq q) (keys_of (filter is_alive rows)) ≡ true → Alive rows q
alive_found q [] h l = cc
alive_found q (e ∷ rows) h l =
    let k = both _ _ h in
    elim (is_alive e) as (λ b. is_alive e ≡ b → list_any (id_eq q) (keys_of (cond b (e ∷ filter is_alive rows) (filter is_alive rows))) ≡ true → Alive (e ∷ rows) q) [
      | true ↦ λ s.
          elim (id_eq q e.0) as (λ b. id_eq q e.0 ≡ b → (b || list_any (id_eq q) (keys_of (filter is_alive rows))) ≡ true → Alive (e ∷ rows) q) [
            | true ↦ λ t m. (let own : key_eq q e.0 ≡ true = eq_by_cmp-id q e.0 ∙ t in (e.1, rw own refl, not_true e.1.dead s))
            | false ↦ λ t m. behind_first e rows q k.0 (alive_found q rows k.1 m)
          ] refl
      | false ↦ λ s m. behind_first e rows q k.0 (alive_found q rows k.1 m)
    ] refl l

live_some : (o : Option Character) → is_live o ≡ true → (c : Character) × (o ≡ Some c) × (c.dead ≡ false)
live_some None h = cc
live_some (Some c) h = (c, refl, not_true c.dead h)

pub live_length : (rows : TextRows) → IsInsertionTree (places rows) → alive_in rows ≡ length (live_ids rows)
live_length rows t =
    let rise = rising_of rows t in
    let ids = walk (places rows) in
    let once = walk_has_each_once (places rows) t in
    let p : OpId → Bool = λ id. is_live (find id_cmp id rows) in
    let most : length (filter p ids) ≤ length (filter is_alive rows) =
    length-le_from_keys {eq = id_eq} id_equiv (filter p ids) (filter is_alive rows) (distinct_filter p ids once.distinct)
    (λ q h.
    let l = live_some (find id_cmp q rows) (both _ _ (sym (any_filter p q ids) ∙ h)).0 in
    lookup_alive q l.0 rows l.1 l.2) in
    let least : length (keys_of (filter is_alive rows)) ≤ length (pairs (filter p ids)) =
    length-le_from_keys {eq = id_eq} id_equiv (keys_of (filter is_alive rows)) (pairs (filter p ids)) (IsDistinct-keys_filter id_eq is_alive rows (distinct_rows rows rise))
    (λ q h.
    let a = alive_found q rows rise h in
    let live : p q ≡ true = ap is_live a.1 ∙ ap not a.2 in
    let row : list_any (id_eq q) ids ≡ true = once.each q ∙ ap is_some (find-mapped (λ (c : Character). c.at) q rows ∙ ap (λ o. option_map (λ (c : Character). c.at) o) a.1) in
    lookup_pairs q (filter p ids) ∙ any_filter p q ids ∙ rw (live, row) refl) in
    let one = length-keys_of (filter is_alive rows) in
    let two = length_pairs (filter p ids) in
    omega (arith, most, least, one, two)
