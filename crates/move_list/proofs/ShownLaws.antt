-- Elements by their positions, and which are shown.
use Rattle.std.specs.Prelude.{◌≡◌, ◌&&◌, not, Bool, true, false, cond, Option, Some, None, is_some, List, [], ◌∷◌, ◌++◌, map, filter_map, find, refl, ◌⊎◌, ℕ, ◌+◌, ◌<◌, ◌≤◌, length, take}
use Rattle.std.proofs.Common.{sym, ◌∙◌, ap, subst, inl, inr, get_or, arith}
use Rattle.std.proofs.lemmas.List.{take_more, append-nil}
use Rattle.std.proofs.lemmas.List.Elements.{filter_map-append}
use Rattle.std.specs.Option.{option_map, option_copied}
use Rattle.std.specs.List.{AllByRecursion, cons_option, slice_get}
use Rattle.std.specs.Slice.{IsItemAt}
use Rattle.std.specs.Borrow.{Bor}
use Rattle.std.proofs.lemmas.Option.{slice_get_past, slice_get_read}
use Rattle.std.proofs.lemmas.Bool.Decides.{nat_tests}
use Rattle.std.specs.FinMap as maps
use Rattle.std.specs.FinMap.{FinMap, get, entries, entries_sorted, get-entries, is_sorted}
use Rattle.std.specs.FinMap.Entries.{below_all}
use Rattle.op_ids.specs.declared.OpId.{OpId}
use Rattle.op_ids.specs.Order.{id_cmp, id_eq, id_lt}
use Rattle.op_ids.proofs.OrderLaws.{id_eq-exact, id_eq-itself, same_or_apart, lt_apart, eq_by_cmp-id, lt_itself}
use Rattle.model.specs.Value.{Value}
use Rattle.model.specs.State.{Element}
use Rattle.model.specs.Walk.{Rows, walk}
use Rattle.walk_laws.proofs.Walks.{key_eq, key_itself, key_cases, both, lt_back}
use Rattle.walk_laws.proofs.InsertionLaws.{T_true}
use Rattle.move_list.specs.Kept.{AreAt, OwnPositions, NodeRows, is_shown_at, shown_at, shown, item_at}
use Rattle.move_list.proofs.PlaceLaws.{Elements}

abbrev pub Entry : Type 0
Entry = OpId × Element

-- ---- no two at one position

-- what is found in rising entries is above what they are above
found_above : (k q : OpId) (es : List Entry) (f : Element) → below_all id_cmp k es ≡ true → maps.find id_cmp q es ≡ Some f → id_lt k q ≡ true
found_above k q [] f h t = cc
found_above k q (e ∷ es) f h t =
    let b = both _ _ h in
    elim (key_cases q e.0) as (λ _. id_lt k q ≡ true) [
      | inl s ↦ ap (id_lt k) s ∙ b.0
      | inr ne ↦ (let more : maps.find id_cmp q es ≡ Some f = rw ne at t in found_above k q es f b.1 more)
    ]

found_behind : (e : Entry) (es : List Entry) (q : OpId) (f : Element) → below_all id_cmp e.0 es ≡ true → maps.find id_cmp q es ≡ Some f → maps.find id_cmp q (e ∷ es) ≡ Some f
found_behind e es q f h t = let ne : key_eq q e.0 ≡ false = lt_back e.0 q (found_above e.0 q es f h t) in rw ne t

found_all : (e : Entry) (es ds : List Entry) → below_all id_cmp e.0 es ≡ true → AllByRecursion (λ d. maps.find id_cmp d.0 es ≡ Some d.1) ds → AllByRecursion (λ d. maps.find id_cmp d.0 (e ∷ es) ≡ Some d.1) ds
found_all e es [] h k = tt
found_all e es (d ∷ ds) h k = (found_behind e es d.0 d.1 h k.0, found_all e es ds h k.1)

each_found : (es : List Entry) → is_sorted id_cmp es ≡ true → AllByRecursion (λ e. maps.find id_cmp e.0 es ≡ Some e.1) es
each_found [] h = tt
each_found (e ∷ es) h =
    let b = both _ _ h in
    (let own = key_itself e.0 in rw own refl, found_all e es es b.0 (each_found es b.1))

abbrev Apart : List Entry → Type 0
Apart es = (q r : OpId) (e f : Element) → maps.find id_cmp q es ≡ Some e → maps.find id_cmp r es ≡ Some f → e.position ≡ f.position → q ≡ r

apart_from : (e : Entry) (es ds : List Entry) → Apart (e ∷ es) → below_all id_cmp e.0 es ≡ true → AllByRecursion (λ d. maps.find id_cmp d.0 es ≡ Some d.1) ds → AllByRecursion (λ d. id_eq e.1.position d.1.position ≡ false) ds
apart_from e es [] h b k = tt
apart_from e es (d ∷ ds) h b k = (
  elim (same_or_apart e.1.position d.1.position) as (λ _. id_eq e.1.position d.1.position ≡ false) [
    | inl s ↦
        let first : maps.find id_cmp e.0 (e ∷ es) ≡ Some e.1 = (let own = key_itself e.0 in rw own refl) in
        let same : e.0 ≡ d.0 = h e.0 d.0 e.1 d.1 first (found_behind e es d.0 d.1 b k.0) s in
        let no : true ≡ false = sym (found_above e.0 d.0 es d.1 b k.0) ∙ ap (id_lt e.0) (sym same) ∙ lt_itself e.0 in
        cc
    | inr ne ↦ ne
  ],
  apart_from e es ds h b k.1,
)

own_sorted : (es : List Entry) → is_sorted id_cmp es ≡ true → Apart es → OwnPositions es
own_sorted [] h k = tt
own_sorted (e ∷ es) h k =
    let b = both _ _ h in (
      apart_from e es es k b.0 (each_found es b.1),
      own_sorted es b.1 (λ q r x y t u s. k q r x y (found_behind e es q x b.0 t) (found_behind e es r y b.0 u) s),
    )

pub own_positions : (p : Rows) (m : Elements) → AreAt p m → OwnPositions (entries m)
own_positions p m h =
    own_sorted (entries m) (T_true _ (entries_sorted m))
    (λ q r e f t u s. h.own_position q r e f (get-entries m q ∙ t) (get-entries m r ∙ u) s)

-- ---- by position

abbrev pub or_else : Option OpId → Option OpId → Option OpId
or_else None o = o
or_else (Some i) o = Some i

-- What is found by position so far, and what is still to come, are all; and the positions to come are free.
pub record Sought (found : OpId → Option OpId) (rest all : List Entry) : Type 0 where
  pub whole : (p : OpId) → or_else (found p) (shown_at rest p) ≡ shown_at all p
  pub free : AllByRecursion (λ e. found e.1.position ≡ None) rest
  pub own : OwnPositions rest

nothing_else : (o : Option OpId) → or_else o None ≡ o
nothing_else None = refl
nothing_else (Some i) = refl

all_none : (es : List Entry) → AllByRecursion (λ e. ◌≡◌ {A = Option OpId} None None) es
all_none [] = tt
all_none (e ∷ es) = (refl, all_none es)

pub sought_first : (found : OpId → Option OpId) (all : List Entry) → ((p : OpId) → found p ≡ None) → OwnPositions all → Sought found all all
sought_first found all none own = record {
  whole = λ p. ap (λ o. or_else o (shown_at all p)) (none p);
  free = free_of all;
  own = own;
}
  where
    free_of : (es : List Entry) → AllByRecursion (λ e. found e.1.position ≡ None) es
    free_of [] = tt
    free_of (e ∷ es) = (none e.1.position, free_of es)

pub sought_all : (found : OpId → Option OpId) (all : List Entry) → Sought found [] all → (p : OpId) → found p ≡ shown_at all p
sought_all found all s p = sym (nothing_else (found p)) ∙ s.whole p

-- a dropped one changes nothing
pub sought_dropped : (found : OpId → Option OpId) (e : Entry) (rest all : List Entry) → e.1.dropped ≡ true → Sought found (e ∷ rest) all → Sought found rest all
sought_dropped found e rest all d s = record {
  whole = λ p.
      let no : is_shown_at p e ≡ false = ap (λ b. id_eq e.1.position p && not b) d ∙ and_false (id_eq e.1.position p) in
      ap (λ b. or_else (found p) (option_map (λ (x : Entry). x.0) (cond b (Some e) (find (is_shown_at p) rest)))) (sym no) ∙ s.whole p;
  free = s.free.1;
  own = s.own.1;
}
  where
    and_false : (b : Bool) → (b && false) ≡ false
    and_false true = refl
    and_false false = refl

module _ (found more : OpId → Option OpId) (e : Entry) (rest all : List Entry) (live : e.1.dropped ≡ false) (written : (p : OpId) → more p ≡ cond (key_eq e.1.position p) (Some e.0) (found p)) (s : Sought found (e ∷ rest) all) where
  here : (p : OpId) → is_shown_at p e ≡ id_eq e.1.position p
  here p = ap (λ b. id_eq e.1.position p && not b) live ∙ and_true (id_eq e.1.position p)
    where
      and_true : (b : Bool) → (b && true) ≡ b
      and_true true = refl
      and_true false = refl

  at : (p : OpId) → or_else (more p) (shown_at rest p) ≡ shown_at all p
  at p =
      ap (λ o. or_else o (shown_at rest p)) (written p)
      ∙ elim (same_or_apart e.1.position p) as (λ _. or_else (cond (key_eq e.1.position p) (Some e.0) (found p)) (shown_at rest p) ≡ shown_at all p) [
        | inl same ↦
            let own : key_eq e.1.position p ≡ true = ap (λ x. key_eq x p) same ∙ key_itself p in
            let yes : is_shown_at p e ≡ true = here p ∙ ap (λ x. id_eq x p) same ∙ id_eq-itself p in
            let none : found p ≡ None = ap found (sym same) ∙ s.free.0 in
            rw own
            (ap (λ b. option_map (λ (x : Entry). x.0) (cond b (Some e) (find (is_shown_at p) rest))) (sym yes)
            ∙ ap (λ o. or_else o (shown_at (e ∷ rest) p)) (sym none) ∙ s.whole p)
        | inr ne ↦
            let other : key_eq e.1.position p ≡ false = eq_by_cmp-id e.1.position p ∙ ne in
            let no : is_shown_at p e ≡ false = here p ∙ ne in
            rw other (ap (λ b. or_else (found p) (option_map (λ (x : Entry). x.0) (cond b (Some e) (find (is_shown_at p) rest)))) (sym no) ∙ s.whole p)
      ]

  still_free : (es : List Entry) → AllByRecursion (λ d. id_eq e.1.position d.1.position ≡ false) es → AllByRecursion (λ d. found d.1.position ≡ None) es → AllByRecursion (λ d. more d.1.position ≡ None) es
  still_free [] h k = tt
  still_free (d ∷ es) h k = (
    written d.1.position ∙ (let other : key_eq e.1.position d.1.position ≡ false = eq_by_cmp-id e.1.position d.1.position ∙ h.0 in rw other k.0),
    still_free es h.1 k.1,
  )

  pub sought_more : Sought more rest all
  sought_more = record { whole = at; free = still_free rest s.own.0 s.free.1; own = s.own.1 }

-- ---- what is shown is there

first_there : (test : Entry → Bool) (es : List Entry) (e : Entry) → find test es ≡ Some e → is_some (maps.find id_cmp e.0 es) ≡ true
first_there test [] e h = cc
first_there test (d ∷ ds) e h =
    elim (test d) as (λ b. cond b (Some d) (find test ds) ≡ Some e → is_some (cond (key_eq e.0 d.0) (Some d.1) (maps.find id_cmp e.0 ds)) ≡ true) [
      | true ↦ λ t. (let same : d ≡ e = cc in let own : key_eq e.0 d.0 ≡ true = ap (λ (x : Entry). key_eq x.0 d.0) (sym same) ∙ key_itself d.0 in rw own refl)
      | false ↦ λ t. (let more = first_there test ds e t in elim (key_eq e.0 d.0) as (λ b. is_some (cond b (Some d.1) (maps.find id_cmp e.0 ds)) ≡ true) [ true ↦ refl | false ↦ more ])
    ] h

shown_there : (m : Elements) (p id : OpId) → shown_at (entries m) p ≡ Some id → is_some (get m id) ≡ true
shown_there m p id h =
    elim (find (is_shown_at p) (entries m)) as (λ o. find (is_shown_at p) (entries m) ≡ o → option_map (λ (e : Entry). e.0) o ≡ Some id → is_some (get m id) ≡ true) [
      | None ↦ λ s t. cc
      | Some e ↦ λ s t.
          (let same : e.0 ≡ id = cc in
          ap (λ x. is_some (get m x)) (sym same) ∙ ap is_some (get-entries m e.0) ∙ first_there (is_shown_at p) (entries m) e s)
    ] refl h

all_there : (m : Elements) (ps : List OpId) → AllByRecursion (λ id. is_some (get m id) ≡ true) (filter_map (shown_at (entries m)) ps)
all_there m [] = tt
all_there m (p ∷ ps) =
    elim (shown_at (entries m) p) as (λ o. shown_at (entries m) p ≡ o → AllByRecursion (λ id. is_some (get m id) ≡ true) (cons_option o (filter_map (shown_at (entries m)) ps))) [
      | None ↦ λ h. all_there m ps
      | Some id ↦ λ h. (shown_there m p id h, all_there m ps)
    ] refl

pub shown_are_there : (l : NodeRows) → AllByRecursion (λ id. is_some (get l.elements id) ≡ true) (shown l)
shown_are_there l = all_there l.elements (walk l.positions)

-- ---- lists that are walked

module _ {X Y : Type 0} (f : X → Option Y) (xs : List X) (i : ℕ) (d : X) (l : i < length xs) where
  pub filtered_some : (y : Y) → f (get_or xs i d) ≡ Some y → filter_map f (take (i + 1) xs) ≡ filter_map f (take i xs) ++ y ∷ []
  filtered_some y e =
      ap (filter_map f) (take_more xs i d l) ∙ filter_map-append f (take i xs) (get_or xs i d ∷ [])
      ∙ ap (λ ys. filter_map f (take i xs) ++ ys) (rw e refl)

  pub filtered_none : f (get_or xs i d) ≡ None → filter_map f (take (i + 1) xs) ≡ filter_map f (take i xs)
  filtered_none e =
      ap (filter_map f) (take_more xs i d l) ∙ filter_map-append f (take i xs) (get_or xs i d ∷ [])
      ∙ ap (λ ys. filter_map f (take i xs) ++ ys) (rw e refl) ∙ append-nil (filter_map f (take i xs))

  pub filtered_more : (o : Option Y) → f (get_or xs i d) ≡ o → filter_map f (take (i + 1) xs) ≡ filter_map f (take i xs) ++ cons_option o []
  filtered_more o e = ap (filter_map f) (take_more xs i d l) ∙ filter_map-append f (take i xs) (get_or xs i d ∷ []) ∙ ap (λ u. filter_map f (take i xs) ++ cons_option u []) e

pub filtered_same : {X Y : Type 0} (f g : X → Option Y) (xs : List X) → ((x : X) → f x ≡ g x) → filter_map f xs ≡ filter_map g xs
filtered_same f g [] h = refl
filtered_same f g (x ∷ xs) h = λ i. cons_option (h x i) (filtered_same f g xs h i)

-- ---- elements that are handed out

pub ids_handed : (m : Elements) (ids : List OpId) → AllByRecursion (λ id. is_some (get m id) ≡ true) ids → map (λ (x : OpId × Value). x.0) (filter_map (item_at m) ids) ≡ ids
ids_handed m [] h = refl
ids_handed m (id ∷ ids) h =
    elim (get m id) as (λ o. is_some o ≡ true → map (λ (x : OpId × Value). x.0) (cons_option (option_map (λ (e : Element). (id, e.value)) o) (filter_map (item_at m) ids)) ≡ id ∷ ids) [
      | None ↦ λ t. cc
      | Some e ↦ λ t. ap (λ is. id ∷ is) (ids_handed m ids h.1)
    ] h.0

pub values_handed : (m : Elements) (ids : List OpId) → map (λ (x : OpId × Value). x.1) (filter_map (item_at m) ids) ≡ filter_map (λ id. option_map (λ (e : Element). e.value) (get m id)) ids
values_handed m [] = refl
values_handed m (id ∷ ids) =
    elim (get m id) as (λ o. map (λ (x : OpId × Value). x.1) (cons_option (option_map (λ (e : Element). (id, e.value)) o) (filter_map (item_at m) ids)) ≡ cons_option (option_map (λ (e : Element). e.value) o) (filter_map (λ q. option_map (λ (e : Element). e.value) (get m q)) ids)) [
      | None ↦ values_handed m ids
      | Some e ↦ ap (λ vs. e.value ∷ vs) (values_handed m ids)
    ]

-- ---- the element at a place

pub item_at_place : (xs : List OpId) (i : ℕ) (r : Option (Bor OpId)) → IsItemAt xs i r → option_copied r ≡ slice_get xs i
item_at_place xs i None h = let past : length xs ≤ i = grind (arith, nat_tests, h.0) in sym (slice_get_past xs i past)
item_at_place xs i (Some x) h = let within : i < length xs = grind (arith, nat_tests, h.0) in sym (slice_get_read xs (length xs) i x.now refl within h.1)
