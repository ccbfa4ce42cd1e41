-- Children stand at positions of their parent.
use Rattle.std.specs.Prelude.{◌≡◌, ℕ, zero, suc, ◌+◌, ◌-◌, ◌<◌, ◌≤◌, true, false, cond, Option, Some, None, is_some, unwrap_or, List, [], ◌∷◌, ◌||◌, map, filter, filter_map, flat_map, length, not, slice_get, refl}
use Rattle.std.proofs.Common.{sym, ◌∙◌, ap, arith, get_or}
use Rattle.std.specs.List.{AllByRecursion, cons_option}
use Rattle.std.specs.FinMap.{FinMap, find, get}
use Rattle.std.specs.Option.{option_map_or}
use Rattle.std.specs.Ordering.{eq_by_cmp}
use Rattle.op_ids.specs.declared.OpId.{OpId}
use Rattle.op_ids.specs.declared.Side.{Side}
use Rattle.op_ids.specs.declared.Side.TheVariants.{Left, Right}
use Rattle.op_ids.specs.Order.{id_cmp, id_eq, id_plus, root_id}
use Rattle.op_ids.proofs.OrderLaws.{eq_by_cmp-id, id_eq-itself}
use Rattle.model.specs.Operation.{Anchor}
use Rattle.model.specs.State.{Character, State, Place, has_anchor, row_cmp}
use Rattle.model.specs.Walk.{Rows, hanging, hangs, rows_of, walk, walk_row}
use Rattle.model.specs.View.{child_at, children, is_live, live_characters}
use Rattle.model.specs.Edit.{Group, grouped, grouped_with, origin_at, others, position_of}
use Rattle.model_laws.proofs.ListLaws.{all_append, all_map, all_more}
use Rattle.walk_laws.specs.Insertion.{is_row}
use Rattle.arrival_laws.proofs.AddLaws.{all_kept}
use Rattle.effect_laws.proofs.ChildLaws.{at_child}

-- ---- what a walk has are rows

abbrev AreRows : Rows → List OpId → Type 0
AreRows rows ids = AllByRecursion (λ i. is_row rows i ≡ true) ids

more_rows : (e : OpId × Anchor) (rows : Rows) (i : OpId) → is_row rows i ≡ true → is_row (e ∷ rows) i ≡ true
more_rows e rows i h = elim (eq_by_cmp id_cmp i e.0) as (λ b. is_some (cond b (Some e.1) (find id_cmp i rows)) ≡ true) [ true ↦ refl | false ↦ h ]

all_rows : (rows : Rows) → AllByRecursion (λ r. is_row rows r.0 ≡ true) rows
all_rows [] = tt
all_rows (e ∷ rows) =
    (let own : eq_by_cmp id_cmp e.0 e.0 ≡ true = eq_by_cmp-id e.0 e.0 ∙ id_eq-itself e.0 in rw own refl, all_more (λ r. is_row rows r.0 ≡ true) (λ r. is_row (e ∷ rows) r.0 ≡ true) (λ r h. more_rows e rows r.0 h) rows (all_rows rows))

hanging_rows : (rows : Rows) (id : OpId) (side : Side) → AreRows rows (hanging rows id side)
hanging_rows rows id side = all_map (λ i. is_row rows i ≡ true) (λ (r : OpId × Anchor). r.0) (filter (hangs id side) rows) (all_kept (λ r. is_row rows r.0 ≡ true) (hangs id side) rows (all_rows rows))

all_flat : (rows : Rows) (f : OpId → List OpId) (ids : List OpId) → ((i : OpId) → is_row rows i ≡ true → AreRows rows (f i)) → AreRows rows ids → AreRows rows (flat_map f ids)
all_flat rows f [] h k = tt
all_flat rows f (i ∷ ids) h k = all_append (λ j. is_row rows j ≡ true) (f i) (flat_map f ids) (h i k.0) (all_flat rows f ids h k.1)

row_walk : (depth : ℕ) (rows : Rows) (id : OpId) → is_row rows id ≡ true → AreRows rows (walk_row depth rows id)
row_walk zero rows id h = tt
row_walk (suc depth) rows id h =
    all_append (λ j. is_row rows j ≡ true) (flat_map (walk_row depth rows) (hanging rows id Left)) (id ∷ flat_map (walk_row depth rows) (hanging rows id Right))
    (all_flat rows (walk_row depth rows) (hanging rows id Left) (row_walk depth rows) (hanging_rows rows id Left))
    (h, all_flat rows (walk_row depth rows) (hanging rows id Right) (row_walk depth rows) (hanging_rows rows id Right))

walk_rows : (rows : Rows) → AreRows rows (walk rows)
walk_rows rows = all_flat rows (walk_row (length rows) rows) (hanging rows root_id Right) (row_walk (length rows) rows) (hanging_rows rows root_id Right)

-- ---- children

abbrev pub ArePlaced : State → OpId → List OpId → Type 0
ArePlaced s parent ids = AllByRecursion (λ c. is_row (rows_of (λ p. p) s.positions parent) (position_of s c) ≡ true) ids

placed_one : (s : State) (parent p : OpId) (o : Option OpId) → is_row (rows_of (λ at. at) s.positions parent) p ≡ true → child_at s parent p ≡ o → ArePlaced s parent (cons_option o [])
placed_one s parent p None h e = tt
placed_one s parent p (Some c) h e =
    let a = at_child s parent p c e in
    let at : position_of s c ≡ p = ap (λ (o : Option Place). option_map_or (λ x. x.position) o root_id) a.is ∙ a.at in
    (ap (is_row (rows_of (λ at. at) s.positions parent)) at ∙ h, tt)

placed_more : (s : State) (parent : OpId) (o : Option OpId) (ids : List OpId) → ArePlaced s parent (cons_option o []) → ArePlaced s parent ids → ArePlaced s parent (cons_option o ids)
placed_more s parent None ids h k = k
placed_more s parent (Some c) ids h k = (h.0, k)

all_placed : (s : State) (parent : OpId) (ps : List OpId) → AreRows (rows_of (λ at. at) s.positions parent) ps → ArePlaced s parent (filter_map (child_at s parent) ps)
all_placed s parent [] h = tt
all_placed s parent (p ∷ ps) h = placed_more s parent (child_at s parent p) (filter_map (child_at s parent) ps) (placed_one s parent p (child_at s parent p) h.0 refl) (all_placed s parent ps h.1)

pub children_placed : (s : State) (parent : OpId) → ArePlaced s parent (children s parent)
children_placed s parent = all_placed s parent (walk (rows_of (λ at. at) s.positions parent)) (walk_rows (rows_of (λ at. at) s.positions parent))

pub others_placed : (s : State) (child parent : OpId) → ArePlaced s parent (others child (children s parent))
others_placed s child parent = all_kept (λ c. is_row (rows_of (λ p. p) s.positions parent) (position_of s c) ≡ true) (λ x. not (id_eq x child)) (children s parent) (children_placed s parent)

-- ---- what stands before a place

pub origin_first : (ids : List OpId) (at : ℕ) → at ≡ 0 → root_id ≡ origin_at ids at
origin_first ids at e = ap (origin_at ids) (sym e)

nth : (pos : OpId → OpId) (among : List OpId) (k : ℕ) (d : OpId) → k < length among → pos (get_or among k d) ≡ unwrap_or (slice_get (map pos among) k) root_id
nth pos [] k d l = absurd (omega arith)
nth pos (x ∷ xs) zero d l = refl
nth pos (x ∷ xs) (suc k) d l = nth pos xs k d (omega arith)

pub origin_behind : (pos : OpId → OpId) (among : List OpId) (at : ℕ) (d : OpId) → (at ≡ 0 → ⊥) → at ≤ length among → pos (get_or among (at - 1) d) ≡ origin_at (map pos among) at
origin_behind pos among zero d n l = absurd (n refl)
origin_behind pos among (suc k) d n l = (let e : suc k - 1 ≡ k = omega arith in ap (λ i. pos (get_or among i d)) e ∙ nth pos among k d (omega arith))

-- what is found before a place, or the head
pub origin_found : (pos : OpId → OpId) (among : List OpId) (at : ℕ) (o : Option OpId) → (at ≡ 0 → ⊥) → slice_get among (at - 1) ≡ o → option_map_or pos o root_id ≡ origin_at (map pos among) at
origin_found pos among zero o n e = absurd (n refl)
origin_found pos among (suc k) o n e =
    let less : suc k - 1 ≡ k = omega arith in
    ap (λ x. option_map_or pos x root_id) (sym e ∙ ap (slice_get among) less) ∙ mapped among k
  where
    mapped : (ids : List OpId) (i : ℕ) → option_map_or pos (slice_get ids i) root_id ≡ unwrap_or (slice_get (map pos ids) i) root_id
    mapped [] i = refl
    mapped (x ∷ xs) zero = refl
    mapped (x ∷ xs) (suc i) = mapped xs i

-- ---- characters

live_there : (texts : FinMap row_cmp Character) (node : OpId) (ids : List OpId) → AllByRecursion (λ id. is_some (get texts (node, id)) ≡ true) (filter (λ id. is_live (get texts (node, id))) ids)
live_there texts node [] = tt
live_there texts node (id ∷ ids) =
    elim (get texts (node, id)) as (λ o. get texts (node, id) ≡ o → AllByRecursion (λ id. is_some (get texts (node, id)) ≡ true) (cond (is_live o) (id ∷ filter (λ id. is_live (get texts (node, id))) ids) (filter (λ id. is_live (get texts (node, id))) ids))) [
      | None ↦ λ e. live_there texts node ids
      | Some x ↦ λ e.
          elim x.dead as (λ b. AllByRecursion (λ id. is_some (get texts (node, id)) ≡ true) (cond (not b) (id ∷ filter (λ id. is_live (get texts (node, id))) ids) (filter (λ id. is_live (get texts (node, id))) ids))) [
            | true ↦ live_there texts node ids
            | false ↦ (ap is_some e, live_there texts node ids)
          ]
    ] refl

anchored : (texts : FinMap row_cmp Character) (node : OpId) (ids : List OpId) (at : ℕ) → AllByRecursion (λ id. is_some (get texts (node, id)) ≡ true) ids → has_anchor texts node (origin_at ids at) ≡ true
anchored texts node ids zero h = refl
anchored texts node [] (suc k) h = refl
anchored texts node (id ∷ ids) (suc zero) h = elim (id_eq id root_id) as (λ b. (b || is_some (get texts (node, id))) ≡ true) [ true ↦ refl | false ↦ h.0 ]
anchored texts node (id ∷ ids) (suc (suc k)) h = anchored texts node ids (suc k) h.1

-- A new character may hang on the one that is shown before a place.
pub shown_anchored : (s : State) (node : OpId) (at : ℕ) → has_anchor s.texts node (origin_at (live_characters s node) at) ≡ true
shown_anchored s node at = anchored s.texts node (live_characters s node) at (live_there s.texts node (walk (rows_of (λ c. c.at) s.texts node)))

-- ---- groups

-- Ids that follow one another so far: where a group begins with the last of them, one begins with the first that has them all.
abbrev pub GoesOn : OpId → List OpId → ℕ → OpId → List OpId → Type 0
GoesOn first ids count last rest = (n : ℕ) (gs : List Group) → grouped (last ∷ rest) ≡ record { first = last; count = n } ∷ gs → grouped (first ∷ ids) ≡ record { first = first; count = n + count } ∷ gs

pub goes_first : (first : OpId) (ids : List OpId) → GoesOn first ids 0 first ids
goes_first first ids n gs e = let none : n ≡ n + 0 = omega arith in e ∙ ap (λ k. record { first = first; count = k } ∷ gs) none

pub goes_on : (first : OpId) (ids : List OpId) (count more : ℕ) (last next : OpId) (rest : List OpId) → id_eq next (id_plus last 1) ≡ true → count + 1 ≡ more → GoesOn first ids count last (next ∷ rest) → GoesOn first ids more next rest
goes_on first ids count more last next rest t m h n gs e =
    let sum : n + 1 + count ≡ n + more = omega arith in
    h (n + 1) gs (ap (grouped_with last) e ∙ ap (λ b. cond b (record { first = last; count = n + 1 } ∷ gs) (record { first = last; count = 1 } ∷ record { first = next; count = n } ∷ gs)) t)
    ∙ ap (λ k. record { first = first; count = k } ∷ gs) sum

begins : (id : OpId) (ids : List OpId) → (n : ℕ) × (gs : List Group) × (grouped (id ∷ ids) ≡ record { first = id; count = n } ∷ gs)
begins id ids = with_groups (grouped ids)
  where
    with_groups : (gs : List Group) → (n : ℕ) × (hs : List Group) × (grouped_with id gs ≡ record { first = id; count = n } ∷ hs)
    with_groups [] = (1, [], refl)
    with_groups (g ∷ gs) =
        elim (id_eq g.first (id_plus id 1)) as (λ b. (n : ℕ) × (hs : List Group) × (cond b (record { first = id; count = g.count + 1 } ∷ gs) (record { first = id; count = 1 } ∷ g ∷ gs) ≡ record { first = id; count = n } ∷ hs)) [
          | true ↦ (g.count + 1, gs, refl)
          | false ↦ (1, g ∷ gs, refl)
        ]

-- The group ends where the next id doesn't follow, and at the end.
pub ends_before : (first : OpId) (ids : List OpId) (count : ℕ) (last next : OpId) (rest : List OpId) → id_eq next (id_plus last 1) ≡ false → GoesOn first ids count last (next ∷ rest)
    → grouped (first ∷ ids) ≡ record { first = first; count = count + 1 } ∷ grouped (next ∷ rest)
ends_before first ids count last next rest t h =
    let b = begins next rest in
    let sum : 1 + count ≡ count + 1 = omega arith in
    h 1 (grouped (next ∷ rest)) (ap (grouped_with last) b.2 ∙ ap (λ t. cond t (record { first = last; count = b.0 + 1 } ∷ b.1) (record { first = last; count = 1 } ∷ record { first = next; count = b.0 } ∷ b.1)) t ∙ ap (λ gs. record { first = last; count = 1 } ∷ gs) (sym b.2))
    ∙ ap (λ k. record { first = first; count = k } ∷ grouped (next ∷ rest)) sum

pub ends_all : (first : OpId) (ids : List OpId) (count : ℕ) (last : OpId) → GoesOn first ids count last [] → grouped (first ∷ ids) ≡ record { first = first; count = count + 1 } ∷ []
ends_all first ids count last h = let sum : 1 + count ≡ count + 1 = omega arith in h 1 [] refl ∙ ap (λ k. record { first = first; count = k } ∷ []) sum
