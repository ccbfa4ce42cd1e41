-- The walk in pieces: what each step gives out, and what is left.
use Rattle.std.specs.Prelude.{◌≡◌, ℕ, zero, suc, ◌+◌, ◌-◌, ◌*◌, ◌<◌, ◌≤◌, true, false, ◌⊎◌, Some, None, IfSome, slice_get, List, [], ◌∷◌, ◌++◌, map, flat_map, length, reverse, refl}
use Rattle.std.proofs.Common.{sym, ◌∙◌, ap, subst, inl, inr, append_assoc, arith}
use Rattle.std.proofs.lemmas.List.{length-append, append-nil, reverse-append}
use Rattle.std.proofs.lemmas.List.Concat.{flat_map-append}
use Rattle.std.specs.List.{AllByRecursion}
use Rattle.std.specs.List.Sorted.{IsStrictlySortedBy}
use Rattle.std.specs.Map.{keys_of}
use Rattle.std.specs.Ordering.{ordering_then, bool_cmp, is_gt}
use Rattle.std.specs.Cmp.{tied_itself}
use Rattle.std.specs.declared.cmp.Ordering.{Ordering}
use Rattle.std.specs.declared.cmp.Ordering.TheVariants.{Less, Equal, Greater}
use Rattle.std.specs.declared.ops.Bound.TheVariants.{Included, Unbounded}
use Rattle.std.specs.BTreeSet.{BTreeSet, contains, IsKeyInRange, IsKeyRangeOf}
use Rattle.std.specs.BTreeMap.Range.{IsLeBy, IsInRange}
use Rattle.op_ids.specs.declared.OpId.{OpId}
use Rattle.op_ids.specs.declared.Side.{Side}
use Rattle.op_ids.specs.declared.Side.TheVariants.{Left, Right}
use Rattle.op_ids.specs.Order.{id_cmp, id_lt, id_plus, root_id, stamp_of}
use Rattle.op_ids.proofs.OrderLaws.{id_cmp_total, less_from_is_lt, lt_at_one_stamp, lt_from_stamps, stamp_lt_cases}
use Rattle.model.specs.State.{run_of}
use Rattle.model.specs.Walk.{Rows, hanging, walk}
use Rattle.model_laws.proofs.Tables.{bool_cases}
use Rattle.walk_laws.specs.Insertion.{IsInsertionTree}
use Rattle.walk_laws.specs.Paths.{In}
use Rattle.walk_laws.proofs.TreeWalks.{none_below_root}
use Rattle.fugue_tree.specs.declared.children.Child.{Child}
use Rattle.fugue_tree.specs.declared.walking.Task.TheVariants as task
use Rattle.fugue_tree.specs.Tree.{AreChildren, at, child_cmp, right_side, tasks_of}
use Rattle.fugue_tree.proofs.PlaceLaws.{held}
use Rattle.fugue_tree.proofs.WalkLaws as tree_laws
use Rattle.fugue_tree.proofs.WalkLaws.{row_among, whole}
use Rattle.fugue_text.specs.declared.pieces.Piece.{Piece}
use Rattle.fugue_text.specs.declared.pieces.Step.{Step}
use Rattle.fugue_text.specs.declared.pieces.Step.TheVariants.{Visit, Give}
use Rattle.fugue_text.specs.declared.run.Letter.{Letter}
use Rattle.fugue_text.specs.Runs.{AreFilled, IsIn, places, rows_in, starts}
use Rattle.fugue_text.specs.Pieces.{AreFrom, AreTogether, IsFree, IsPiece, ids_in, piece_steps, steps_of}
use Rattle.fugue_text.proofs.IdLaws.{gt_is_lt, less_true, lt_plus, of_change, plus_plus, plus_zero}
use Rattle.fugue_text.proofs.LetterLaws.{drop_size}
use Rattle.fugue_text.proofs.NextLaws.{all_hang, next_some, starts_rise}
use Rattle.fugue_text.proofs.RunLaws.{Runs, RowsRise}

-- ---- rows without a child

not_gt : (r : Ordering) → r ≡ Less → is_gt r ≡ false
not_gt r e = ap is_gt e

first_le : (r s : Ordering) → is_gt (ordering_then r s) ≡ false → is_gt r ≡ false
first_le Less s h = refl
first_le Equal s h = refl
first_le Greater s h = h

least_there : (side : Side) (q : OpId) → is_gt (ordering_then (bool_cmp false (right_side side)) (id_cmp root_id q)) ≡ false
least_there Left q = gt_is_lt root_id q ∙ none_below_root q
least_there Right q = refl

module _ (s : BTreeSet Child) (r : List Child) (id : OpId) (h : IsKeyRangeOf child_cmp (Included (at id Left root_id)) Unbounded s r) where
  behind_range : (k : ℕ) (side : Side) (q : OpId) → is_gt (child_cmp (at id Left root_id) (at (id_plus id k) side q)) ≡ false
  behind_range zero side q =
      ap (λ x. is_gt (ordering_then x (ordering_then (bool_cmp false (right_side side)) (id_cmp root_id q)))) (ap (id_cmp id) (plus_zero id) ∙ tied_itself id_cmp_total id) ∙ least_there side q
  behind_range (suc k) side q =
      ap (λ x. is_gt (ordering_then x (ordering_then (bool_cmp false (right_side side)) (id_cmp root_id q)))) (less_from_is_lt (id_cmp id (id_plus id (suc k))) (lt_plus id (suc k) (omega arith)))

  in_range : (k : ℕ) (side : Side) (q : OpId) → IsInRange child_cmp (Included (at id Left root_id)) Unbounded (at (id_plus id k) side q)
  in_range k side q = (behind_range k side q, tt)

  pub bare_none : r ≡ [] → (k : ℕ) (side : Side) (q : OpId) → contains child_cmp s (at (id_plus id k) side q) ≡ false
  bare_none e k side q = h.5 e (at (id_plus id k) side q) (in_range k side q)

  module _ (c : Child) (rest : List Child) (steps : r ≡ c ∷ rest) where
    inside : IsKeyInRange child_cmp (Included (at id Left root_id)) Unbounded s c
    inside = subst (λ ks. IfSome (slice_get ks 0) (IsKeyInRange child_cmp (Included (at id Left root_id)) Unbounded s)) steps h.1

    least : (k : ℕ) (side : Side) (q : OpId) → contains child_cmp s (at (id_plus id k) side q) ≡ true → id_lt (id_plus id k) c.anchor ≡ false
    least k side q e =
        let le : IsLeBy child_cmp c (at (id_plus id k) side q) = subst (λ ks. IfSome (slice_get ks 0) (λ x. IsLeBy child_cmp x (at (id_plus id k) side q))) steps (h.2 (at (id_plus id k) side q) (in_range k side q) e) in
        sym (gt_is_lt c.anchor (id_plus id k)) ∙ first_le (id_cmp c.anchor (id_plus id k)) (ordering_then (bool_cmp c.is_right (right_side side)) (id_cmp c.id q)) le

    not_before : id_lt c.anchor id ≡ false
    not_before = sym (gt_is_lt id c.anchor) ∙ first_le (id_cmp id c.anchor) (ordering_then (bool_cmp false c.is_right) (id_cmp root_id c.id)) inside.0.0

    bare_at : (k : ℕ) (side : Side) (q : OpId) → id_lt (id_plus id k) c.anchor ≡ true → contains child_cmp s (at (id_plus id k) side q) ≡ false
    bare_at k side q l =
        elim (bool_cases (contains child_cmp s (at (id_plus id k) side q))) as (λ _. contains child_cmp s (at (id_plus id k) side q) ≡ false) [
          | inl t ↦ (let no : true ≡ false = sym l ∙ least k side q t in cc)
          | inr f ↦ f
        ]

    pub bare_same : stamp_of c.anchor ≡ stamp_of id → (k : ℕ) → k < c.anchor.index - id.index → (side : Side) (q : OpId) → contains child_cmp s (at (id_plus id k) side q) ≡ false
    bare_same e k l side q =
        let less : id.index + k < c.anchor.index = omega (arith, l) in
        bare_at k side q (lt_at_one_stamp (id_plus id k) c.anchor (sym e) ∙ less_true (id.index + k) c.anchor.index less)

    pub bare_other : (stamp_of c.anchor ≡ stamp_of id → ⊥) → (k : ℕ) (side : Side) (q : OpId) → contains child_cmp s (at (id_plus id k) side q) ≡ false
    bare_other ne k side q =
        elim (stamp_lt_cases (stamp_of id) (stamp_of c.anchor)) as (λ _. contains child_cmp s (at (id_plus id k) side q) ≡ false) [
          | inl t ↦ bare_at k side q (lt_from_stamps (id_plus id k) c.anchor t)
          | inr (inl e) ↦ absurd (ne (sym e))
          | inr (inr t) ↦ (let no : true ≡ false = sym (lt_from_stamps c.anchor id t) ∙ not_before in cc)
        ]

-- ---- rows that are read one after the other

module _ (es : Runs) (rise : RowsRise es) (filled : AreFilled es) (children : BTreeSet Child) (index : AreChildren (starts es) children) (id : OpId) where
  abbrev further : (f : OpId) (o k : ℕ) (i : IsIn es id f o) → o + k < length i.run.letters.items → IsIn es (id_plus id k) f (o + k)
  further f o k i l = record { run = i.run; there = i.there; within = l; is = ap (λ x. id_plus x k) i.is ∙ of_change (id_plus (id_plus f o) k) (id_plus f (o + k)) refl (omega arith) }

  pub free_from : (ls : List Letter) → AreFrom es id ls → (n : ℕ) → n ≤ length ls - 1 → ((k : ℕ) → k < n → (side : Side) (q : OpId) → contains child_cmp children (at (id_plus id k) side q) ≡ false) → IsFree es id n
  free_from ls (inl p) n m bare =
      let size : length ls ≡ 0 = ap length p.1 in
      let none : n ≡ 0 = omega (arith, m, size) in
      record { piece = inl none; next = λ k l. absurd (omega (arith, l, none)); bare = λ k l side q e. omega (arith, l, none) }
  free_from ls (inr b) n m bare =
      let size : length ls ≡ length b.is_in.run.letters.items - b.offset = ap length b.rest ∙ drop_size b.offset b.is_in.run.letters.items in
      let within = b.is_in.within in
      record {
        piece = inr (record { first = b.first; offset = b.offset; is_in = b.is_in; within = omega (arith, m, size, within) });
        next = λ k l. next_some es rise filled (id_plus id k) b.first (b.offset + k) (further b.first b.offset k b.is_in (omega (arith, l, m, size, within))) (omega (arith, l, m, size, within));
        bare = λ k l side q e.
            let no : true ≡ false = sym (held (starts es) children index (id_plus id k) side q e) ∙ bare k l side q in
            absurd (let d : true ≡ false = no in cc);
      }

-- ---- the walk of such rows

empty : (xs : List OpId) → ((i : OpId) → In i xs → ⊥) → xs ≡ []
empty [] h = refl
empty (x ∷ xs) h = absurd (h x (inl refl))

tree_visits : (rows : Rows) (cs : List OpId) → flat_map (tree_laws.given rows) (map task.Visit cs) ≡ flat_map (whole rows) cs
tree_visits rows [] = refl
tree_visits rows (c ∷ cs) = ap (λ is. whole rows c ++ is) (tree_visits rows cs)

-- a walk of a row is in three parts
whole_parts : (rows : Rows) → IsInsertionTree rows → (id : OpId) → whole rows id ≡ flat_map (whole rows) (hanging rows id Left) ++ id ∷ flat_map (whole rows) (hanging rows id Right)
whole_parts rows t id =
    let lefts = hanging rows id Left in
    let rights = hanging rows id Right in
    let given = tree_laws.given rows in
    sym (append-nil (whole rows id)) ∙ sym (append-nil (whole rows id ++ [])) ∙ sym (tree_laws.given_visit rows t [] id []) ∙ append-nil (flat_map given (tasks_of rows id))
    ∙ flat_map-append given (map task.Visit lefts ++ task.Give id ∷ []) (map task.Visit rights)
    ∙ (λ i. flat_map-append given (map task.Visit lefts) (task.Give id ∷ []) i ++ tree_visits rows rights i)
    ∙ (λ i. (tree_visits rows lefts i ++ id ∷ []) ++ flat_map (whole rows) rights)
    ∙ append_assoc (flat_map (whole rows) lefts) (id ∷ []) (flat_map (whole rows) rights)

-- Each of so many rows from this one on has the next one right of it, and nothing else.
abbrev FollowOn : Rows → OpId → ℕ → Type 0
FollowOn rows id n = (k : ℕ) → k < n → (hanging rows (id_plus id k) Left ≡ []) × (hanging rows (id_plus id k) Right ≡ id_plus (id_plus id k) 1 ∷ [])

follow_next : (rows : Rows) (id : OpId) (n : ℕ) → FollowOn rows id (suc n) → FollowOn rows (id_plus id 1) n
follow_next rows id n f k l =
    let h = f (suc k) (omega (arith, l)) in
    (ap (λ x. hanging rows x Left) (plus_plus id k) ∙ h.0, ap (λ x. hanging rows x Right) (plus_plus id k) ∙ h.1 ∙ ap (λ x. id_plus x 1 ∷ []) (sym (plus_plus id k)))

stretch : (rows : Rows) → IsInsertionTree rows → (id : OpId) (n : ℕ) → FollowOn rows id n → whole rows id ≡ run_of id n ++ whole rows (id_plus id n)
stretch rows t id zero f = ap (whole rows) (sym (plus_zero id))
stretch rows t id (suc n) f =
    let h = f 0 (omega arith) in
    let left : hanging rows id Left ≡ [] = ap (λ x. hanging rows x Left) (sym (plus_zero id)) ∙ h.0 in
    let right : hanging rows id Right ≡ id_plus id 1 ∷ [] = ap (λ x. hanging rows x Right) (sym (plus_zero id)) ∙ h.1 ∙ ap (λ x. id_plus x 1 ∷ []) (plus_zero id) in
    whole_parts rows t id ∙ (λ i. flat_map (whole rows) (left i) ++ id ∷ flat_map (whole rows) (right i))
    ∙ ap (λ is. id ∷ is) (append-nil (whole rows (id_plus id 1)) ∙ stretch rows t (id_plus id 1) n (follow_next rows id n f) ∙ ap (λ x. run_of (id_plus id 1) n ++ whole rows x) (plus_plus id n))

-- ---- steps

-- what a step gives out
abbrev pub given : Rows → Step → List OpId
given rows (Visit id) = whole rows id
given rows (Give p) = run_of p.id p.count

-- a measure: each row below a visit takes at most two steps
abbrev pub weight : Rows → Step → ℕ
weight rows (Visit id) = 2 * length (whole rows id)
weight rows (Give p) = 1

abbrev pub steps_left : Rows → List Step → ℕ
steps_left rows [] = 0
steps_left rows (step ∷ ss) = weight rows step + steps_left rows ss

-- the pieces that steps give out are pieces of runs
abbrev pub IsSound : Runs → Step → Type 0
IsSound es (Visit id) = Unit {0}
IsSound es (Give p) = IsPiece es p

abbrev pub AreSound : Runs → List Step → Type 0
AreSound es ss = AllByRecursion (IsSound es) ss

pub sound_both : (es : Runs) (ss ts : List Step) → AreSound es ss → AreSound es ts → AreSound es (ss ++ ts)
sound_both es [] ts h k = k
sound_both es (s ∷ ss) ts h k = (h.0, sound_both es ss ts h.1 k)

pub sound_front : (es : Runs) (ss ts : List Step) → AreSound es (ss ++ ts) → AreSound es ss
sound_front es [] ts h = tt
sound_front es (s ∷ ss) ts h = (h.0, sound_front es ss ts h.1)

pub sound_back : (es : Runs) (ss ts : List Step) → AreSound es (ss ++ ts) → AreSound es ts
sound_back es [] ts h = h
sound_back es (s ∷ ss) ts h = sound_back es ss ts h.1

pub sound_visits : (es : Runs) (cs : List OpId) → AreSound es (map Visit cs)
sound_visits es [] = tt
sound_visits es (c ∷ cs) = (tt, sound_visits es cs)

visits_given : (rows : Rows) (cs : List OpId) → flat_map (given rows) (map Visit cs) ≡ flat_map (whole rows) cs
visits_given rows [] = refl
visits_given rows (c ∷ cs) = ap (λ is. whole rows c ++ is) (visits_given rows cs)

visits_left : (rows : Rows) (cs : List OpId) → steps_left rows (map Visit cs) ≡ 2 * length (flat_map (whole rows) cs)
visits_left rows [] = refl
visits_left rows (c ∷ cs) = let rest = visits_left rows cs in let l = length-append (whole rows c) (flat_map (whole rows) cs) in omega (arith, rest, l)

left-append : (rows : Rows) (ss ts : List Step) → steps_left rows (ss ++ ts) ≡ steps_left rows ss + steps_left rows ts
left-append rows [] ts = omega arith
left-append rows (s ∷ ss) ts = let rest = left-append rows ss ts in omega (arith, rest)

piece_given : (rows : Rows) (id : OpId) (n : ℕ) → flat_map (given rows) (piece_steps id n) ≡ run_of id n
piece_given rows id zero = refl
piece_given rows id (suc n) = append-nil (run_of id (suc n))

piece_left : (rows : Rows) (id : OpId) (n : ℕ) → steps_left rows (piece_steps id n) ≤ n
piece_left rows id zero = omega arith
piece_left rows id (suc n) = omega arith

run_length : (id : OpId) (n : ℕ) → length (run_of id n) ≡ n
run_length id zero = refl
run_length id (suc n) = ap suc (run_length (id_plus id 1) n)

pub first_given : (rows : Rows) → IsInsertionTree rows → flat_map (given rows) (map Visit (hanging rows root_id Right)) ≡ walk rows
first_given rows t = visits_given rows (hanging rows root_id Right) ∙ sym (tree_visits rows (hanging rows root_id Right)) ∙ tree_laws.given_first rows t

module _ (es : Runs) (tree : IsInsertionTree (places (rows_in es))) (rise : RowsRise es) (filled : AreFilled es) (sorted : IsStrictlySortedBy id_cmp (keys_of es)) (id : OpId) (n : ℕ) (free : IsFree es id n) where
  abbrev rows : Rows
  rows = places (rows_in es)

  abbrev next : OpId
  next = id_plus id n

  abbrev lefts : List OpId
  lefts = hanging rows next Left

  abbrev rights : List OpId
  rights = hanging rows next Right

  nothing : (k : ℕ) → k < n → (side : Side) → hanging (starts es) (id_plus id k) side ≡ []
  nothing k l side = empty (hanging (starts es) (id_plus id k) side) (λ i m. free.bare k l side i (row_among (starts es) (starts_rise es sorted) (id_plus id k) side i m))

  follow_on : FollowOn rows id n
  follow_on k l =
      let on = id_plus id k in (
        all_hang es rise filled tree (starts_rise es sorted) on Left None refl ∙ nothing k l Left,
        all_hang es rise filled tree (starts_rise es sorted) on Right (Some (id_plus on 1)) (free.next k l) ∙ ap (λ is. id_plus on 1 ∷ is) (nothing k l Right),
      )

  together : whole rows id ≡ run_of id n ++ whole rows next
  together = stretch rows tree id n follow_on

  steps_given : flat_map (given rows) (steps_of es id n) ≡ whole rows id
  steps_given =
      let f = given rows in
      let a = piece_steps id n in
      let b = map Visit lefts in
      let c = piece_steps next 1 in
      let d = map Visit rights in
      let run = run_of id n in
      let before = flat_map (whole rows) lefts in
      let after = flat_map (whole rows) rights in
      flat_map-append f ((a ++ b) ++ c) d ∙ (λ i. flat_map-append f (a ++ b) c i ++ visits_given rows rights i)
      ∙ (λ i. (flat_map-append f a b i ++ piece_given rows next 1 i) ++ after)
      ∙ (λ i. ((piece_given rows id n i ++ visits_given rows lefts i) ++ next ∷ []) ++ after)
      ∙ append_assoc (run ++ before) (next ∷ []) after ∙ append_assoc run before (next ∷ after) ∙ ap (λ is. run ++ is) (sym (whole_parts rows tree next)) ∙ sym together

  pub visited_given : (ss : List Step) (more : List OpId) → flat_map (given rows) (ss ++ steps_of es id n) ++ more ≡ flat_map (given rows) (ss ++ Visit id ∷ []) ++ more
  visited_given ss more =
      ap (λ is. is ++ more)
      (flat_map-append (given rows) ss (steps_of es id n) ∙ ap (λ is. flat_map (given rows) ss ++ is) (steps_given ∙ sym (append-nil (whole rows id))) ∙ sym (flat_map-append (given rows) ss (Visit id ∷ [])))

  pub visited_left : (ss : List Step) → steps_left rows (ss ++ steps_of es id n) < steps_left rows (ss ++ Visit id ∷ [])
  visited_left ss =
      let a = piece_steps id n in
      let b = map Visit lefts in
      let c = piece_steps next 1 in
      let d = map Visit rights in
      let before = flat_map (whole rows) lefts in
      let after = flat_map (whole rows) rights in
      let one = left-append rows ss (steps_of es id n) in
      let two = left-append rows ss (Visit id ∷ []) in
      let abcd = left-append rows ((a ++ b) ++ c) d in
      let abc = left-append rows (a ++ b) c in
      let ab = left-append rows a b in
      let least = piece_left rows id n in
      let own = piece_left rows next 1 in
      let l = visits_left rows lefts in
      let r = visits_left rows rights in
      let parts : length (whole rows next) ≡ length before + suc (length after) = ap length (whole_parts rows tree next) ∙ length-append before (next ∷ after) in
      let all : length (whole rows id) ≡ n + length (whole rows next) = ap length together ∙ length-append (run_of id n) (whole rows next) ∙ ap (λ m. m + length (whole rows next)) (run_length id n) in
      omega (arith, one, two, abcd, abc, ab, least, own, l, r, parts, all)

  pub visited_sound : AreSound es (steps_of es id n)
  visited_sound =
      let a = piece_steps id n in
      let b = map Visit lefts in
      let c = piece_steps next 1 in
      let d = map Visit rights in
      sound_both es ((a ++ b) ++ c) d (sound_both es (a ++ b) c (sound_both es a b (own n free.piece) (sound_visits es lefts)) (inl (omega arith), tt)) (sound_visits es rights)
    where
      own : (m : ℕ) → (m ≡ 0) ⊎ AreTogether es id m → AreSound es (piece_steps id m)
      own zero p = tt
      own (suc m) (inl e) = (inl (omega (arith, e)), tt)
      own (suc m) (inr t) = (inr t, tt)

pub given_left : (rows : Rows) (ss : List Step) (p : Piece) → steps_left rows ss < steps_left rows (ss ++ Give p ∷ [])
given_left rows ss p = let e = left-append rows ss (Give p ∷ []) in omega (arith, e)

pub piece_out : (rows : Rows) (ss : List Step) (ps : List Piece) (p : Piece) → flat_map (given rows) ss ++ ids_in (reverse (ps ++ p ∷ [])) ≡ flat_map (given rows) (ss ++ Give p ∷ []) ++ ids_in (reverse ps)
piece_out rows ss ps p =
    let out = ids_in (reverse ps) in
    ap (λ xs. flat_map (given rows) ss ++ ids_in xs) (reverse-append ps (p ∷ []))
    ∙ sym (append_assoc (flat_map (given rows) ss) (run_of p.id p.count) out)
    ∙ ap (λ is. is ++ out) (ap (λ is. flat_map (given rows) ss ++ is) (sym (append-nil (run_of p.id p.count))) ∙ sym (flat_map-append (given rows) ss (Give p ∷ [])))

pub pieces_out : (es : Runs) (ps : List Piece) (p : Piece) → IsPiece es p → AllByRecursion (IsPiece es) (reverse ps) → AllByRecursion (IsPiece es) (reverse (ps ++ p ∷ []))
pieces_out es ps p h k = subst (λ xs. AllByRecursion (IsPiece es) xs) (sym (reverse-append ps (p ∷ []))) (h, k)
