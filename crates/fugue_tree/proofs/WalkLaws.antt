-- The walk by tasks: what each gives out, and what is left.
use Rattle.std.specs.Prelude.{◌≡◌, ℕ, zero, suc, ◌+◌, ◌*◌, ◌<◌, Bool, true, false, cond, ◌||◌, ◌⊎◌, Some, List, [], ◌∷◌, ◌++◌, map, filter, flat_map, length, refl}
use Rattle.std.proofs.Common.{sym, ◌∙◌, ap, inl, inr, append_assoc, arith}
use Rattle.std.proofs.lemmas.List.{length-append, append-nil}
use Rattle.std.proofs.lemmas.List.Concat.{flat_map-append}
use Rattle.std.specs.List.{AllByRecursion, list_any}
use Rattle.std.specs.List.Sorted.{IsStrictlySortedBy}
use Rattle.std.specs.Ordering.{is_lt}
use Rattle.std.specs.FinMap.{is_sorted}
use Rattle.std.specs.FinMap.Entries.{below_all}
use Rattle.std.specs.declared.cmp.Ordering.TheVariants.{Less}
use Rattle.std.specs.BTreeSet.{BTreeSet}
use Rattle.op_ids.specs.declared.OpId.{OpId}
use Rattle.op_ids.specs.declared.Side.{Side}
use Rattle.op_ids.specs.declared.Side.TheVariants.{Left, Right}
use Rattle.op_ids.specs.Order.{id_cmp, id_lt, root_id}
use Rattle.op_ids.proofs.OrderLaws.{id_eq-exact, id_eq-itself, lt_itself, lt_not_back}
use Rattle.model.specs.Operation.{Anchor}
use Rattle.model.specs.Walk.{Rows, hangs, hanging, walk_row, walk}
use Rattle.walk_laws.specs.Insertion.{anchor_of, IsInsertionTree}
use Rattle.walk_laws.specs.Paths.{In}
use Rattle.walk_laws.proofs.Walks.{both, same_side-exact, same_side-itself, firsts, picked, Passes, picked_pass, pass_picked, all_map}
use Rattle.walk_laws.proofs.WalkOrder.{in_all}
use Rattle.walk_laws.proofs.TreeWalks.{lesser}
use Rattle.fugue_tree.specs.declared.children.Child.{Child}
use Rattle.fugue_tree.specs.declared.walking.Task.{Task}
use Rattle.fugue_tree.specs.declared.walking.Task.TheVariants.{Visit, Give}
use Rattle.fugue_tree.specs.Tree.{at, child_cmp, child_eq, is_child_of, children_at, tasks_of, AreChildren}
use Rattle.fugue_tree.proofs.RangeLaws.{bool_cases}
use Rattle.fugue_tree.proofs.ChildLaws.{child_is, child_same, is_child_of-at, one_place, ids}
use Rattle.fugue_tree.proofs.PlaceLaws.{above, falls, above_row, there, held}

or_true : (a b : Bool) → b ≡ true → (a || b) ≡ true
or_true true b h = refl
or_true false b h = h

-- ---- lists of ids that rise

abbrev pub RisesFrom : OpId → List OpId → Type 0
RisesFrom i js = AllByRecursion (λ j. id_lt i j ≡ true) js

abbrev pub Rising : List OpId → Type 0
Rising [] = Unit {0}
Rising (i ∷ is) = RisesFrom i is × Rising is

pub rising_same : (is js : List OpId) → Rising is → Rising js → ((i : OpId) → In i is → In i js) → ((i : OpId) → In i js → In i is) → is ≡ js
rising_same [] [] r s h k = refl
rising_same [] (j ∷ js) r s h k = absurd (k j (inl refl))
rising_same (i ∷ is) [] r s h k = absurd (h i (inl refl))
rising_same (i ∷ is) (j ∷ js) r s h k =
    let same : i ≡ j =
    elim (h i (inl refl)) as (λ _. i ≡ j) [
      | inl e ↦ e
      | inr m ↦
          elim (k j (inl refl)) as (λ _. i ≡ j) [
            | inl e ↦ sym e
            | inr n ↦
                let back : id_lt j i ≡ true = in_all (λ x. id_lt j x ≡ true) i js m s.0 in
                let no : true ≡ false = sym back ∙ lt_not_back i j (in_all (λ x. id_lt i x ≡ true) j is n r.0) in
                cc
          ]
    ] in
    let rest : is ≡ js =
    rising_same is js r.1 s.1
    (λ q m. elim (h q (inr m)) as (λ _. In q js) [
      | inl e ↦ (let no : true ≡ false = sym (in_all (λ x. id_lt i x ≡ true) q is m r.0) ∙ ap (id_lt i) (e ∙ sym same) ∙ lt_itself i in absurd (let c : true ≡ false = no in cc))
      | inr n ↦ n
    ])
    (λ q m. elim (k q (inr m)) as (λ _. In q is) [
      | inl e ↦ (let no : true ≡ false = sym (in_all (λ x. id_lt j x ≡ true) q js m s.0) ∙ ap (id_lt j) (e ∙ same) ∙ lt_itself j in absurd (let c : true ≡ false = no in cc))
      | inr n ↦ n
    ]) in
    λ p. same p ∷ rest p

-- ---- the children that hang there are the rows that hang there

below_picked : (p : OpId × Anchor → Bool) (i : OpId) (es : Rows) → below_all id_cmp i es ≡ true → RisesFrom i (picked p es)
below_picked p i [] h = tt
below_picked p i (e ∷ es) h =
    let k = both _ _ h in
    elim (p e) as (λ b. RisesFrom i (firsts (cond b (e ∷ filter p es) (filter p es)))) [ true ↦ (k.0, below_picked p i es k.1) | false ↦ below_picked p i es k.1 ]

pub hanging_rise : (p : OpId × Anchor → Bool) (es : Rows) → is_sorted id_cmp es ≡ true → Rising (picked p es)
hanging_rise p [] h = tt
hanging_rise p (e ∷ es) h =
    let k = both _ _ h in
    elim (p e) as (λ b. Rising (firsts (cond b (e ∷ filter p es) (filter p es)))) [ true ↦ (below_picked p e.0 es k.0, hanging_rise p es k.1) | false ↦ hanging_rise p es k.1 ]

module _ (on : OpId) (side : Side) where
  above_child : (c : Child) → is_child_of on side c ≡ true → (cs : List Child) → AllByRecursion (λ d. child_cmp c d ≡ Less) cs → RisesFrom c.id (ids (filter (is_child_of on side) cs))
  above_child c t [] h = tt
  above_child c t (d ∷ cs) h =
      let rest = above_child c t cs h.1 in
      elim (bool_cases (is_child_of on side d)) as (λ _. RisesFrom c.id (ids (filter (is_child_of on side) (d ∷ cs)))) [
        | inl u ↦
            let less : id_lt c.id d.id ≡ true = ap is_lt (sym (one_place on side c.id d.id)) ∙ (λ i. is_lt (child_cmp (sym (child_is on side c t) i) (sym (child_is on side d u) i))) ∙ ap is_lt h.0 in
            rw u (less, rest)
        | inr n ↦ rw n rest
      ]

  children_rise : (cs : List Child) → IsStrictlySortedBy child_cmp cs → Rising (ids (filter (is_child_of on side) cs))
  unfolding IsStrictlySortedBy
  children_rise [] h = tt
  children_rise (c ∷ cs) h =
      let rest = children_rise cs h.1 in
      elim (bool_cases (is_child_of on side c)) as (λ _. Rising (ids (filter (is_child_of on side) (c ∷ cs)))) [
        | inl t ↦ (let first = above_child c t cs h.0 in rw t (first, rest))
        | inr n ↦ rw n rest
      ]

  child_among : (i : OpId) (cs : List Child) → list_any (λ c. child_eq (at on side i) c) cs ≡ true → In i (ids (filter (is_child_of on side) cs))
  child_among i [] h = cc
  child_among i (c ∷ cs) h =
      elim (bool_cases (child_eq (at on side i) c)) as (λ _. In i (ids (filter (is_child_of on side) (c ∷ cs)))) [
        | inl t ↦
            let same = child_same (at on side i) c t in
            let yes : is_child_of on side c ≡ true = ap (is_child_of on side) (sym same) ∙ is_child_of-at on side i in
            rw yes (inl (ap (λ (x : Child). x.id) same))
        | inr n ↦
            let more : list_any (λ c. child_eq (at on side i) c) cs ≡ true = rw n at h in
            let rest = child_among i cs more in
            elim (is_child_of on side c) as (λ b. In i (ids (cond b (c ∷ filter (is_child_of on side) cs) (filter (is_child_of on side) cs)))) [ true ↦ inr rest | false ↦ rest ]
      ]

  among_child : (i : OpId) (cs : List Child) → In i (ids (filter (is_child_of on side) cs)) → list_any (λ c. child_eq (at on side i) c) cs ≡ true
  among_child i [] h = absurd h
  among_child i (c ∷ cs) h =
      elim (bool_cases (is_child_of on side c)) as (λ _. list_any (λ d. child_eq (at on side i) d) (c ∷ cs) ≡ true) [
        | inl t ↦
            let found : (i ≡ c.id) ⊎ In i (ids (filter (is_child_of on side) cs)) = rw t at h in
            elim found as (λ _. (child_eq (at on side i) c || list_any (λ d. child_eq (at on side i) d) cs) ≡ true) [
              | inl e ↦ (let yes : child_eq (at on side i) c ≡ true = ap (λ x. child_eq (at on side x) c) e ∙ t in rw yes refl)
              | inr m ↦ or_true (child_eq (at on side i) c) (list_any (λ d. child_eq (at on side i) d) cs) (among_child i cs m)
            ]
        | inr n ↦
            let rest : In i (ids (filter (is_child_of on side) cs)) = rw n at h in
            or_true (child_eq (at on side i) c) (list_any (λ d. child_eq (at on side i) d) cs) (among_child i cs rest)
      ]

-- rows that rise, and those that hang there
module _ (rows : Rows) (rising : is_sorted id_cmp rows ≡ true) (on : OpId) (side : Side) where
  pub row_among : (i : OpId) → In i (hanging rows on side) → anchor_of rows i ≡ Some (record { on = on; side = side })
  row_among i h =
      let p = in_all (Passes (hangs on side) rows) i (hanging rows on side) h (picked_pass (hangs on side) rows rising) in
      let t = both _ _ p.2 in
      let on_is : p.0.on ≡ on = id_eq-exact p.0.on on t.0 in
      let side_is : p.0.side ≡ side = same_side-exact p.0.side side t.1 in
      p.1 ∙ ap Some (λ k. record { on = on_is k; side = side_is k })

  pub among_rows : (i : OpId) → anchor_of rows i ≡ Some (record { on = on; side = side }) → In i (hanging rows on side)
  among_rows i e =
      let t : hangs on side (i, record { on = on; side = side }) ≡ true = rw (id_eq-itself on, same_side-itself side) refl in
      pass_picked (hangs on side) rows i (record { on = on; side = side }) e t

module _ (rows : Rows) (s : BTreeSet Child) (rising : is_sorted id_cmp rows ≡ true) (same : AreChildren rows s) (sorted : IsStrictlySortedBy child_cmp s.keys) (on : OpId) (side : Side) where
  pub children_are : children_at s on side ≡ hanging rows on side
  children_are =
      rising_same (children_at s on side) (hanging rows on side) (children_rise on side s.keys sorted) (hanging_rise (hangs on side) rows rising)
      (λ i h. among_rows rows rising on side i (there rows s same on side i (among_child on side i s.keys h)))
      (λ i h. child_among on side i s.keys (held rows s same on side i (row_among rows rising on side i h)))

-- ---- depth

flat_same : (f g : OpId → List OpId) (cs : List OpId) → AllByRecursion (λ c. f c ≡ g c) cs → flat_map f cs ≡ flat_map g cs
flat_same f g [] h = refl
flat_same f g (c ∷ cs) h = λ i. h.0 i ++ flat_same f g cs h.1 i

abbrev pub whole : Rows → OpId → List OpId
whole rows id = walk_row (suc (length rows)) rows id

-- what a task gives out
abbrev pub given : Rows → Task → List OpId
given rows (Visit id) = whole rows id
given rows (Give id) = id ∷ []

-- a measure: each row below a visit is visited and given out
abbrev weight : Rows → Task → ℕ
weight rows (Visit id) = 2 * length (whole rows id)
weight rows (Give id) = 1

abbrev pub steps_left : Rows → List Task → ℕ
steps_left rows [] = 0
steps_left rows (task ∷ ts) = weight rows task + steps_left rows ts

module _ (rows : Rows) (t : IsInsertionTree rows) where
  hung_below : (j : OpId) (side : Side) (c : OpId) → Passes (hangs j side) rows c → above c rows < above j rows
  hung_below j side c p =
      let on : p.0.on ≡ j = id_eq-exact p.0.on j (both _ _ p.2).0 in
      let less : id_lt j c ≡ true = ap (λ x. id_lt x c) (sym on) ∙ lesser rows t c p.0 p.1 in
      falls rows j c p.0 less p.1

  -- a walk of a row that is deep enough is no other when it may be deeper
  deep_enough : (d : ℕ) (j : OpId) → above j rows < d → walk_row d rows j ≡ walk_row (suc d) rows j
  deep_enough zero j l = absurd (omega arith)
  deep_enough (suc d) j l =
      let at : (side : Side) → flat_map (walk_row d rows) (hanging rows j side) ≡ flat_map (walk_row (suc d) rows) (hanging rows j side) =
      λ side. flat_same (walk_row d rows) (walk_row (suc d) rows) (hanging rows j side)
      (all_map (Passes (hangs j side) rows) (λ c. walk_row d rows c ≡ walk_row (suc d) rows c) (hanging rows j side)
      (λ c p. let k = hung_below j side c p in deep_enough d c (omega arith))
      (picked_pass (hangs j side) rows t.rising)) in
      λ i. at Left i ++ j ∷ at Right i

  -- the walks of rows that hang somewhere
  whole_walks : (on : OpId) (side : Side) → flat_map (walk_row (length rows) rows) (hanging rows on side) ≡ flat_map (whole rows) (hanging rows on side)
  whole_walks on side =
      flat_same (walk_row (length rows) rows) (whole rows) (hanging rows on side)
      (all_map (Passes (hangs on side) rows) (λ c. walk_row (length rows) rows c ≡ whole rows c) (hanging rows on side)
      (λ c p. deep_enough (length rows) c (above_row rows c p.0 p.1))
      (picked_pass (hangs on side) rows t.rising))

  -- ---- tasks

  given_visits : (cs : List OpId) → flat_map (given rows) (map Visit cs) ≡ flat_map (whole rows) cs
  given_visits [] = refl
  given_visits (c ∷ cs) = ap (λ is. whole rows c ++ is) (given_visits cs)

  pub given_first : flat_map (given rows) (map Visit (hanging rows root_id Right)) ≡ walk rows
  given_first = given_visits (hanging rows root_id Right) ∙ sym (whole_walks root_id Right)

  given_tasks : (id : OpId) → flat_map (given rows) (tasks_of rows id) ≡ whole rows id
  given_tasks id =
      flat_map-append (given rows) (map Visit (hanging rows id Left) ++ Give id ∷ []) (map Visit (hanging rows id Right))
      ∙ (λ i. flat_map-append (given rows) (map Visit (hanging rows id Left)) (Give id ∷ []) i ++ given_visits (hanging rows id Right) i)
      ∙ (λ i. (given_visits (hanging rows id Left) i ++ id ∷ []) ++ flat_map (whole rows) (hanging rows id Right))
      ∙ append_assoc (flat_map (whole rows) (hanging rows id Left)) (id ∷ []) (flat_map (whole rows) (hanging rows id Right))
      ∙ (λ i. sym (whole_walks id Left) i ++ id ∷ sym (whole_walks id Right) i)

  pub given_visit : (ts : List Task) (id : OpId) (more : List OpId) → flat_map (given rows) (ts ++ tasks_of rows id) ++ more ≡ flat_map (given rows) (ts ++ Visit id ∷ []) ++ more
  given_visit ts id more =
      ap (λ is. is ++ more)
      (flat_map-append (given rows) ts (tasks_of rows id) ∙ ap (λ is. flat_map (given rows) ts ++ is) (given_tasks id ∙ sym (append-nil (whole rows id))) ∙ sym (flat_map-append (given rows) ts (Visit id ∷ [])))

  pub given_give : (ts : List Task) (id : OpId) (more : List OpId) → flat_map (given rows) ts ++ id ∷ more ≡ flat_map (given rows) (ts ++ Give id ∷ []) ++ more
  given_give ts id more =
      sym (append_assoc (flat_map (given rows) ts) (id ∷ []) more) ∙ ap (λ is. is ++ more) (sym (flat_map-append (given rows) ts (Give id ∷ [])))

  steps-append : (ts us : List Task) → steps_left rows (ts ++ us) ≡ steps_left rows ts + steps_left rows us
  steps-append [] us = omega arith
  steps-append (task ∷ ts) us = let rest = steps-append ts us in omega arith

  steps_visits : (cs : List OpId) → steps_left rows (map Visit cs) ≡ 2 * length (flat_map (whole rows) cs)
  steps_visits [] = refl
  steps_visits (c ∷ cs) = let rest = steps_visits cs in let l = length-append (whole rows c) (flat_map (whole rows) cs) in omega arith

  pub steps_give : (ts : List Task) (id : OpId) → steps_left rows ts < steps_left rows (ts ++ Give id ∷ [])
  steps_give ts id = let e = steps-append ts (Give id ∷ []) in omega arith

  steps_tasks : (id : OpId) → steps_left rows (tasks_of rows id) < weight rows (Visit id)
  steps_tasks id =
      let lefts = hanging rows id Left in
      let rights = hanging rows id Right in
      let one = steps-append (map Visit lefts ++ Give id ∷ []) (map Visit rights) in
      let two = steps-append (map Visit lefts) (Give id ∷ []) in
      let l = steps_visits lefts in
      let r = steps_visits rights in
      let parts : length (whole rows id) ≡ length (flat_map (whole rows) lefts) + suc (length (flat_map (whole rows) rights)) =
      ap length (λ i. whole_walks id Left i ++ id ∷ whole_walks id Right i) ∙ length-append (flat_map (whole rows) lefts) (id ∷ flat_map (whole rows) rights) in
      omega arith

  pub steps_visit : (ts : List Task) (id : OpId) → steps_left rows (ts ++ tasks_of rows id) < steps_left rows (ts ++ Visit id ∷ [])
  steps_visit ts id =
      let one = steps-append ts (tasks_of rows id) in
      let two = steps-append ts (Visit id ∷ []) in
      let less = steps_tasks id in
      omega arith
