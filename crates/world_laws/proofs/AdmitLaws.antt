-- In a history, a change that is ready at a ledger fits it.
use Rattle.std.proofs.Common.{◌≡◌, ℕ, suc, ◌<◌, ◌≤◌, ◌⊎◌, ◌||◌, true, false, cond, eqb, ltb, leb, List, [], ◌∷◌, ◌++◌, length, refl, sym, ap, subst, ◌∙◌, arith, inl, inr}
use Rattle.std.specs.Prelude.{Option, Some, None, is_some, find, filter, fold, Contains, slice_index, replicate, IfSome}
use Rattle.std.specs.List.{AllByRecursion, last_or}
use Rattle.std.specs.Option.{option_map_or}
use Rattle.std.specs.FinMap.{get}
use Rattle.std.proofs.lemmas.Bool.{cases_eq, cases_lt, eq-eqb, ne_eqb, eqb-true, leb-true}
use Rattle.std.proofs.lemmas.List.Sums.{sum_by-cons}
use Rattle.op_ids.specs.declared.OpId.{OpId}
use Rattle.model.specs.Base.{members, count_of, last_change, known_by, time_of}
use Rattle.model.specs.Change.{Change, name_of, has_name, is_before, placed}
use Rattle.model.specs.Held.{held, is_ready, fits, late_cause, before_cause}
use Rattle.model.specs.Ledger.{Sound, IsAmong, Joins}
use Rattle.model.specs.State.{State, Atom, by_ids, change_atoms, atoms, replay, empty_state}
use Rattle.model.specs.World.{IsHistory, AreAmong, counted_by}
use Rattle.model_laws.specs.Arrival.{IsSingle}
use Rattle.world_laws.specs.Worlds.{HistoryFits}
use Rattle.arrival_laws.proofs.AddLaws.{own, all_pass, all_kept}
use Rattle.model_laws.proofs.ArrivalLaws.{done_one, all_done}
use Rattle.model_laws.proofs.ListLaws.{last_passing, all_append, all_more, all_both}
use Rattle.model_laws.proofs.Presence.{Has, Any, child_there, node_new, node_stays, position_new, position_stays, text_new, text_stays, list_new, list_stays, element_new, element_stays}
use Rattle.arrival_laws.proofs.ReadLaws.{last_number}
use Rattle.arrival_laws.proofs.ReferLaws.{RightAlong, AllSingle, IsRight, after_right, whole_to, whole_more, WholeRight}
use Rattle.arrival_laws.proofs.SoundLaws.{is_one, is_none, Numbered, Ready, ready_from, fits_from, each_more, joins_numbered, joins_refers, Refers, right_along, atoms_single, found, name, reach_from}
use Rattle.arrival_laws.proofs.StableLaws.{fitting, of_member}
use Rattle.model_laws.proofs.Tables.{both_true}
use Rattle.arrival_laws.proofs.InLaws.{In, all_in, find_passes, numbers_within}

-- ---- what a list of operations makes

abbrev InAtoms : List Atom → Atom → Type 0
InAtoms [] a = ⊥
InAtoms (b ∷ bs) a = (a ≡ b) ⊎ InAtoms bs a

-- something that may be there in a state: it stays, and an operation that makes it makes it in every state
record Lasting (There : State → Type 0) : Type 0 where
  stays : (u : State) (a : Atom) → IsSingle a.operation → There u → There (done_one u a)
  new : (u : State) (a : Atom) → IsSingle a.operation → IsRight u a → There (done_one u a) → There u ⊎ ((v : State) → There (done_one v a))

module _ (There : State → Type 0) (l : Lasting There) where
  stays_along : (u : State) (list : List Atom) → AllSingle list → There u → There (all_done u list)
  stays_along u [] s t = t
  stays_along u (a ∷ list) s t = stays_along (done_one u a) list s.1 (l.stays u a s.0 t)

  made_there : (u : State) (list : List Atom) (a : Atom) → AllSingle list → InAtoms list a → ((v : State) → There (done_one v a)) → There (all_done u list)
  made_there u [] a s i m = absurd i
  made_there u (b ∷ list) a s i m =
      elim i as (λ _. There (all_done (done_one u b) list)) [
        | inl e ↦ stays_along (done_one u b) list s.1 (subst (λ x. There (done_one u x)) e (m u))
        | inr j ↦ made_there (done_one u b) list a s.1 j m
      ]

  -- what a list makes is made by any list with its operations
  there_too : (u v : State) (list more : List Atom) → AllSingle list → RightAlong u list → AllSingle more → AllByRecursion (InAtoms more) list → (There u → There (all_done v more)) → There (all_done u list) → There (all_done v more)
  there_too u v [] more s g s' i f t = f t
  there_too u v (a ∷ list) more s g s' i f t =
      there_too (done_one u a) v list more s.1 g.1 s' i.1
      (λ made. elim (l.new u a s.0 g.0 made) as (λ _. There (all_done v more)) [ inl was ↦ f was | inr m ↦ made_there v more a s' i.0 m ]) t

lasting_node : (q : OpId) → Lasting (λ u. is_some (get u.nodes q) ≡ true)
lasting_node q = record {
  stays = λ u a s t. node_stays u.nodes a.id a.operation q t;
  new = λ u a s r t. elim (node_new u.nodes a.id a.operation (child_there u a.operation r.there) q t) as (λ _. (is_some (get u.nodes q) ≡ true) ⊎ ((v : State) → is_some (get (done_one v a).nodes q) ≡ true)) [ inl e ↦ inl e | inr e ↦ inr (λ v. e.1 v.nodes) ];
}

lasting_position : (o q : OpId) → Lasting (λ u. is_some (get u.positions (o, q)) ≡ true)
lasting_position o q = record {
  stays = λ u a s t. position_stays u.positions a.id a.operation (o, q) t;
  new = λ u a s r t. elim (position_new u.positions a.id a.operation o q t) as (λ _. (is_some (get u.positions (o, q)) ≡ true) ⊎ ((v : State) → is_some (get (done_one v a).positions (o, q)) ≡ true)) [ inl e ↦ inl e | inr e ↦ inr (λ v. e.1 v.positions) ];
}

lasting_text : (o q : OpId) → Lasting (λ u. is_some (get u.texts (o, q)) ≡ true)
lasting_text o q = record {
  stays = λ u a s t. text_stays u.texts a.id a.operation s (o, q) t;
  new = λ u a s r t. elim (text_new u.texts a.id a.operation s o q t) as (λ _. (is_some (get u.texts (o, q)) ≡ true) ⊎ ((v : State) → is_some (get (done_one v a).texts (o, q)) ≡ true)) [ inl e ↦ inl e | inr e ↦ inr (λ v. e.1 v.texts) ];
}

lasting_list : (o q : OpId) → Lasting (λ u. is_some (get u.list_positions (o, q)) ≡ true)
lasting_list o q = record {
  stays = λ u a s t. list_stays u.list_positions a.id a.operation (o, q) t;
  new = λ u a s r t. elim (list_new u.list_positions a.id a.operation o q t) as (λ _. (is_some (get u.list_positions (o, q)) ≡ true) ⊎ ((v : State) → is_some (get (done_one v a).list_positions (o, q)) ≡ true)) [ inl e ↦ inl e | inr e ↦ inr (λ v. e.1 v.list_positions) ];
}

lasting_element : (o q : OpId) → Lasting (λ u. is_some (get u.elements (o, q)) ≡ true)
lasting_element o q = record {
  stays = λ u a s t. element_stays u.elements a.id a.operation (o, q) t;
  new = λ u a s r t. elim (element_new u.elements a.id a.operation o q t) as (λ _. (is_some (get u.elements (o, q)) ≡ true) ⊎ ((v : State) → is_some (get (done_one v a).elements (o, q)) ≡ true)) [ inl e ↦ inl e | inr e ↦ inr (λ v. e.1 v.elements) ];
}

pub has_more_of : (u : State) (list more : List Atom) → AllSingle list → RightAlong u list → AllSingle more → AllByRecursion (InAtoms more) list → Has Any (all_done u list) (all_done u more)
has_more_of u list more s g s' i = record {
  nodes = λ q _ t. let l = lasting_node q in there_too (λ v. is_some (get v.nodes q) ≡ true) l u u list more s g s' i (λ w. stays_along (λ v. is_some (get v.nodes q) ≡ true) l u more s' w) t;
  positions = λ o q _ t. let l = lasting_position o q in there_too (λ v. is_some (get v.positions (o, q)) ≡ true) l u u list more s g s' i (λ w. stays_along (λ v. is_some (get v.positions (o, q)) ≡ true) l u more s' w) t;
  texts = λ o q _ t. let l = lasting_text o q in there_too (λ v. is_some (get v.texts (o, q)) ≡ true) l u u list more s g s' i (λ w. stays_along (λ v. is_some (get v.texts (o, q)) ≡ true) l u more s' w) t;
  list_positions = λ o q _ t. let l = lasting_list o q in there_too (λ v. is_some (get v.list_positions (o, q)) ≡ true) l u u list more s g s' i (λ w. stays_along (λ v. is_some (get v.list_positions (o, q)) ≡ true) l u more s' w) t;
  elements = λ o q _ t. let l = lasting_element o q in there_too (λ v. is_some (get v.elements (o, q)) ≡ true) l u u list more s g s' i (λ w. stays_along (λ v. is_some (get v.elements (o, q)) ≡ true) l u more s' w) t;
}

-- ---- atoms of changes

in_front : (xs ys : List Atom) (a : Atom) → InAtoms xs a → InAtoms (xs ++ ys) a
in_front [] ys a i = absurd i
in_front (x ∷ xs) ys a i = elim i as (λ _. (a ≡ x) ⊎ InAtoms (xs ++ ys) a) [ inl e ↦ inl e | inr j ↦ inr (in_front xs ys a j) ]

in_back : (xs ys : List Atom) (a : Atom) → InAtoms ys a → InAtoms (xs ++ ys) a
in_back [] ys a i = i
in_back (x ∷ xs) ys a i = inr (in_back xs ys a i)

atoms_of : (h : List Change) (x : Change) (a : Atom) → In h x → InAtoms (change_atoms x) a → InAtoms (atoms h) a
atoms_of [] x a i j = absurd i
atoms_of (c ∷ h) x a i j =
    elim i as (λ _. InAtoms (change_atoms c ++ atoms h) a) [
      | inl e ↦ in_front (change_atoms c) (atoms h) a (subst (λ y. InAtoms (change_atoms y) a) e j)
      | inr k ↦ in_back (change_atoms c) (atoms h) a (atoms_of h x a k j)
    ]

each_atom : (list : List Atom) → AllByRecursion (InAtoms list) list
each_atom [] = tt
each_atom (a ∷ list) = (inl refl, all_more (InAtoms list) (InAtoms (a ∷ list)) (λ b i. inr i) list (each_atom list))

pub atoms_in : (g h : List Change) → AllByRecursion (In h) g → AllByRecursion (InAtoms (atoms h)) (atoms g)
atoms_in [] h i = tt
atoms_in (x ∷ g) h i =
    all_append (InAtoms (atoms h)) (change_atoms x) (atoms g) (all_more (InAtoms (change_atoms x)) (InAtoms (atoms h)) (λ a j. atoms_of h x a i.0 j) (change_atoms x) (each_atom (change_atoms x))) (atoms_in g h i.1)

-- ---- the changes that are counted

pub all_sorted : (P : Change → Type 0) (ys xs : List Change) → AllByRecursion P ys → AllByRecursion P xs → AllByRecursion P (fold (λ ys x. placed is_before x ys) ys xs)
all_sorted P ys [] h k = h
all_sorted P ys (x ∷ xs) h k = all_sorted P (placed is_before x ys) xs (all_append P (filter (λ y. is_before y x) ys) (x ∷ filter (λ y. is_before x y) ys) (all_kept P (λ y. is_before y x) ys h) (k.0, all_kept P (λ y. is_before x y) ys h)) k.1

pub contains_in : (all : List Change) (x : Change) → In all x → Contains all x
contains_in [] x i = absurd i
contains_in (y ∷ ys) x i =
    elim i as (λ _. Contains (y ∷ ys) x) [
      | inl e ↦ (0, omega arith, sym e)
      | inr j ↦ (let c = contains_in ys x j in let l : c.0 < length ys = c.1 in (suc c.0, omega arith, c.2))
    ]

abbrev pub Counted : List Change → Change → Change → Type 0
Counted all c x = Contains all x × (x.number ≤ slice_index c.causes x.member)

pub counted_each : (all : List Change) (c : Change) → AllByRecursion (Counted all c) (counted_by all c)
counted_each all c =
    let test = λ (d : Change). leb d.number (slice_index c.causes d.member) in
    all_sorted (Counted all c) [] (filter test all) tt
    (all_both (Contains all) (λ x. x.number ≤ slice_index c.causes x.member) (filter test all) (all_kept (Contains all) test all (all_more (In all) (Contains all) (contains_in all) all (all_in all)))
    (all_more (λ x. test x ≡ true) (λ x. x.number ≤ slice_index c.causes x.member) (λ x e. leb-true x.number (slice_index c.causes x.member) e) (filter test all) (all_pass test all)))

-- ---- one change of each name

-- that of a name in a numbered list of the history
pub record Known (all : List Change) (k q : ℕ) (xs : List Change) : Type 0 where
  pub change : Change
  pub is : find (has_name (name k q)) xs ≡ Some change
  pub drawn : Contains all change
  pub inside : In xs change
  pub named : name_of change ≡ name k q

pub known : (n : ℕ) (all xs : List Change) (k q : ℕ) → Sound n xs → AllByRecursion (Contains all) xs → 1 ≤ q → q ≤ count_of xs k → Known all k q xs
known n all xs k q sound drawn some most =
    let there = found (λ y. Contains all y × In xs y) k q [] xs (each_more (Joins n) Numbered (joins_numbered n) [] xs sound.each) (all_both (Contains all) (In xs) xs drawn (all_in xs)) some most in
    let passes = both_true (eqb there.0.member k) (eqb there.0.number q) (find_passes (has_name (name k q)) xs there.0 there.1) in
    record { change = there.0; is = there.1; drawn = there.2.0; inside = there.2.1; named = λ i. record { member = eqb-true there.0.member k passes.0 i; number = eqb-true there.0.number q passes.1 i } }

pub no_last : (o : Option Change) (g : List Change) (m : ℕ) → last_or o (own m g) ≡ None → (o ≡ None) × (count_of g m ≡ 0)
no_last o [] m e = (e, refl)
no_last o (x ∷ g) m e =
    elim (cases_eq x.member m) as (λ _. (o ≡ None) × (count_of (x ∷ g) m ≡ 0)) [
      | inl same ↦
          let t : eqb x.member m ≡ true = eq-eqb x.member m same in
          let e' : last_or (Some x) (own m g) ≡ None = rw t at e in
          let rest = no_last (Some x) g m e' in
          let bad : Some x ≡ None = rest.0 in absurd cc
      | inr other ↦
          let t : eqb x.member m ≡ false = ne_eqb x.member m other in
          let e' : last_or o (own m g) ≡ None = rw t at e in
          let rest = no_last o g m e' in
          let none = is_none x m other in
          (rest.0, omega (arith, rest.1, sum_by-cons (λ d. cond (eqb d.member m) 1 0) x g))
    ]

-- a member with a last change made some
pub some_last : (o : Option Change) (g : List Change) (m : ℕ) (x : Change) → last_or o (own m g) ≡ Some x → (o ≡ Some x) ⊎ (1 ≤ count_of g m)
some_last o [] m x e = inl e
some_last o (y ∷ g) m x e =
    elim (cases_eq y.member m) as (λ _. (o ≡ Some x) ⊎ (1 ≤ count_of (y ∷ g) m)) [
      | inl same ↦ (let one = is_one y m same in inr (omega (arith, sum_by-cons (λ d. cond (eqb d.member m) 1 0) y g)))
      | inr other ↦
          let t : eqb y.member m ≡ false = ne_eqb y.member m other in
          let e' : last_or o (own m g) ≡ Some x = rw t at e in
          elim (some_last o g m x e') as (λ _. (o ≡ Some x) ⊎ (1 ≤ count_of (y ∷ g) m)) [ inl k ↦ inl k | inr k ↦ inr (omega (arith, sum_by-cons (λ d. cond (eqb d.member m) 1 0) y g)) ]
    ]

pub last_made : (g : List Change) (m : ℕ) (x : Change) → last_change g m ≡ Some x → 1 ≤ count_of g m
last_made g m x e = elim (some_last None g m x e) as (λ _. 1 ≤ count_of g m) [ inl k ↦ absurd cc | inr k ↦ k ]

-- ---- the law

module _ (n : ℕ) (all h : List Change) (c : Change) (history : IsHistory n all) (sound : Sound n h) (drawn : AreAmong all h) (is : Contains all c) (ready : is_ready n (held n h) c ≡ true) where
  g_sound : Sound n (counted_by all c)
  g_sound = (history.knew c is).0

  g_joins : Joins n (counted_by all c) c
  g_joins = (history.knew c is).1

  g_drawn : AllByRecursion (Contains all) (counted_by all c)
  g_drawn = all_more (Counted all c) (Contains all) (λ x p. p.0) (counted_by all c) (counted_each all c)

  ready_h : Ready n h c
  ready_h = ready_from n h c ready

  ready_g : Ready n (counted_by all c) c
  ready_g = ready_from n (counted_by all c) c g_joins.ready

  cause_h : (k : ℕ) → k < n → slice_index c.causes k ≤ count_of h k
  cause_h k l = of_member (λ k. slice_index c.causes k ≤ count_of h k) n k ready_h.causes l

  -- each counted change is in the ledger
  g_in_h : AllByRecursion (In h) (counted_by all c)
  g_in_h =
      all_more (λ x. Counted all c x × (IsAmong n x × ((1 ≤ x.number) × (x.number ≤ count_of (counted_by all c) x.member)))) (In h)
      (λ x f. let cause = cause_h x.member f.1.0.member in
      let y = known n all h x.member x.number sound drawn f.1.1.0 (let a = f.0.1 in omega arith) in
      let same : x ≡ y.change = history.one_each x y.change f.0.0 y.drawn (sym y.named) in
      subst (In h) (sym same) y.inside)
      (counted_by all c)
      (all_both (Counted all c) (λ x. IsAmong n x × ((1 ≤ x.number) × (x.number ≤ count_of (counted_by all c) x.member))) (counted_by all c) (counted_each all c)
      (all_both (IsAmong n) (λ x. (1 ≤ x.number) × (x.number ≤ count_of (counted_by all c) x.member)) (counted_by all c) g_sound.among
      (numbers_within [] (counted_by all c) (each_more (Joins n) Numbered (joins_numbered n) [] (counted_by all c) g_sound.each))))

  same_counts : count_of (counted_by all c) c.member ≡ count_of h c.member
  same_counts = let a = ready_h.is_next in let b = ready_g.is_next in omega arith

  -- what is known of the last change of a member
  abbrev LastIs : List Change → Change → Type 0
  LastIs xs d = (d.member ≡ c.member) × Contains all d × (d.number ≡ count_of xs c.member)

  last_is : (xs : List Change) → Sound n xs → AllByRecursion (Contains all) xs → IfSome (last_change xs c.member) (LastIs xs)
  last_is xs s d =
      let numbered = each_more (Joins n) Numbered (joins_numbered n) [] xs s.each in
      let a = last_passing (λ d. (d.member ≡ c.member) × Contains all d) (λ d. eqb d.member c.member) None xs tt (all_more (Contains all) (λ d. eqb d.member c.member ≡ true → (d.member ≡ c.member) × Contains all d) (λ x k e. (eqb-true x.member c.member e, k)) xs d) in
      let b = last_number [] xs c.member None numbered tt in
      elim (last_change xs c.member) as (λ o. IfSome o (λ d. (d.member ≡ c.member) × Contains all d) → IfSome o (λ d. d.number ≡ count_of xs c.member) → IfSome o (LastIs xs)) [ None ↦ λ a b. tt | Some x ↦ λ a b. (a.0, a.1, b) ] a b

  same_option : (o p : Option Change) → last_change (counted_by all c) c.member ≡ o → last_change h c.member ≡ p → IfSome o (LastIs (counted_by all c)) → IfSome p (LastIs h) → o ≡ p
  same_option None None s t a b = refl
  same_option (Some x) (Some y) s t a b =
      ap Some (history.one_each x y a.1 b.1 (λ i. record { member = (a.0 ∙ sym b.0) i; number = (a.2 ∙ same_counts ∙ sym b.2) i }))
  same_option None (Some y) s t a b =
      let zero = (no_last None (counted_by all c) c.member s).1 in
      let number : y.number ≡ count_of h c.member = b.2 in
      let none : count_of h c.member ≡ 0 = sym same_counts ∙ zero in
      let some = last_made h c.member y t in
      absurd (let l : 1 ≤ count_of h c.member = some in omega arith)
  same_option (Some x) None s t a b =
      let zero = (no_last None h c.member t).1 in
      let some = last_made (counted_by all c) c.member x s in
      absurd (let l : 1 ≤ count_of (counted_by all c) c.member = some in let e = same_counts in omega arith)

  same_last : last_change (counted_by all c) c.member ≡ last_change h c.member
  same_last = same_option (last_change (counted_by all c) c.member) (last_change h c.member) refl refl (last_is (counted_by all c) g_sound g_drawn) (last_is h sound drawn)

  same_time : (k q : ℕ) → 1 ≤ q → q ≤ count_of (counted_by all c) k → q ≤ count_of h k → time_of (counted_by all c) (name k q) ≡ time_of h (name k q)
  same_time k q some mg mh =
      let x = known n all (counted_by all c) k q g_sound g_drawn some mg in
      let y = known n all h k q sound drawn some mh in
      let same : x.change ≡ y.change = history.one_each x.change y.change x.drawn y.drawn (x.named ∙ sym y.named) in
      ap (λ o. option_map_or (λ d. d.time) o 0) (x.is ∙ ap Some same ∙ sym y.is)

  cause_fits : (k : ℕ) → slice_index c.causes k ≤ count_of (counted_by all c) k → slice_index c.causes k ≤ count_of h k → late_cause (held n (counted_by all c)) c k ≡ None → late_cause (held n h) c k ≡ None
  cause_fits k mg mh e =
      let q = slice_index c.causes k in
      elim (cases_lt 0 q) as (λ _. late_cause (held n h) c k ≡ None) [
        | inl some ↦ subst (λ t. (cond (eqb q 0 || ltb t c.time) None (Some (before_cause k t c.time))) ≡ None) (same_time k q some mg mh) e
        | inr none ↦ (let z : eqb q 0 ≡ true = eq-eqb q 0 (omega arith) in rw z refl)
      ]

  right_of_ledger : (xs : List Change) → Sound n xs → RightAlong empty_state (atoms xs)
  right_of_ledger xs s = right_along [] xs (each_more (Joins n) Refers (joins_refers n) [] xs s.each)

  refers_h : WholeRight (replay h) (by_ids c.time c.member 0 c.operations)
  refers_h =
      let rg = right_of_ledger (counted_by all c) g_sound in
      let rh = right_of_ledger h sound in
      let has = has_more_of empty_state (atoms (counted_by all c)) (atoms h) (atoms_single (counted_by all c)) rg (atoms_single h) (atoms_in (counted_by all c) h g_in_h) in
      let here = subst (λ u. WholeRight u (by_ids c.time c.member 0 c.operations)) (after_right empty_state (atoms (counted_by all c)) rg) (joins_refers n (counted_by all c) c g_joins) in
      subst (λ u. WholeRight u (by_ids c.time c.member 0 c.operations)) (sym (after_right empty_state (atoms h) rh))
      (whole_more Any (all_done empty_state (atoms (counted_by all c))) (all_done empty_state (atoms h)) (by_ids c.time c.member 0 c.operations) (reach_from Any c.time c.member 0 c.operations (λ j at q l. tt)) has here)

  fits_h : fits n (held n h) c ≡ None
  fits_h =
      let f = fitting n (held n (counted_by all c)) c g_joins.fitting in
      fits_from n (held n h) c (record {
        later = subst (λ o. option_map_or (λ d. d.time) o 0 < c.time) same_last f.later;
        remembers = subst (λ o. AllByRecursion (λ k. slice_index (option_map_or known_by o (replicate n 0)) k ≤ slice_index c.causes k) (members n)) same_last f.remembers;
        causes_before = all_more (λ k. (slice_index c.causes k ≤ count_of (counted_by all c) k) × ((slice_index c.causes k ≤ count_of h k) × (late_cause (held n (counted_by all c)) c k ≡ None))) (λ k. late_cause (held n h) c k ≡ None) (λ k p. cause_fits k p.0 p.1.0 p.1.1) (members n)
            (all_both (λ k. slice_index c.causes k ≤ count_of (counted_by all c) k) (λ k. (slice_index c.causes k ≤ count_of h k) × (late_cause (held n (counted_by all c)) c k ≡ None)) (members n) ready_g.causes
            (all_both (λ k. slice_index c.causes k ≤ count_of h k) (λ k. late_cause (held n (counted_by all c)) c k ≡ None) (members n) ready_h.causes f.causes_before));
        refers = whole_to (replay h) 0 (by_ids c.time c.member 0 c.operations) refers_h;
      })

pub history_fits : HistoryFits
history_fits n all h c history sound drawn is ready = fits_h n all h c history sound drawn is ready
