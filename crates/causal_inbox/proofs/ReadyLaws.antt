-- The least ready change, found member by member.
use Rattle.std.specs.Prelude.{◌≡◌, ℕ, zero, suc, ◌<◌, ◌≤◌, ◌+◌, ◌^◌, ◌==◌, Bool, true, false, not, cond, ◌||◌, ◌&&◌, List, [], ◌∷◌, ◌++◌, length, filter, fold, slice_index, Option, Some, None, refl}
use Rattle.std.proofs.Common.{sym, ◌∙◌, ap, subst, arith, eqb, ltb, ◌⊎◌, inl, inr, eqb-true, lt-ltb, append-nil}
use Rattle.std.proofs.lemmas.Bool.Decides.{nat_tests}
use Rattle.std.specs.List.{AllByRecursion, find, reduce, list_all, range_with_len}
use Rattle.std.specs.Option.{option_map, option_to_list}
use Rattle.version_vector.specs.Counts.{AtLeast}
use Rattle.model.specs.Change.{Change, IsChange, has_name, name_of, is_before}
use Rattle.model.specs.Base.{members}
use Rattle.model.specs.Held.{is_missing}
use Rattle.model.specs.Settle.{name_before, earlier}
use Rattle.model_laws.proofs.ListLaws.{filter_all, filter_none, all_more}
use Rattle.causal_inbox.specs.Names.{name_by, NamesRise, others}
use Rattle.causal_inbox.specs.Counted.{counted, IsReady, first_ready, candidate_of, lesser_of}
use Rattle.causal_inbox.specs.declared.ready.Candidate.{Candidate}
use Rattle.causal_inbox.proofs.NameLaws.{members_rise, own_name, other_name}

-- ---- tests on lists

abbrev pub both : (Change → Bool) → (Change → Bool) → Change → Bool
both p q c = p c && q c

filter-both : (p q : Change → Bool) (cs : List Change) → filter q (filter p cs) ≡ filter (both p q) cs
filter-both p q [] = refl
filter-both p q (c ∷ cs) =
    let rest = filter-both p q cs in
    elim (p c) as (λ b. filter q (cond b (c ∷ filter p cs) (filter p cs)) ≡ cond (b && q c) (c ∷ filter (both p q) cs) (filter (both p q) cs)) [
      | true ↦ ap (cond (q c) (c ∷ filter q (filter p cs))) rest ∙ ap (λ (ds : List Change). cond (q c) (c ∷ ds) (filter (both p q) cs)) rest
      | false ↦ rest
    ]

filter-append : (p : Change → Bool) (xs ys : List Change) → filter p (xs ++ ys) ≡ filter p xs ++ filter p ys
filter-append p [] ys = refl
filter-append p (x ∷ xs) ys = elim (p x) as (λ b. cond b (x ∷ filter p (xs ++ ys)) (filter p (xs ++ ys)) ≡ cond b (x ∷ filter p xs) (filter p xs) ++ filter p ys) [ true ↦ ap (λ (zs : List Change). x ∷ zs) (filter-append p xs ys) | false ↦ filter-append p xs ys ]

pub find_passing : (P : Change → Type 0) (p : Change → Bool) (cs : List Change) (c : Change) → AllByRecursion P cs → find p cs ≡ Some c → P c × (p c ≡ true)
find_passing P p [] c h e = absurd cc
find_passing P p (d ∷ cs) c h e =
    elim (p d) as (λ b. p d ≡ b → cond b (Some d) (find p cs) ≡ Some c → P c × (p c ≡ true)) [
      | true ↦ λ t f. let same : d ≡ c = cc in (subst P same h.0, ap p (sym same) ∙ t)
      | false ↦ λ t f. find_passing P p cs c h.1 f
    ] refl e

-- Of these tests at most one of the changes passes.
abbrev pub OneAtMost : (Change → Bool) → Type 0
OneAtMost p = (c d : Change) → p c ≡ true → name_before c d ≡ true → p d ≡ false

others_fail : (p : Change → Bool) → OneAtMost p → (c : Change) (cs : List Change) → p c ≡ true → AllByRecursion (λ d. name_before c d ≡ true) cs → AllByRecursion (λ d. p d ≡ false) cs
others_fail p one c cs t h = all_more (λ d. name_before c d ≡ true) (λ d. p d ≡ false) (λ d e. one c d t e) cs h

pub the_one : (p : Change → Bool) → OneAtMost p → (cs : List Change) → NamesRise cs → filter p cs ≡ option_to_list (find p cs)
the_one p one [] r = refl
the_one p one (c ∷ cs) r =
    elim (p c) as (λ b. p c ≡ b → cond b (c ∷ filter p cs) (filter p cs) ≡ option_to_list (cond b (Some c) (find p cs))) [
      | true ↦ λ t. ap (λ (ds : List Change). c ∷ ds) (filter_none p cs (others_fail p one c cs t r.0))
      | false ↦ λ t. the_one p one cs r.1
    ] refl

find_fails : (p : Change → Bool) (cs : List Change) → AllByRecursion (λ d. p d ≡ false) cs → find p cs ≡ None
find_fails p [] h = refl
find_fails p (c ∷ cs) h = rw h.0 (find_fails p cs h.1)

-- ---- the ready change of a member

-- all its causes are held
abbrev pub has_causes : List ℕ → Change → Bool
has_causes held c = list_all (λ k. not (is_missing (counted held) c k)) (members (length held))

-- the test by the name and then by the causes
pub by_name : (held : List ℕ) (m : ℕ) (c : Change) → (eqb c.member m && IsReady held c) ≡ (has_name (name_by (m, slice_index held m + 1)) c && has_causes held c)
by_name held m c =
    elim (eqb c.member m) as (λ b. eqb c.member m ≡ b → (b && (eqb c.number (slice_index held c.member + 1) && has_causes held c)) ≡ ((b && eqb c.number (slice_index held m + 1)) && has_causes held c)) [
      | true ↦ λ t. ap (λ k. eqb c.number (slice_index held k + 1) && has_causes held c) (eqb-true c.member m t)
      | false ↦ λ _. refl
    ] refl

same_find : (p q : Change → Bool) → ((c : Change) → p c ≡ q c) → (cs : List Change) → find p cs ≡ find q cs
same_find p q h [] = refl
same_find p q h (c ∷ cs) = let e = h c in let f = same_find p q h cs in λ i. cond (e i) (Some c) (f i)

named_once : (k : ℕ × ℕ) → OneAtMost (has_name (name_by k))
named_once k c d t e = other_name k c d t e

both_fail : (p q : Change → Bool) (cs : List Change) → AllByRecursion (λ d. p d ≡ false) cs → AllByRecursion (λ d. both p q d ≡ false) cs
both_fail p q cs h = all_more (λ d. p d ≡ false) (λ d. both p q d ≡ false) (λ d e. ap (λ b. b && q d) e) cs h

find_none_both : (p q : Change → Bool) (cs : List Change) → find p cs ≡ None → find (both p q) cs ≡ None
find_none_both p q [] e = refl
find_none_both p q (c ∷ cs) e =
    elim (p c) as (λ b. cond b (Some c) (find p cs) ≡ None → cond (b && q c) (Some c) (find (both p q) cs) ≡ None) [
      | true ↦ λ f. absurd cc
      | false ↦ λ f. find_none_both p q cs f
    ] e

find_one_both : (p q : Change → Bool) → OneAtMost p → (cs : List Change) (c : Change) → NamesRise cs → find p cs ≡ Some c → find (both p q) cs ≡ cond (q c) (Some c) None
find_one_both p q one [] c r e = absurd cc
find_one_both p q one (d ∷ cs) c r e =
    elim (p d) as (λ b. p d ≡ b → cond b (Some d) (find p cs) ≡ Some c → cond (b && q d) (Some d) (find (both p q) cs) ≡ cond (q c) (Some c) None) [
      | true ↦ λ t f.
          let same : d ≡ c = cc in
          let none = find_fails (both p q) cs (both_fail p q cs (others_fail p one d cs t r.0)) in
          ap (cond (q d) (Some d)) none ∙ ap (λ (x : Change). cond (q x) (Some x) None) same
      | false ↦ λ t f. find_one_both p q one cs c r.1 f
    ] refl e

abbrev pub ready_at : List ℕ → ℕ → List Change → Option Change
ready_at held m cs = find (λ c. c.member == m && IsReady held c) cs

abbrev pub next_key : List ℕ → ℕ → ℕ × ℕ
next_key held m = (m, slice_index held m + 1)

pub none_next : (held : List ℕ) (m : ℕ) (cs : List Change) → find (has_name (name_by (next_key held m))) cs ≡ None → ready_at held m cs ≡ None
none_next held m cs e = same_find _ (both (has_name (name_by (next_key held m))) (has_causes held)) (by_name held m) cs ∙ find_none_both (has_name (name_by (next_key held m))) (has_causes held) cs e

pub one_next : (held : List ℕ) (m : ℕ) (cs : List Change) (c : Change) → NamesRise cs → find (has_name (name_by (next_key held m))) cs ≡ Some c → ready_at held m cs ≡ cond (has_causes held c) (Some c) None
one_next held m cs c r e =
    let k = next_key held m in
    same_find _ (both (has_name (name_by k)) (has_causes held)) (by_name held m) cs ∙ find_one_both (has_name (name_by k)) (has_causes held) (named_once k) cs c r e

-- a number that no change has
unnumbered : (a b k l : ℕ) → b < l → (eqb a k && eqb b l) ≡ false
unnumbered a b k l h = grind (arith, nat_tests)

pub too_many : (held : List ℕ) (n m : ℕ) (cs : List Change) → AllByRecursion (IsChange n) cs → 2 ^ 32 ≤ slice_index held m + 1 → ready_at held m cs ≡ None
too_many held n m cs h le =
    none_next held m cs (find_fails (has_name (name_by (next_key held m))) cs
    (all_more (IsChange n) (λ d. has_name (name_by (next_key held m)) d ≡ false) (λ d is. unnumbered d.member d.number m (slice_index held m + 1) (omega (arith, is.number_most))) cs h))

-- ---- causes

not_less : (a b : ℕ) → not (ltb a b) ≡ true → b ≤ a
not_less a b e = grind (arith, nat_tests)

is_not_less : (a b : ℕ) → b ≤ a → not (ltb a b) ≡ true
is_not_less a b e = grind (arith, nat_tests)

less : (a b : ℕ) → not (ltb a b) ≡ false → a < b
less a b e = grind (arith, nat_tests)

pub causes_held : (held : List ℕ) (c : Change) → length c.causes ≡ length held → AtLeast held c.causes → has_causes held c ≡ true
causes_held held c l h = each (length held) 0 (omega arith)
  where
    each : (n a : ℕ) → a + n ≤ length held → list_all (λ k. not (is_missing (counted held) c k)) (range_with_len a n) ≡ true
    each zero a le = refl
    each (suc n) a le = rw (is_not_less (slice_index held a) (slice_index c.causes a) (h a (omega arith))) (each n (a + 1) (omega arith))

pub causes_lack : (held : List ℕ) (c : Change) → length c.causes ≡ length held → (AtLeast held c.causes → ⊥) → has_causes held c ≡ false
causes_lack held c l out =
    elim (has_causes held c) as (λ b. has_causes held c ≡ b → b ≡ false) [
      | true ↦ λ t. absurd (out (λ m lt. at m (length held) 0 t (omega arith) (omega arith)))
      | false ↦ λ _. refl
    ] refl
  where
    at : (m n a : ℕ) → list_all (λ k. not (is_missing (counted held) c k)) (range_with_len a n) ≡ true → a ≤ m → m < a + n → slice_index c.causes m ≤ slice_index held m
    at m zero a t le lt = absurd (omega arith)
    at m (suc n) a t le lt =
        let p = halves (not (is_missing (counted held) c a)) (list_all (λ k. not (is_missing (counted held) c k)) (range_with_len (a + 1) n)) t in
        elim (eqb a m) as (λ b. eqb a m ≡ b → slice_index c.causes m ≤ slice_index held m) [
          | true ↦ λ e. subst (λ k. slice_index c.causes k ≤ slice_index held k) (eqb-true a m e) (not_less (slice_index held a) (slice_index c.causes a) p.0)
          | false ↦ λ e. at m n (a + 1) p.1 (next a m e le) (omega arith)
        ] refl
      where
        halves : (x y : Bool) → (x && y) ≡ true → (x ≡ true) × (y ≡ true)
        halves true y e = (refl, e)
        halves false y e = absurd cc

        next : (a m : ℕ) → eqb a m ≡ false → a ≤ m → a + 1 ≤ m
        next a m e le = grind (arith, nat_tests)

-- ---- members below a number

abbrev pub below : ℕ → List Change → List Change
below m cs = filter (λ c. ltb c.member m) cs

abbrev of_member : ℕ → List Change → List Change
of_member m cs = filter (λ c. eqb c.member m) cs

pub below_none : (cs : List Change) → below 0 cs ≡ []
below_none cs = filter_none (λ c. ltb c.member 0) cs (each cs)
  where
    no_less : (a : ℕ) → ltb a 0 ≡ false
    no_less a = grind (arith, nat_tests)

    each : (ds : List Change) → AllByRecursion (λ d. ltb d.member 0 ≡ false) ds
    each [] = tt
    each (d ∷ ds) = (no_less d.member, each ds)

pub below_all : (n : ℕ) (cs : List Change) → AllByRecursion (IsChange n) cs → below n cs ≡ cs
below_all n cs h = filter_all (λ c. ltb c.member n) cs (all_more (IsChange n) (λ c. ltb c.member n ≡ true) (λ c is. lt-ltb c.member n is.member) cs h)

one_kind : (a m : ℕ) → ((ltb a (m + 1) ≡ true) × (ltb a m ≡ true) × (eqb a m ≡ false)) ⊎ (((a ≡ m) × (ltb a (m + 1) ≡ true) × (ltb a m ≡ false) × (eqb a m ≡ true)) ⊎ ((ltb a (m + 1) ≡ false) × (ltb a m ≡ false) × (eqb a m ≡ false)))
one_kind a m = elim (ltb a m) as (λ b. ltb a m ≡ b → ((ltb a (m + 1) ≡ true) × (b ≡ true) × (eqb a m ≡ false)) ⊎ (((a ≡ m) × (ltb a (m + 1) ≡ true) × (b ≡ false) × (eqb a m ≡ true)) ⊎ ((ltb a (m + 1) ≡ false) × (b ≡ false) × (eqb a m ≡ false)))) [
  | true ↦ λ t. inl (less_more a m t, refl, less_apart a m t)
  | false ↦ λ t. elim (eqb a m) as (λ b. eqb a m ≡ b → ((ltb a (m + 1) ≡ true) × (false ≡ true) × (b ≡ false)) ⊎ (((a ≡ m) × (ltb a (m + 1) ≡ true) × (false ≡ false) × (b ≡ true)) ⊎ ((ltb a (m + 1) ≡ false) × (false ≡ false) × (b ≡ false)))) [
    | true ↦ λ e. inr (inl (eqb-true a m e, same_more a m e, refl, refl))
    | false ↦ λ e. inr (inr (above a m t e, refl, refl))
  ] refl
] refl
  where
    less_more : (a m : ℕ) → ltb a m ≡ true → ltb a (m + 1) ≡ true
    less_more a m t = grind (arith, nat_tests)

    less_apart : (a m : ℕ) → ltb a m ≡ true → eqb a m ≡ false
    less_apart a m t = grind (arith, nat_tests)

    same_more : (a m : ℕ) → eqb a m ≡ true → ltb a (m + 1) ≡ true
    same_more a m t = grind (arith, nat_tests)

    above : (a m : ℕ) → ltb a m ≡ false → eqb a m ≡ false → ltb a (m + 1) ≡ false
    above a m t e = grind (arith, nat_tests)

not_below : (a m : ℕ) → m ≤ a → ltb a m ≡ false
not_below a m h = grind (arith, nat_tests)

pub below_more : (m : ℕ) (cs : List Change) → NamesRise cs → below (m + 1) cs ≡ below m cs ++ of_member m cs
below_more m [] r = refl
below_more m (c ∷ cs) r =
    let rest = below_more m cs r.1 in
    elim (one_kind c.member m) as (λ _. below (m + 1) (c ∷ cs) ≡ below m (c ∷ cs) ++ of_member m (c ∷ cs)) [
      | inl (x, y, z) ↦ rw (x, y, z) (ap (λ (ds : List Change). c ∷ ds) rest)
      | inr k ↦ elim k as (λ _. below (m + 1) (c ∷ cs) ≡ below m (c ∷ cs) ++ of_member m (c ∷ cs)) [
        | inl (s, x, y, z) ↦
            let none = filter_none (λ d. ltb d.member m) cs (all_more (λ d. name_before c d ≡ true) (λ d. ltb d.member m ≡ false) (λ d e. not_below d.member m (let l = members_rise c d e in omega arith)) cs r.0) in
            rw (x, y, z) (ap (λ (ds : List Change). c ∷ ds) (rest ∙ ap (λ (ds : List Change). ds ++ of_member m cs) none) ∙ ap (λ (ds : List Change). ds ++ (c ∷ of_member m cs)) (sym none))
        | inr (x, y, z) ↦ rw (x, y, z) rest
      ]
    ]

-- ---- the least of a list with one more

abbrev pub joined : Option Change → Option Change → Option Change
joined None o = o
joined (Some a) None = Some a
joined (Some a) (Some b) = Some (earlier a b)

fold_more : (x : Change) (xs : List Change) (b : Change) → fold earlier x (xs ++ b ∷ []) ≡ earlier (fold earlier x xs) b
fold_more x [] b = refl
fold_more x (y ∷ ys) b = fold_more (earlier x y) ys b

pub least_more : (xs : List Change) (o : Option Change) → reduce earlier (xs ++ option_to_list o) ≡ joined (reduce earlier xs) o
least_more [] None = refl
least_more [] (Some b) = refl
least_more (x ∷ xs) None = ap (λ (ys : List Change). Some (fold earlier x ys)) (append-nil xs)
least_more (x ∷ xs) (Some b) = ap Some (fold_more x xs b)

pub seen_joined : (a b : Option Change) → option_map candidate_of (joined a b) ≡ lesser_of (option_map candidate_of a) (option_map candidate_of b)
seen_joined None None = refl
seen_joined None (Some b) = refl
seen_joined (Some a) None = refl
seen_joined (Some a) (Some b) = elim (is_before b a) as (λ t. Some (candidate_of (cond t b a)) ≡ Some (cond t (candidate_of b) (candidate_of a))) [ true ↦ refl | false ↦ refl ]

ready_once : (held : List ℕ) (m : ℕ) → OneAtMost (λ c. c.member == m && IsReady held c)
ready_once held m c d t e =
    let k = next_key held m in
    let p = halves (has_name (name_by k) c) (has_causes held c) (sym (by_name held m c) ∙ t) in
    by_name held m d ∙ ap (λ b. b && has_causes held d) (other_name k c d p e)
  where
    halves : (x y : Bool) → (x && y) ≡ true → x ≡ true
    halves true y e = refl
    halves false y e = absurd cc

-- One member more: the least ready of those below, and the ready one of the member.
pub ready_more : (held : List ℕ) (m : ℕ) (cs : List Change) → NamesRise cs → first_ready held (below (m + 1) cs) ≡ joined (first_ready held (below m cs)) (ready_at held m cs)
ready_more held m cs r =
    let t = λ (c : Change). c.member == m && IsReady held c in
    ap (λ (ds : List Change). reduce earlier (filter (IsReady held) ds)) (below_more m cs r)
    ∙ ap (reduce earlier) (filter-append (IsReady held) (below m cs) (of_member m cs))
    ∙ ap (λ (ds : List Change). reduce earlier (filter (IsReady held) (below m cs) ++ ds)) (filter-both (λ c. eqb c.member m) (IsReady held) cs ∙ the_one t (ready_once held m) cs r)
    ∙ least_more (filter (IsReady held) (below m cs)) (ready_at held m cs)

-- ---- the one that is found

pub fold_keeps : (P : Change → Type 0) (x : Change) (xs : List Change) → P x → AllByRecursion P xs → P (fold earlier x xs)
fold_keeps P x [] p h = p
fold_keeps P x (y ∷ ys) p h = fold_keeps P (earlier x y) ys (elim (is_before y x) as (λ b. P (cond b y x)) [ true ↦ h.0 | false ↦ p ]) h.1

all_kept : (P : Change → Type 0) (p : Change → Bool) (cs : List Change) → AllByRecursion P cs → AllByRecursion P (filter p cs)
all_kept P p [] h = tt
all_kept P p (c ∷ cs) h = elim (p c) as (λ b. AllByRecursion P (cond b (c ∷ filter p cs) (filter p cs))) [ true ↦ (h.0, all_kept P p cs h.1) | false ↦ all_kept P p cs h.1 ]

pub all_others : (P : Change → Type 0) (k : ℕ × ℕ) (cs : List Change) → AllByRecursion P cs → AllByRecursion P (others k cs)
all_others P k cs h = all_kept P (λ d. not (has_name (name_by k) d)) cs h

least_keeps : (P : Change → Type 0) (cs : List Change) (c : Change) → AllByRecursion P cs → reduce earlier cs ≡ Some c → P c
least_keeps P [] c h e = absurd cc
least_keeps P (x ∷ xs) c h e = let same : fold earlier x xs ≡ c = cc in subst P same (fold_keeps P x xs h.0 h.1)

-- each change is found by its name
pub each_found : (cs : List Change) → NamesRise cs → AllByRecursion (λ c. find (has_name (name_of c)) cs ≡ Some c) cs
each_found [] r = tt
each_found (c ∷ cs) r =
    (rw (own_name c) refl, behind cs r.0 (each_found cs r.1))
  where
    behind : (ds : List Change) → AllByRecursion (λ d. name_before c d ≡ true) ds → AllByRecursion (λ d. find (has_name (name_of d)) cs ≡ Some d) ds → AllByRecursion (λ d. find (has_name (name_of d)) (c ∷ cs) ≡ Some d) ds
    behind [] h k = tt
    behind (d ∷ ds) h k = (rw (not_named c d h.0) k.0, behind ds h.1 k.1)
      where
        later_apart : (a b c d : ℕ) → (ltb a c || (eqb a c && ltb b d)) ≡ true → (eqb a c && eqb b d) ≡ false
        later_apart a b c d e = grind (arith, nat_tests)

        not_named : (x y : Change) → name_before x y ≡ true → has_name (name_of y) x ≡ false
        not_named x y e = later_apart x.member x.number y.member y.number e

pub first_found : (held : List ℕ) (cs : List Change) (c : Change) → NamesRise cs → first_ready held cs ≡ Some c → find (has_name (name_of c)) cs ≡ Some c
first_found held cs c r e = least_keeps (λ d. find (has_name (name_of d)) cs ≡ Some d) (filter (IsReady held) cs) c (all_kept (λ d. find (has_name (name_of d)) cs ≡ Some d) (IsReady held) cs (each_found cs r)) e

-- a change of a name, field by field
pub named : (m k : ℕ) (c : Change) → has_name (name_by (m, k)) c ≡ true → (m ≡ c.member) × (k ≡ c.number)
named m k c e = by (eqb c.member m) (eqb c.number k) refl refl e
  where
    by : (x y : Bool) → eqb c.member m ≡ x → eqb c.number k ≡ y → (x && y) ≡ true → (m ≡ c.member) × (k ≡ c.number)
    by true true p q h = (sym (eqb-true c.member m p), sym (eqb-true c.number k q))
    by true false p q h = absurd cc
    by false y p q h = absurd cc

-- the change that a candidate stands for
pub picked : (held : List ℕ) (cs : List Change) (k : Candidate) → Some k ≡ option_map candidate_of (first_ready held cs) → (c : Change) × (first_ready held cs ≡ Some c) × (candidate_of c ≡ k)
picked held cs k e = by (first_ready held cs) refl e
  where
    by : (o : Option Change) → first_ready held cs ≡ o → Some k ≡ option_map candidate_of o → (c : Change) × (first_ready held cs ≡ Some c) × (candidate_of c ≡ k)
    by None f g = absurd cc
    by (Some c) f g = (c, f, cc)
