-- Names, and lists of changes in their order.
use Rattle.std.specs.Prelude.{◌≡◌, ℕ, ◌≤◌, ◌+◌, true, false, cond, ◌||◌, ◌&&◌, List, [], ◌∷◌, ◌++◌, fold, Some, None, refl}
use Rattle.std.proofs.Common.{sym, ◌∙◌, ap, subst, arith, eqb, ltb, append_assoc}
use Rattle.std.proofs.lemmas.Bool.Decides.{nat_tests}
use Rattle.std.specs.List.{AllByRecursion, find}
use Rattle.std.specs.Ordering.{nat_cmp, ordering_then, is_lt, is_eq}
use Rattle.std.specs.declared.cmp.Ordering.{Ordering}
use Rattle.std.specs.declared.cmp.Ordering.TheVariants.{Less, Equal, Greater}
use Rattle.op_ids.proofs.OrderLaws.{is_lt-nat_cmp}
use Rattle.model.specs.Change.{Change, has_name, name_of, placed, in_order}
use Rattle.model.specs.Settle.{name_before}
use Rattle.model_laws.proofs.ListLaws.{filter_all, filter_none, all_append, all_more}
use Rattle.causal_inbox.specs.Names.{key_of, name_by, key_cmp, NamesRise}

-- ---- two keys

pub key_less : (a b c d : ℕ) → is_lt (ordering_then (nat_cmp a c) (nat_cmp b d)) ≡ (ltb a c || (eqb a c && ltb b d))
key_less a b c d =
    elim (ltb a c) as (λ s. is_lt (ordering_then (cond s Less (cond (eqb a c) Equal Greater)) (nat_cmp b d)) ≡ (s || (eqb a c && ltb b d))) [
      | true ↦ refl
      | false ↦ elim (eqb a c) as (λ t. is_lt (ordering_then (cond t Equal Greater) (nat_cmp b d)) ≡ (t && ltb b d)) [ true ↦ is_lt-nat_cmp b d | false ↦ refl ]
    ]

both_equal : (o p : Ordering) → is_eq (ordering_then o p) ≡ (is_eq o && is_eq p)
both_equal Less p = refl
both_equal Equal p = refl
both_equal Greater p = refl

same_number : (a c : ℕ) → is_eq (nat_cmp a c) ≡ eqb c a
same_number a c = grind (arith, nat_tests)

pub key_same : (k : ℕ × ℕ) (c : Change) → is_eq (key_cmp k (key_of c)) ≡ has_name (name_by k) c
key_same k c =
    let p = same_number k.0 c.member in
    let q = same_number k.1 c.number in
    both_equal (nat_cmp k.0 c.member) (nat_cmp k.1 c.number) ∙ (λ i. p i && q i)

pub before_key : (c d : Change) → name_before c d ≡ is_lt (key_cmp (key_of c) (key_of d))
before_key c d = sym (key_less c.member c.number d.member d.number)

-- ---- two changes, by numbers

not_both : (a b c d k l : ℕ) → (eqb a k && eqb b l) ≡ true → (ltb a c || (eqb a c && ltb b d)) ≡ true → (eqb c k && eqb d l) ≡ false
not_both a b c d k l h e = grind (arith, nat_tests)

-- a change after one of a name has another name
pub other_name : (k : ℕ × ℕ) (c d : Change) → has_name (name_by k) c ≡ true → name_before c d ≡ true → has_name (name_by k) d ≡ false
other_name k c d h e = not_both c.member c.number d.member d.number k.0 k.1 h e

itself : (a b : ℕ) → (eqb a a && eqb b b) ≡ true
itself a b = grind (arith, nat_tests)

pub own_name : (c : Change) → has_name (name_of c) c ≡ true
own_name c = itself c.member c.number

turned : (a b c d : ℕ) → (ltb a c || (eqb a c && ltb b d)) ≡ true → (ltb c a || (eqb c a && ltb d b)) ≡ false
turned a b c d e = grind (arith, nat_tests)

pub not_back : (c d : Change) → name_before c d ≡ true → name_before d c ≡ false
not_back c d e = turned c.member c.number d.member d.number e

third : (a b c d : ℕ) → (ltb c a || (eqb c a && ltb d b)) ≡ false → (eqb c a && eqb d b) ≡ false → (ltb a c || (eqb a c && ltb b d)) ≡ true
third a b c d e f = grind (arith, nat_tests)

-- of two changes of different names one comes first
pub one_first : (c d : Change) → name_before d c ≡ false → has_name (name_of c) d ≡ false → name_before c d ≡ true
one_first c d e f = third c.member c.number d.member d.number e f

chain : (a b c d e f : ℕ) → (ltb a c || (eqb a c && ltb b d)) ≡ true → (ltb c e || (eqb c e && ltb d f)) ≡ true → (ltb a e || (eqb a e && ltb b f)) ≡ true
chain a b c d e f h k = grind (arith, nat_tests)

pub before_trans : (a b c : Change) → name_before a b ≡ true → name_before b c ≡ true → name_before a c ≡ true
before_trans a b c h k = chain a.member a.number b.member b.number c.member c.number h k

no_less : (a b c d : ℕ) → (ltb a c || (eqb a c && ltb b d)) ≡ true → a ≤ c
no_less a b c d e = grind (arith, nat_tests)

pub members_rise : (c d : Change) → name_before c d ≡ true → c.member ≤ d.member
members_rise c d e = no_less c.member c.number d.member d.number e

apart_back : (a b c d : ℕ) → (eqb c a && eqb d b) ≡ false → (eqb a c && eqb b d) ≡ false
apart_back a b c d e = grind (arith, nat_tests)

pub name_turned : (c d : Change) → has_name (name_of c) d ≡ false → has_name (name_of d) c ≡ false
name_turned c d e = apart_back c.member c.number d.member d.number e

-- ---- lists

-- c is put before the first that it comes before
abbrev pub put : Change → List Change → List Change
put c [] = c ∷ []
put c (d ∷ ds) = cond (name_before d c) (d ∷ put c ds) (c ∷ d ∷ ds)

none_back : (c : Change) (ds : List Change) → AllByRecursion (λ d. name_before c d ≡ true) ds → AllByRecursion (λ d. name_before d c ≡ false) ds
none_back c ds h = all_more (λ d. name_before c d ≡ true) (λ d. name_before d c ≡ false) (λ d e. not_back c d e) ds h

pub all_behind : (c d : Change) (ds : List Change) → name_before c d ≡ true → AllByRecursion (λ x. name_before d x ≡ true) ds → AllByRecursion (λ x. name_before c x ≡ true) ds
all_behind c d ds e h = all_more (λ x. name_before d x ≡ true) (λ x. name_before c x ≡ true) (λ x f. before_trans c d x e f) ds h

-- none of these has the name
abbrev pub Lacks : ℕ × ℕ → List Change → Type 0
Lacks k ds = AllByRecursion (λ d. has_name (name_by k) d ≡ false) ds

pub lacks : (k : ℕ × ℕ) (ds : List Change) → find (has_name (name_by k)) ds ≡ None → Lacks k ds
lacks k [] e = tt
lacks k (d ∷ ds) e =
    elim (has_name (name_by k) d) as (λ b. has_name (name_by k) d ≡ b → cond b (Some d) (find (has_name (name_by k)) ds) ≡ None → Lacks k (d ∷ ds)) [
      | true ↦ λ _ f. absurd cc
      | false ↦ λ t f. (t, lacks k ds f)
    ] refl e

pub lacks_behind : (k : ℕ × ℕ) (c : Change) (ds : List Change) → has_name (name_by k) c ≡ true → AllByRecursion (λ d. name_before c d ≡ true) ds → Lacks k ds
lacks_behind k c ds h r = all_more (λ d. name_before c d ≡ true) (λ d. has_name (name_by k) d ≡ false) (λ d e. other_name k c d h e) ds r

pub placed_put : (c : Change) (ds : List Change) → NamesRise ds → Lacks (key_of c) ds → placed name_before c ds ≡ put c ds
placed_put c [] r l = refl
placed_put c (d ∷ ds) r l =
    elim (name_before d c) as (λ b. name_before d c ≡ b → placed name_before c (d ∷ ds) ≡ cond b (d ∷ put c ds) (c ∷ d ∷ ds)) [
      | true ↦ λ e. let n = not_back d c e in rw (e, n) (ap (λ (us : List Change). d ∷ us) (placed_put c ds r.1 l.1))
      | false ↦ λ e.
          let f = one_first c d e l.0 in
          let later = all_behind c d ds f r.0 in
          rw (e, f, filter_none (λ u. name_before u c) ds (none_back c ds later), filter_all (λ u. name_before c u) ds later) refl
    ] refl

-- behind them all it is put at the end
pub put_last : (c : Change) (ds : List Change) → AllByRecursion (λ d. name_before d c ≡ true) ds → put c ds ≡ ds ++ c ∷ []
put_last c [] h = refl
put_last c (d ∷ ds) h = rw h.0 (ap (λ (us : List Change). d ∷ us) (put_last c ds h.1))

pub lacks_before : (c : Change) (ds : List Change) → AllByRecursion (λ d. name_before d c ≡ true) ds → Lacks (key_of c) ds
lacks_before c ds h = all_more (λ d. name_before d c ≡ true) (λ d. has_name (name_of c) d ≡ false) (λ d e. apart c.member c.number d.member d.number e) ds h
  where
    apart : (a b c d : ℕ) → (ltb c a || (eqb c a && ltb d b)) ≡ true → (eqb c a && eqb d b) ≡ false
    apart a b c d e = grind (arith, nat_tests)

pub found_none : (k : ℕ × ℕ) (ds : List Change) → Lacks k ds → find (has_name (name_by k)) ds ≡ None
found_none k [] l = refl
found_none k (d ∷ ds) l = rw l.0 (found_none k ds l.1)

-- behind a change that comes before all of them, they rise still
pub rise_last : (ds : List Change) (c : Change) → NamesRise ds → AllByRecursion (λ d. name_before d c ≡ true) ds → NamesRise (ds ++ c ∷ [])
rise_last [] c r h = (tt, tt)
rise_last (d ∷ ds) c r h = (all_append (λ x. name_before d x ≡ true) ds (c ∷ []) r.0 (h.0, tt), rise_last ds c r.1 h.1)

pub front_before : (ds : List Change) (c : Change) (es : List Change) → NamesRise (ds ++ c ∷ es) → AllByRecursion (λ d. name_before d c ≡ true) ds
front_before [] c es r = tt
front_before (d ∷ ds) c es r = (at ds r.0, front_before ds c es r.1)
  where
    at : (us : List Change) → AllByRecursion (λ x. name_before d x ≡ true) (us ++ c ∷ es) → name_before d c ≡ true
    at [] h = h.0
    at (u ∷ us) h = at us h.1

-- ---- lists that are in order already

placed_last : (c : Change) (ds : List Change) → NamesRise ds → AllByRecursion (λ d. name_before d c ≡ true) ds → placed name_before c ds ≡ ds ++ c ∷ []
placed_last c ds r h = placed_put c ds r (lacks_before c ds h) ∙ put_last c ds h

pub ordered_more : (ys xs : List Change) → NamesRise (ys ++ xs) → NamesRise ys → fold (λ us x. placed name_before x us) ys xs ≡ ys ++ xs
ordered_more ys [] r s = sym (nil_right ys)
  where
    nil_right : (us : List Change) → us ++ [] ≡ us
    nil_right [] = refl
    nil_right (u ∷ us) = ap (λ (vs : List Change). u ∷ vs) (nil_right us)
ordered_more ys (x ∷ xs) r s =
    let before = front_before ys x xs r in
    let one = placed_last x ys s before in
    let all : ys ++ x ∷ xs ≡ (ys ++ x ∷ []) ++ xs = sym (append_assoc ys (x ∷ []) xs) in
    ap (λ (us : List Change). fold (λ vs y. placed name_before y vs) us xs) one ∙ ordered_more (ys ++ x ∷ []) xs (subst NamesRise all r) (rise_last ys x s before) ∙ sym all

pub in_order_already : (xs : List Change) → NamesRise xs → in_order name_before xs ≡ xs
in_order_already xs r = ordered_more [] xs r tt

pub fold_last : (ys xs : List Change) (c : Change) → fold (λ us x. placed name_before x us) ys (xs ++ c ∷ []) ≡ placed name_before c (fold (λ us x. placed name_before x us) ys xs)
fold_last ys [] c = refl
fold_last ys (x ∷ xs) c = fold_last (placed name_before x ys) xs c

pub in_order_one_more : (xs : List Change) (c : Change) → NamesRise xs → in_order name_before (xs ++ c ∷ []) ≡ placed name_before c xs
in_order_one_more xs c r = fold_last [] xs c ∙ ap (placed name_before c) (in_order_already xs r)
