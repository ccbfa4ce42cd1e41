-- The order of the pool doesn't matter.
use Rattle.std.specs.Prelude.{◌≡◌, ℕ, ◌+◌, Bool, true, false, not, cond, ◌||◌, ◌&&◌, List, [], ◌∷◌, ◌++◌, length, map, filter, take, drop, fold, Option, Some, None, refl}
use Rattle.std.proofs.Common.{sym, ◌∙◌, ap, subst, arith, eqb, eqb-true, eq-eqb, ◌⊎◌, inl, inr, append_assoc, append-nil}
use Rattle.std.specs.List.{AllByRecursion, list_any, reduce}
use Rattle.op_ids.specs.Order.{stamp_lt}
use Rattle.op_ids.specs.declared.Stamp.{Stamp}
use Rattle.op_ids.proofs.OrderLaws.{stamp_lt_trans, stamp_lt_not_back, stamp_lt_cases}
use Rattle.model.specs.Change.{Change, name_of, has_name, placed, in_order, is_before, change_stamp}
use Rattle.model.specs.Held.{Held, is_known, is_ready}
use Rattle.model.specs.Settle.{Settling, differs, is_pooled, name_before, earlier, least_ready, most_waiting, rest}
use Rattle.model_laws.proofs.ListLaws.{all_front, all_back, all_append}
use Rattle.causal_inbox.specs.Names.{key_of, NamesRise}
use Rattle.causal_inbox.specs.Offers.{IsOffered, IsRest, after_offer, pool_after, taken_out}
use Rattle.causal_inbox.specs.Orders.{AreApart, Holds, pool_joined, SameSteps, AnyOrder}
use Rattle.causal_inbox.specs.declared.inbox.Offered.{Offered}
use Rattle.causal_inbox.specs.declared.inbox.Offered.TheVariants.{Known, Same, Forked, Joined}
use Rattle.causal_inbox.proofs.NameLaws.{Lacks, put, placed_put, not_back, one_first, name_turned, all_behind, in_order_one_more, in_order_already, fold_last}
use Rattle.causal_inbox.proofs.ReadyLaws.{joined, least_more}
use Rattle.causal_inbox.proofs.OfferLaws.{by_tests, kept_all, rise_kept, filter_last}

-- ---- one put among others

all_put : (P : Change → Type 0) (x : Change) (ds : List Change) → P x → AllByRecursion P ds → AllByRecursion P (put x ds)
all_put P x [] p h = (p, tt)
all_put P x (d ∷ ds) p h = elim (name_before d x) as (λ b. AllByRecursion P (cond b (d ∷ put x ds) (x ∷ d ∷ ds))) [ true ↦ (h.0, all_put P x ds p h.1) | false ↦ (p, h) ]

rise_put : (x : Change) (ds : List Change) → NamesRise ds → Lacks (key_of x) ds → NamesRise (put x ds)
rise_put x [] r l = (tt, tt)
rise_put x (d ∷ ds) r l =
    elim (name_before d x) as (λ b. name_before d x ≡ b → NamesRise (cond b (d ∷ put x ds) (x ∷ d ∷ ds))) [
      | true ↦ λ e. (all_put (λ y. name_before d y ≡ true) x ds e r.0, rise_put x ds r.1 l.1)
      | false ↦ λ e. let f = one_first x d e l.0 in ((f, all_behind x d ds f r.0), r)
    ] refl

or_swap : (a b c : Bool) → (a || (b || c)) ≡ (b || (a || c))
or_swap true true c = refl
or_swap true false c = refl
or_swap false b c = refl

any_put : (p : Change → Bool) (x : Change) (ds : List Change) → list_any p (put x ds) ≡ (p x || list_any p ds)
any_put p x [] = refl
any_put p x (d ∷ ds) = elim (name_before d x) as (λ b. list_any p (cond b (d ∷ put x ds) (x ∷ d ∷ ds)) ≡ (p x || (p d || list_any p ds))) [ true ↦ ap (λ t. p d || t) (any_put p x ds) ∙ or_swap (p d) (p x) (list_any p ds) | false ↦ refl ]

any_last : (p : Change → Bool) (ds : List Change) (x : Change) → list_any p (ds ++ x ∷ []) ≡ (p x || list_any p ds)
any_last p [] x = refl
any_last p (d ∷ ds) x = ap (λ t. p d || t) (any_last p ds x) ∙ or_swap (p d) (p x) (list_any p ds)

-- what comes before all of these is put first
put_first : (x : Change) (ds : List Change) → AllByRecursion (λ d. name_before x d ≡ true) ds → put x ds ≡ x ∷ ds
put_first x [] h = refl
put_first x (d ∷ ds) h = rw (not_back x d h.0) refl

filter_put : (p : Change → Bool) (x : Change) (ds : List Change) → NamesRise ds → Lacks (key_of x) ds → filter p (put x ds) ≡ cond (p x) (put x (filter p ds)) (filter p ds)
filter_put p x [] r l = elim (p x) as (λ b. cond b (x ∷ []) [] ≡ cond b (x ∷ []) []) [ true ↦ refl | false ↦ refl ]
filter_put p x (d ∷ ds) r l =
    elim (name_before d x) as (λ b. name_before d x ≡ b → filter p (cond b (d ∷ put x ds) (x ∷ d ∷ ds)) ≡ cond (p x) (put x (filter p (d ∷ ds))) (filter p (d ∷ ds))) [
      | true ↦ λ e. behind e (p d) (p x) (filter_put p x ds r.1 l.1)
      | false ↦ λ e. ahead (one_first x d e l.0) e (p d) (p x)
    ] refl
  where
    behind : name_before d x ≡ true → (t u : Bool) → filter p (put x ds) ≡ cond u (put x (filter p ds)) (filter p ds) → cond t (d ∷ filter p (put x ds)) (filter p (put x ds)) ≡ cond u (put x (cond t (d ∷ filter p ds) (filter p ds))) (cond t (d ∷ filter p ds) (filter p ds))
    behind e true true f = rw e (ap (λ (zs : List Change). d ∷ zs) f)
    behind e true false f = ap (λ (zs : List Change). d ∷ zs) f
    behind e false true f = f
    behind e false false f = f

    ahead : name_before x d ≡ true → name_before d x ≡ false → (t u : Bool) → cond u (x ∷ cond t (d ∷ filter p ds) (filter p ds)) (cond t (d ∷ filter p ds) (filter p ds)) ≡ cond u (put x (cond t (d ∷ filter p ds) (filter p ds))) (cond t (d ∷ filter p ds) (filter p ds))
    ahead f e true true = rw e refl
    ahead f e false true = sym (put_first x (filter p ds) (kept_all (λ y. name_before x y ≡ true) p ds (all_behind x d ds f r.0)))
    ahead f e t false = refl

-- ---- the earlier of two

not_less : (a b : Change) → is_before a b ≡ false → (is_before b a ≡ true) ⊎ (change_stamp a ≡ change_stamp b)
not_less a b e =
    elim (stamp_lt_cases (change_stamp a) (change_stamp b)) as (λ _. (is_before b a ≡ true) ⊎ (change_stamp a ≡ change_stamp b)) [
      | inl l ↦ absurd cc
      | inr k ↦ elim k as (λ _. (is_before b a ≡ true) ⊎ (change_stamp a ≡ change_stamp b)) [ inl s ↦ inr s | inr g ↦ inl g ]
    ]

stays_behind : (a b c : Change) → is_before c b ≡ false → is_before b a ≡ false → is_before c a ≡ false
stays_behind a b c e f =
    elim (not_less b a f) as (λ _. is_before c a ≡ false) [
      | inl l ↦ elim (not_less c b e) as (λ _. is_before c a ≡ false) [
        | inl m ↦ stamp_lt_not_back (change_stamp a) (change_stamp c) (stamp_lt_trans (change_stamp a) (change_stamp b) (change_stamp c) l m)
        | inr s ↦ ap (λ (t : Stamp). stamp_lt t (change_stamp a)) s ∙ f
      ]
      | inr s ↦ ap (λ (t : Stamp). stamp_lt (change_stamp c) t) (sym s) ∙ e
    ]

takes : (a b : Change) → is_before b a ≡ true → earlier a b ≡ b
takes a b e = ap (λ t. cond t b a) e

keeps : (a b : Change) → is_before b a ≡ false → earlier a b ≡ a
keeps a b e = ap (λ t. cond t b a) e

pub earlier_assoc : (a b c : Change) → earlier (earlier a b) c ≡ earlier a (earlier b c)
earlier_assoc a b c = by (is_before b a) (is_before c b) refl refl
  where
    left : (x : Change) → earlier a b ≡ x → earlier (earlier a b) c ≡ earlier x c
    left x e = ap (λ (y : Change). earlier y c) e

    right : (x : Change) → earlier b c ≡ x → earlier a x ≡ earlier a (earlier b c)
    right x e = ap (λ (y : Change). earlier a y) (sym e)

    by : (p q : Bool) → is_before b a ≡ p → is_before c b ≡ q → earlier (earlier a b) c ≡ earlier a (earlier b c)
    by true true e f = left b (takes a b e) ∙ takes b c f ∙ sym (takes a c (stamp_lt_trans (change_stamp c) (change_stamp b) (change_stamp a) f e)) ∙ right c (takes b c f)
    by true false e f = left b (takes a b e) ∙ keeps b c f ∙ sym (takes a b e) ∙ right b (keeps b c f)
    by false true e f = left a (keeps a b e) ∙ right c (takes b c f)
    by false false e f = left a (keeps a b e) ∙ keeps a c (stays_behind a b c f e) ∙ sym (keeps a b e) ∙ right b (keeps b c f)

-- either order of the two gives the same
abbrev pub Swap : Change → Change → Type 0
Swap x d = earlier x d ≡ earlier d x

fold_pull : (b x : Change) (ds : List Change) → AllByRecursion (Swap x) ds → fold earlier (earlier b x) ds ≡ earlier (fold earlier b ds) x
fold_pull b x [] h = refl
fold_pull b x (d ∷ ds) h =
    let same = earlier_assoc b x d ∙ ap (earlier b) h.0 ∙ sym (earlier_assoc b d x) in
    ap (λ (a : Change). fold earlier a ds) same ∙ fold_pull (earlier b d) x ds h.1

fold_put : (a x : Change) (ds : List Change) → AllByRecursion (Swap x) ds → fold earlier a (put x ds) ≡ earlier (fold earlier a ds) x
fold_put a x [] h = refl
fold_put a x (d ∷ ds) h =
    elim (name_before d x) as (λ b. fold earlier a (cond b (d ∷ put x ds) (x ∷ d ∷ ds)) ≡ earlier (fold earlier a (d ∷ ds)) x) [
      | true ↦ fold_put (earlier a d) x ds h.1
      | false ↦ fold_pull a x (d ∷ ds) h
    ]

least_put : (x : Change) (ds : List Change) → AllByRecursion (Swap x) ds → reduce earlier (put x ds) ≡ joined (reduce earlier ds) (Some x)
least_put x [] h = refl
least_put x (d ∷ ds) h =
    elim (name_before d x) as (λ b. reduce earlier (cond b (d ∷ put x ds) (x ∷ d ∷ ds)) ≡ Some (earlier (fold earlier d ds) x)) [
      | true ↦ ap Some (fold_put d x ds h.1)
      | false ↦ ap Some (ap (λ (a : Change). fold earlier a ds) h.0 ∙ fold_pull d x ds h.1)
    ]

module _ (n : ℕ) (past : Held) where
  abbrev ready : Change → Bool
  ready = is_ready n past

  number_of : (c : Change) → ready c ≡ true → c.number ≡ (past.row c.member).count + 1
  number_of c e = by (eqb c.number ((past.row c.member).count + 1)) _ refl e
    where
      by : (x y : Bool) → eqb c.number ((past.row c.member).count + 1) ≡ x → (x && y) ≡ true → c.number ≡ (past.row c.member).count + 1
      by true y f g = eqb-true c.number ((past.row c.member).count + 1) f
      by false y f g = absurd cc

  -- two ready changes of different names have different stamps
  swaps : (x d : Change) → ready x ≡ true → ready d ≡ true → has_name (name_of x) d ≡ false → Swap x d
  swaps x d e f apart =
      elim (stamp_lt_cases (change_stamp x) (change_stamp d)) as (λ _. Swap x d) [
        | inl l ↦ keeps x d (stamp_lt_not_back (change_stamp x) (change_stamp d) l) ∙ sym (takes d x l)
        | inr k ↦ elim k as (λ _. Swap x d) [
          | inl s ↦
              let member = ap (λ (t : Stamp). t.member) s in
              let number = number_of x e ∙ ap (λ m. (past.row m).count + 1) member ∙ sym (number_of d f) in
              let there : has_name (name_of x) d ≡ true = (λ i. eq-eqb d.member x.member (sym member) i && eqb d.number x.number) ∙ eq-eqb d.number x.number (sym number) in
              absurd (differ there apart)
          | inr g ↦ takes x d g ∙ sym (keeps d x (stamp_lt_not_back (change_stamp d) (change_stamp x) g))
        ]
      ]
    where
      differ : {b : Bool} → b ≡ true → b ≡ false → ⊥
      differ h k = cc

  all_swap : (x : Change) (ds : List Change) → ready x ≡ true → Lacks (key_of x) ds → AllByRecursion (Swap x) (filter ready ds)
  all_swap x [] e l = tt
  all_swap x (d ∷ ds) e l =
      elim (ready d) as (λ b. ready d ≡ b → AllByRecursion (Swap x) (cond b (d ∷ filter ready ds) (filter ready ds))) [
        | true ↦ λ f. (swaps x d e f l.0, all_swap x ds e l.1)
        | false ↦ λ _. all_swap x ds e l.1
      ] refl

  abbrev one : Change → Option Change
  one x = cond (ready x) (Some x) None

  no_more : (o : Option Change) → joined o None ≡ o
  no_more None = refl
  no_more (Some a) = refl

  ready_put : (x : Change) (ds : List Change) → NamesRise ds → Lacks (key_of x) ds → least_ready n past (put x ds) ≡ joined (least_ready n past ds) (one x)
  ready_put x ds r l =
      ap (reduce earlier) (filter_put ready x ds r l)
      ∙ elim (ready x) as (λ b. ready x ≡ b → reduce earlier (cond b (put x (filter ready ds)) (filter ready ds)) ≡ joined (least_ready n past ds) (cond b (Some x) None)) [
        | true ↦ λ e. least_put x (filter ready ds) (all_swap x ds e l)
        | false ↦ λ _. sym (no_more (least_ready n past ds))
      ] refl

  ready_last : (ds : List Change) (x : Change) → least_ready n past (ds ++ x ∷ []) ≡ joined (least_ready n past ds) (one x)
  ready_last ds x =
      ap (reduce earlier) (filter_last ready ds x)
      ∙ elim (ready x) as (λ b. reduce earlier (filter ready ds ++ cond b (x ∷ []) []) ≡ joined (least_ready n past ds) (cond b (Some x) None)) [ true ↦ least_more (filter ready ds) (Some x) | false ↦ least_more (filter ready ds) None ]

-- ---- a list and the same in order

pub record Ordered (qs ys : List Change) : Type 0 where
  pub rise : NamesRise ys
  pub lacks : (k : ℕ × ℕ) → Lacks k qs → Lacks k ys
  pub any : (p : Change → Bool) → list_any p qs ≡ list_any p ys
  pub ready : (n : ℕ) (past : Held) → least_ready n past qs ≡ least_ready n past ys
  pub filters : (p : Change → Bool) → in_order name_before (filter p qs) ≡ filter p ys

ordered_more : (qs ys : List Change) (x : Change) → Ordered qs ys → Lacks (key_of x) qs → Ordered (qs ++ x ∷ []) (placed name_before x ys)
ordered_more qs ys x o h =
    let l = o.lacks (key_of x) h in
    subst (Ordered (qs ++ x ∷ [])) (sym (placed_put x ys o.rise l)) (record {
      rise = rise_put x ys o.rise l;
      lacks = λ k m. all_put (λ d. has_name (record { member = k.0; number = k.1 }) d ≡ false) x ys (all_back (λ d. has_name (record { member = k.0; number = k.1 }) d ≡ false) qs (x ∷ []) m).0 (o.lacks k (all_front (λ d. has_name (record { member = k.0; number = k.1 }) d ≡ false) qs (x ∷ []) m));
      any = λ p. any_last p qs x ∙ ap (λ t. p x || t) (o.any p) ∙ sym (any_put p x ys);
      ready = λ n past. ready_last n past qs x ∙ ap (λ t. joined t (one n past x)) (o.ready n past) ∙ sym (ready_put n past x ys o.rise l);
      filters = λ p. filtered p l;
    })
  where
    filtered : (p : Change → Bool) → Lacks (key_of x) ys → in_order name_before (filter p (qs ++ x ∷ [])) ≡ filter p (put x ys)
    filtered p l =
        ap (in_order name_before) (filter_last p qs x)
        ∙ elim (p x) as (λ b. in_order name_before (filter p qs ++ cond b (x ∷ []) []) ≡ cond b (put x (filter p ys)) (filter p ys)) [
          | true ↦
              fold_last [] (filter p qs) x ∙ ap (placed name_before x) (o.filters p)
              ∙ placed_put x (filter p ys) (rise_kept p ys o.rise) (kept_all (λ d. has_name (name_of x) d ≡ false) p ys l)
          | false ↦ ap (in_order name_before) (append-nil (filter p qs)) ∙ o.filters p
        ]
        ∙ sym (filter_put p x ys o.rise l)

-- one behind others that are apart has none of their names
behind_apart : (qs : List Change) (x : Change) (xs : List Change) → AreApart (qs ++ x ∷ xs) → Lacks (key_of x) qs
behind_apart [] x xs h = tt
behind_apart (q ∷ qs) x xs h = (name_turned q x (all_back (λ d. has_name (name_of q) d ≡ false) qs (x ∷ xs) h.0).0, behind_apart qs x xs h.1)

ordered_all : (qs ys xs : List Change) → Ordered qs ys → AreApart (qs ++ xs) → Ordered (qs ++ xs) (fold (λ us x. placed name_before x us) ys xs)
ordered_all qs ys [] o h = subst (λ zs. Ordered zs ys) (sym (append-nil qs)) o
ordered_all qs ys (x ∷ xs) o h =
    let all : qs ++ x ∷ xs ≡ (qs ++ x ∷ []) ++ xs = sym (append_assoc qs (x ∷ []) xs) in
    subst (λ zs. Ordered zs (fold (λ us z. placed name_before z us) (placed name_before x ys) xs)) (sym all)
    (ordered_all (qs ++ x ∷ []) (placed name_before x ys) xs (ordered_more qs ys x o (behind_apart qs x xs h)) (subst AreApart all h))

pub ordered : (pool : List Change) → AreApart pool → Ordered pool (in_order name_before pool)
ordered pool h = ordered_all [] [] pool (record { rise = tt; lacks = λ k m. tt; any = λ p. refl; ready = λ n past. refl; filters = λ p. refl }) h

-- ---- the steps

apart_last : (qs : List Change) (x : Change) → AreApart qs → Lacks (key_of x) qs → AreApart (qs ++ x ∷ [])
apart_last [] x h l = (tt, tt)
apart_last (q ∷ qs) x h l = (all_append (λ d. has_name (name_of q) d ≡ false) qs (x ∷ []) h.0 (name_turned x q l.0, tt), apart_last qs x h.1 l.1)

apart_kept : (p : Change → Bool) (qs : List Change) → AreApart qs → AreApart (filter p qs)
apart_kept p [] h = tt
apart_kept p (q ∷ qs) h = elim (p q) as (λ b. AreApart (cond b (q ∷ filter p qs) (filter p qs))) [ true ↦ (kept_all (λ d. has_name (name_of q) d ≡ false) p qs h.0, apart_kept p qs h.1) | false ↦ apart_kept p qs h.1 ]

none_any : (p : Change → Bool) (ds : List Change) → list_any p ds ≡ false → AllByRecursion (λ d. p d ≡ false) ds
none_any p [] e = tt
none_any p (d ∷ ds) e =
    elim (p d) as (λ b. p d ≡ b → (b || list_any p ds) ≡ false → AllByRecursion (λ x. p x ≡ false) (d ∷ ds)) [
      | true ↦ λ _ f. absurd cc
      | false ↦ λ t f. (t, none_any p ds f)
    ] refl e

-- the answer, by the tests
abbrev answer : Bool → Bool → Bool → Bool → Offered
answer known differing forked pooled = cond (known && differing) Forked (cond known Known (cond forked Forked (cond pooled Same Joined)))

answered : (s : Settling) (c : Change) (a b p q : Bool) → by_tests s c a b p q ≡ after_offer s c (answer a b p q)
answered s c true true p q = refl
answered s c true false p q = refl
answered s c false b true q = refl
answered s c false b false true = refl
answered s c false b false false = refl

abbrev start : List Change → Settling
start pool = record { held = []; pool = pool; report = record { accepted = 0; known = 0; same = 0; forked = []; refused = []; full = [] } }

told_apart : (pool : List Change) (c : Change) (o q : Offered) → after_offer (start pool) c o ≡ after_offer (start pool) c q → o ≡ q
told_apart pool c Known Known e = refl
told_apart pool c Known Same e = absurd (omega (arith, ap (λ (t : Settling). t.report.known) e))
told_apart pool c Known Forked e = absurd (omega (arith, ap (λ (t : Settling). t.report.known) e))
told_apart pool c Known Joined e = absurd (omega (arith, ap (λ (t : Settling). t.report.known) e))
told_apart pool c Same Known e = absurd (omega (arith, ap (λ (t : Settling). t.report.same) e))
told_apart pool c Same Same e = refl
told_apart pool c Same Forked e = absurd (omega (arith, ap (λ (t : Settling). t.report.same) e))
told_apart pool c Same Joined e = absurd (omega (arith, ap (λ (t : Settling). t.report.same) e))
told_apart pool c Forked Known e = absurd (omega (arith, ap (λ (t : Settling). t.report.known) e))
told_apart pool c Forked Same e = absurd (omega (arith, ap (λ (t : Settling). t.report.same) e))
told_apart pool c Forked Forked e = refl
told_apart pool c Forked Joined e = absurd (omega (arith, ap (λ (t : Settling). length t.report.forked) e))
told_apart pool c Joined Known e = absurd (omega (arith, ap (λ (t : Settling). t.report.known) e))
told_apart pool c Joined Same e = absurd (omega (arith, ap (λ (t : Settling). t.report.same) e))
told_apart pool c Joined Forked e = absurd (omega (arith, ap (λ (t : Settling). length t.report.forked) e))
told_apart pool c Joined Joined e = refl

only_new : (a b p q : Bool) → answer a b p q ≡ Joined → q ≡ false
only_new true true p q e = absurd cc
only_new true false p q e = absurd cc
only_new false b true q e = absurd cc
only_new false b false true e = absurd cc
only_new false b false false e = refl

module _ (sorted pool : List Change) (h : Holds sorted pool) where
  o : Ordered pool sorted
  o = subst (Ordered pool) h.order (ordered pool h.apart)

  answer_is : (past : Held) (kept : List Change) (c : Change) (r : Offered) → IsOffered past kept sorted c r → answer (is_known past c) (differs kept c) (differs sorted c) (is_pooled sorted c) ≡ r
  answer_is past kept c r is = told_apart sorted c _ r (sym (answered (start sorted) c (is_known past c) (differs kept c) (differs sorted c) (is_pooled sorted c)) ∙ is (start sorted) refl)

  offered_so : (past : Held) (kept : List Change) (c : Change) (r : Offered) → IsOffered past kept sorted c r → IsOffered past kept pool c r
  offered_so past kept c r is s same =
      let d : differs s.pool c ≡ differs sorted c = ap (λ (ds : List Change). differs ds c) same ∙ o.any _ in
      let p : is_pooled s.pool c ≡ is_pooled sorted c = ap (λ (ds : List Change). is_pooled ds c) same ∙ o.any _ in
      (λ i. by_tests s c (is_known past c) (differs kept c) (d i) (p i)) ∙ answered s c (is_known past c) (differs kept c) (differs sorted c) (is_pooled sorted c) ∙ ap (after_offer s c) (answer_is past kept c r is)

  holds_after : (past : Held) (kept : List Change) (c : Change) (r : Offered) → IsOffered past kept sorted c r → Holds (pool_after sorted c r) (pool_joined pool c r)
  holds_after past kept c Known is = h
  holds_after past kept c Same is = h
  holds_after past kept c Forked is = h
  holds_after past kept c Joined is =
      let new = only_new (is_known past c) (differs kept c) (differs sorted c) (is_pooled sorted c) (answer_is past kept c Joined is) in
      let l : Lacks (key_of c) pool = none_any (has_name (name_of c)) pool (o.any _ ∙ new) in
      record {
        apart = apart_last pool c h.apart l;
        order = fold_last [] pool c ∙ ap (placed name_before c) h.order ∙ sym (in_order_one_more sorted c o.rise);
      }

  taken_so : (r : Option Change) → Holds (taken_out sorted r) (taken_out pool r)
  taken_so None = h
  taken_so (Some c) = record { apart = apart_kept (λ d. not (has_name (name_of c) d)) pool h.apart; order = o.filters (λ d. not (has_name (name_of c) d)) }

  rest_so : (waiting : List Change) (full : List (ℕ × ℕ)) → IsRest sorted waiting full → IsRest pool waiting full
  rest_so waiting full is s same =
      let t = is (start sorted) refl in
      let e : in_order name_before s.pool ≡ in_order name_before sorted = ap (in_order name_before) same ∙ h.order ∙ sym (in_order_already sorted o.rise) in
      (ap (take most_waiting) e ∙ t.0, ap (λ (cs : List Change). map name_of (drop most_waiting cs)) e ∙ t.1)

  steps : SameSteps sorted pool
  steps = record {
    offers = λ past kept c r is. (offered_so past kept c r is, holds_after past kept c r is);
    ready = o.ready;
    taken = taken_so;
    rest = rest_so;
  }

pub any_order : AnyOrder
any_order sorted pool h = steps sorted pool h
