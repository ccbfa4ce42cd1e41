-- What is in a list of changes, and lists in order.
use Rattle.std.proofs.Common.{◌≡◌, ℕ, ◌+◌, ◌≤◌, ◌⊎◌, true, false, cond, List, [], ◌∷◌, ◌++◌, refl, sym, ap, subst, ◌∙◌, arith, inl, inr, Bool}
use Rattle.std.specs.Prelude.{Some, find}
use Rattle.std.specs.List.{AllByRecursion}
use Rattle.std.proofs.lemmas.List.{append_assoc}
use Rattle.std.proofs.lemmas.Option.{same_Some}
use Rattle.op_ids.proofs.OrderLaws.{stamp_lt_itself}
use Rattle.model.specs.Base.{count_of}
use Rattle.model.specs.Change.{Change, change_stamp, is_before, EachAfter}
use Rattle.arrival_laws.proofs.AddLaws.{InOrder, before_not_back}
use Rattle.model_laws.proofs.ChangeLaws.{count_of_itself}
use Rattle.model_laws.proofs.ListLaws.{all_more}
use Rattle.arrival_laws.proofs.SoundLaws.{Numbered}

-- ---- lists in order

abbrev pub In : List Change → Change → Type 0
In [] x = ⊥
In (y ∷ ys) x = (x ≡ y) ⊎ In ys x

pub all_in : (ys : List Change) → AllByRecursion (In ys) ys
all_in [] = tt
all_in (y ∷ ys) = (inl refl, all_more (In ys) (In (y ∷ ys)) (λ x h. inr h) ys (all_in ys))

pub of_in : (P : Change → Type 0) (ys : List Change) (x : Change) → AllByRecursion P ys → In ys x → P x
of_in P [] x h i = absurd i
of_in P (y ∷ ys) x h i = elim i as (λ _. P x) [ inl e ↦ subst P (sym e) h.0 | inr j ↦ of_in P ys x h.1 j ]

pub not_itself : {Q : Type 0} (x y : Change) → x ≡ y → is_before x y ≡ true → Q
not_itself x y e b = absurd (let c : true ≡ false = sym b ∙ ap (λ z. is_before z y) e ∙ stamp_lt_itself (change_stamp y) in cc)

-- those behind the first are behind the first of a list of the same
behind_first : (x y : Change) (xs ys : List Change) → x ≡ y → AllByRecursion (λ z. is_before x z ≡ true) xs → AllByRecursion (In (y ∷ ys)) xs → AllByRecursion (In ys) xs
behind_first x y [] ys e b h = tt
behind_first x y (z ∷ xs) ys e b h =
    (elim h.0 as (λ _. In ys z) [ inl same ↦ not_itself x z (e ∙ sym same) b.0 | inr i ↦ i ], behind_first x y xs ys e b.1 h.1)

-- of lists in order with the same elements there is one
pub same_list : (xs ys : List Change) → InOrder xs → InOrder ys → AllByRecursion (In ys) xs → AllByRecursion (In xs) ys → xs ≡ ys
same_list [] [] r s h k = refl
same_list [] (y ∷ ys) r s h k = absurd k.0
same_list (x ∷ xs) [] r s h k = absurd h.0
same_list (x ∷ xs) (y ∷ ys) r s h k =
    let same : x ≡ y =
    elim h.0 as (λ _. x ≡ y) [
      | inl e ↦ e
      | inr i ↦
          elim k.0 as (λ _. x ≡ y) [
            | inl e ↦ sym e
            | inr j ↦
                let before : is_before y x ≡ true = of_in (λ z. is_before y z ≡ true) ys x s.0 i in
                let after : is_before x y ≡ true = of_in (λ z. is_before x z ≡ true) xs y r.0 j in
                let not_back = before_not_back x y after in
                absurd (let c : true ≡ false = sym before ∙ not_back in cc)
          ]
    ] in
    let rest = same_list xs ys r.1 s.1 (behind_first x y xs ys same r.0 h.1) (behind_first y x ys xs (sym same) s.0 k.1) in
    λ i. same i ∷ rest i

-- ---- one change of each name

pub find_passes : (p : Change → Bool) (xs : List Change) (x : Change) → find p xs ≡ Some x → p x ≡ true
find_passes p [] x e = absurd cc
find_passes p (y ∷ xs) x e =
    elim (p y) as (λ b. p y ≡ b → cond b (Some y) (find p xs) ≡ Some x → p x ≡ true) [
      | true ↦ λ t s. (let same : y ≡ x = same_Some y x s in ap p (sym same) ∙ t)
      | false ↦ λ t s. find_passes p xs x s
    ] refl e

pub less_same : (q a b : ℕ) → q ≤ a → a ≡ b → q ≤ b
less_same q a b l e = omega arith

pub numbers_within : (before xs : List Change) → EachAfter Numbered before xs → AllByRecursion (λ x. (1 ≤ x.number) × (x.number ≤ count_of (before ++ xs) x.member)) xs
numbers_within before [] e = tt
numbers_within before (x ∷ xs) e =
    let number : x.number ≡ count_of before x.member + 1 = e.0 in
    let own = count_of_itself before x xs in
    ((omega arith, omega arith), subst (λ all. AllByRecursion (λ y. (1 ≤ y.number) × (y.number ≤ count_of all y.member)) xs) (append_assoc before (x ∷ []) xs) (numbers_within (before ++ x ∷ []) xs e.1))
