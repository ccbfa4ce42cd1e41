-- Settling goes on until nothing is ready.
use Rattle.std.proofs.Common.{◌≡◌, ℕ, zero, suc, ◌<◌, ◌≤◌, ◌||◌, true, false, cond, not, Bool, List, [], ◌∷◌, length, refl, sym, ap, subst, ◌∙◌, arith, inl, inr}
use Rattle.std.specs.Prelude.{Option, Some, None, filter, fold, take, IfSome}
use Rattle.std.specs.List.{AllByRecursion, list_any, reduce}
use Rattle.std.proofs.lemmas.Bool.{eq-eqb}
use Rattle.model.specs.Change.{Change, name_of, has_name, placed, in_order, is_before}
use Rattle.model.specs.Held.{Held, Misfit, is_ready, fits}
use Rattle.model.specs.Settle.{Settling, earlier, least_ready, without, judged, judged_next, next_judged, all_judged, name_before, most_waiting, begun, offered_one}
use Rattle.ledger_laws.specs.Settled.{NothingReadyWaits}
use Rattle.model_laws.proofs.ListLaws.{all_append, all_more}
use Rattle.arrival_laws.proofs.AddLaws.{all_kept}
use Rattle.model_laws.proofs.Tables.{bool_cases}

abbrev pub NoneReady : ℕ → (List Change → Held) → Settling → Type 0
NoneReady n reading s = AllByRecursion (λ c. is_ready n (reading s.held) c ≡ false) s.pool

-- ---- the least ready one

pub filter_nil : (p : Change → Bool) (xs : List Change) → filter p xs ≡ [] → AllByRecursion (λ x. p x ≡ false) xs
filter_nil p [] e = tt
filter_nil p (x ∷ xs) e =
    elim (p x) as (λ b. cond b (x ∷ filter p xs) (filter p xs) ≡ [] → (b ≡ false) × AllByRecursion (λ x. p x ≡ false) xs) [ true ↦ λ k. absurd cc | false ↦ λ k. (refl, filter_nil p xs k) ] e

none_least : (xs : List Change) → reduce earlier xs ≡ None → xs ≡ []
none_least [] e = refl
none_least (x ∷ xs) e = absurd cc

fold_earlier : (P : Change → Type 0) (a : Change) (xs : List Change) → P a → AllByRecursion P xs → P (fold earlier a xs)
fold_earlier P a [] h k = h
fold_earlier P a (x ∷ xs) h k = fold_earlier P (earlier a x) xs (elim (is_before x a) as (λ b. P (cond b x a)) [ true ↦ k.0 | false ↦ h ]) k.1

pub least_is : (P : Change → Type 0) (xs : List Change) → AllByRecursion P xs → IfSome (reduce earlier xs) P
least_is P [] h = tt
least_is P (x ∷ xs) h = fold_earlier P x xs h.0 h.1

-- ---- taking it out

pub own_name : (c : Change) → has_name (name_of c) c ≡ true
own_name c = let m = eq-eqb c.member c.member refl in let q = eq-eqb c.number c.number refl in rw (m, q) refl

abbrev pub IsNamed : List Change → Change → Type 0
IsNamed pool c = list_any (has_name (name_of c)) pool ≡ true

any_more : (p : Change → Bool) (x : Change) (xs : List Change) → list_any p xs ≡ true → list_any p (x ∷ xs) ≡ true
any_more p x xs e = elim (p x) as (λ b. (b || list_any p xs) ≡ true) [ true ↦ refl | false ↦ e ]

each_named : (pool : List Change) → AllByRecursion (IsNamed pool) pool
each_named [] = tt
each_named (c ∷ pool) = (let own = own_name c in rw own refl, all_more (IsNamed pool) (IsNamed (c ∷ pool)) (λ d h. any_more (has_name (name_of d)) c pool h) pool (each_named pool))

fewer_or_same : (p : Change → Bool) (xs : List Change) → length (filter p xs) ≤ length xs
fewer_or_same p [] = omega arith
fewer_or_same p (x ∷ xs) = let l = fewer_or_same p xs in elim (p x) as (λ b. length (cond b (x ∷ filter p xs) (filter p xs)) ≤ suc (length xs)) [ true ↦ omega arith | false ↦ omega arith ]

fewer : (p : Change → Bool) (xs : List Change) → list_any p xs ≡ true → length (filter (λ x. not (p x)) xs) < length xs
fewer p [] e = absurd cc
fewer p (x ∷ xs) e =
    elim (bool_cases (p x)) as (λ _. length (filter (λ x. not (p x)) (x ∷ xs)) < suc (length xs)) [
      | inl t ↦ (let l = fewer_or_same (λ x. not (p x)) xs in rw t (omega arith))
      | inr f ↦ (let e' : list_any p xs ≡ true = rw f at e in let l = fewer p xs e' in rw f (omega arith))
    ]

pub judged_pool : (s : Settling) (c : Change) (m : Option Misfit) → (judged s c m).pool ≡ without c s.pool
judged_pool s c None = refl
judged_pool s c (Some x) = refl

-- ---- turn by turn

stuck : (turns n : ℕ) (reading : List Change → Held) (s : Settling) → least_ready n (reading s.held) s.pool ≡ None → all_judged turns n reading s ≡ s
stuck zero n reading s e = refl
stuck (suc turns) n reading s e =
    let same : next_judged n reading s ≡ s = ap (judged_next n (reading s.held) s) e in ap (all_judged turns n reading) same ∙ stuck turns n reading s e

nothing : (xs : List Change) (P : Change → Type 0) → length xs ≤ 0 → AllByRecursion P xs
nothing [] P l = tt
nothing (x ∷ xs) P l = absurd (omega arith)

pub until_none : (turns n : ℕ) (reading : List Change → Held) (s : Settling) → length s.pool ≤ turns → NoneReady n reading (all_judged turns n reading s)
until_none zero n reading s l = nothing s.pool (λ c. is_ready n (reading s.held) c ≡ false) l
until_none (suc turns) n reading s l =
    let named = least_is (IsNamed s.pool) (filter (is_ready n (reading s.held)) s.pool) (all_kept (IsNamed s.pool) (is_ready n (reading s.held)) s.pool (each_named s.pool)) in
    elim (least_ready n (reading s.held) s.pool) as (λ o. least_ready n (reading s.held) s.pool ≡ o → IfSome o (IsNamed s.pool) → NoneReady n reading (all_judged turns n reading (judged_next n (reading s.held) s o))) [
      | None ↦ λ e _. subst (NoneReady n reading) (sym (stuck turns n reading s e)) (filter_nil (is_ready n (reading s.held)) s.pool (none_least (filter (is_ready n (reading s.held)) s.pool) e))
      | Some c ↦ λ e named.
          let m = fits n (reading s.held) c in
          let less : length (without c s.pool) < length s.pool = fewer (has_name (name_of c)) s.pool named in
          until_none turns n reading (judged s c m) (subst (λ p. length p ≤ turns) (sym (judged_pool s c m)) (omega arith))
    ] refl named

-- ---- what waits

pub all_taken : (P : Change → Type 0) (k : ℕ) (xs : List Change) → AllByRecursion P xs → AllByRecursion P (take k xs)
all_taken P zero xs h = tt
all_taken P (suc k) [] h = tt
all_taken P (suc k) (x ∷ xs) h = (h.0, all_taken P k xs h.1)

pub all_placed : (P : Change → Type 0) (ys xs : List Change) → AllByRecursion P ys → AllByRecursion P xs → AllByRecursion P (fold (λ ys x. placed name_before x ys) ys xs)
all_placed P ys [] h k = h
all_placed P ys (x ∷ xs) h k =
    all_placed P (placed name_before x ys) xs (all_append P (filter (λ y. name_before y x) ys) (x ∷ filter (λ y. name_before x y) ys) (all_kept P (λ y. name_before y x) ys h) (k.0, all_kept P (λ y. name_before x y) ys h)) k.1

pub nothing_ready_waits : NothingReadyWaits
nothing_ready_waits n reading h kept waiting offered =
    let pooled = fold (offered_one (reading h) kept) (begun (reading h) h waiting) offered in
    let done = all_judged (length pooled.pool) n reading pooled in
    let P = λ (c : Change). is_ready n (reading done.held) c ≡ false in
    all_taken P most_waiting (in_order name_before done.pool) (all_placed P [] done.pool tt (until_none (length pooled.pool) n reading pooled (omega arith)))
