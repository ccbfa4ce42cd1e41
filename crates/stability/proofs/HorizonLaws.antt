-- The horizon of some changes, one after the other.
use Rattle.std.proofs.Common.{◌≡◌, ℕ, ◌+◌, ◌-◌, ◌<◌, ◌≤◌, min, true, false, not, List, [], ◌∷◌, ◌++◌, length, map, take, get_or, refl, sym, ap, ◌∙◌, arith, length-append}
use Rattle.std.specs.Prelude.{filter, fold}
use Rattle.std.proofs.lemmas.Bool.{le-leb, lt-leb}
use Rattle.std.proofs.lemmas.List.{append_assoc, append-nil, map-append, take_more}
use Rattle.std.proofs.lemmas.List.FromFn.{get_or-map-range_with_len, length-map-range_with_len}
use Rattle.std.proofs.lemmas.List.Sums.{fold-append}
use Rattle.std.proofs.lemmas.Simd.{map-map}
use Rattle.model.specs.Base.{MemberRow, members}
use Rattle.model.specs.Change.{Change}
use Rattle.model.specs.Held.{Held}
use Rattle.model.specs.Stability.{least, stable_of, is_stable, horizon_among}
use Rattle.arrival_laws.proofs.AddLaws.{filter-append}
use Rattle.stability.specs.Horizons.{IsHorizon}
use Rattle.stability.specs.Rows.{rows_in}
use Rattle.stability.specs.declared.horizon.Horizon.{Horizon}
use Rattle.stability.proofs.StableLaws.{least_again}

-- ---- the least of the last times

abbrev pub lasts : List MemberRow → List ℕ
lasts rows = map (λ r. r.last) rows

pub lowest_more : (first : ℕ) (ts : List ℕ) (i : ℕ) → i < length ts → min (fold min first (take i ts)) (get_or ts i 0) ≡ fold min first (take (i + 1) ts)
lowest_more first ts i lt = sym (ap (fold min first) (take_more ts i 0 lt) ∙ fold-append min first (take i ts) (get_or ts i 0 ∷ []))

pub lowest_is_least : (ts : List ℕ) → 0 < length ts → fold min (get_or ts 0 0) ts ≡ least ts
lowest_is_least [] some = absurd (omega arith)
lowest_is_least (t ∷ ts) some = least_again t ts

-- ---- the changes

abbrev before_unstable : ℕ → Held → List Change → List ℕ
before_unstable n past h = map (λ c. c.time - 1) (filter (λ c. not (is_stable n past c)) h)

pub none_passed : (past : Held) (rows : List MemberRow) → rows ≡ rows_in (length rows) past → least (lasts rows) ≡ horizon_among (length rows) past []
none_passed past rows is =
    ap least (ap lasts is ∙ map-map (λ (r : MemberRow). r.last) past.row (members (length rows)) ∙ sym (append-nil (map (λ m. (past.row m).last) (members (length rows)))))

least_more : (ts : List ℕ) (t : ℕ) → 0 < length ts → least (ts ++ t ∷ []) ≡ min (least ts) t
least_more [] t some = absurd (omega arith)
least_more (s ∷ ts) t some = fold-append min s ts (t ∷ [])

passed : (n : ℕ) (past : Held) (h : List Change) (c : Change) → before_unstable n past (h ++ c ∷ []) ≡ before_unstable n past h ++ before_unstable n past (c ∷ [])
passed n past h c =
    ap (map (λ (d : Change). d.time - 1)) (filter-append (λ d. not (is_stable n past d)) h (c ∷ []))
    ∙ map-append (λ (d : Change). d.time - 1) (filter (λ d. not (is_stable n past d)) h) (filter (λ d. not (is_stable n past d)) (c ∷ []))

-- a change that is known to all leaves the horizon
stable_passed : (n : ℕ) (past : Held) (h : List Change) (c : Change) → is_stable n past c ≡ true → horizon_among n past (h ++ c ∷ []) ≡ horizon_among n past h
stable_passed n past h c all =
    let ls = map (λ m. (past.row m).last) (members n) in
    let ts = before_unstable n past h in
    let none : before_unstable n past (c ∷ []) ≡ [] = rw all refl in
    ap (λ us. least (ls ++ us)) (passed n past h c ∙ ap (λ us. ts ++ us) none ∙ append-nil ts)

-- and any other lowers it below its time
unstable_passed : (n : ℕ) (past : Held) (h : List Change) (c : Change) → 0 < n → is_stable n past c ≡ false → horizon_among n past (h ++ c ∷ []) ≡ min (horizon_among n past h) (c.time - 1)
unstable_passed n past h c some not_all =
    let ls = map (λ m. (past.row m).last) (members n) in
    let ts = before_unstable n past h in
    let one : before_unstable n past (c ∷ []) ≡ (c.time - 1) ∷ [] = rw not_all refl in
    ap (λ us. least (ls ++ us)) (passed n past h c ∙ ap (λ us. ts ++ us) one) ∙ ap least (sym (append_assoc ls ts ((c.time - 1) ∷ [])))
    ∙ least_more (ls ++ ts) (c.time - 1) (omega (arith, length-append ls ts, length-map-range_with_len (λ m. (past.row m).last) 0 n))

-- ---- horizons

known_to_all : (n : ℕ) (past : Held) (h : List Change) (z : Horizon) (m : ℕ) → IsHorizon n past h z → m < length z.stable → (m < n) × (get_or z.stable m 0 ≡ stable_of n past m)
known_to_all n past h z m is lt =
    let long : length z.stable ≡ n = ap length is.stable ∙ length-map-range_with_len (stable_of n past) 0 n in
    let within : m < n = omega (arith, long) in
    (within, ap (λ counts. get_or counts m 0) is.stable ∙ get_or-map-range_with_len (stable_of n past) 0 n m m 0 within (omega arith))

pub passes_stable : (n : ℕ) (past : Held) (h : List Change) (c : Change) (z : Horizon) → IsHorizon n past h z → c.member < length z.stable → c.number ≤ get_or z.stable c.member 0 → IsHorizon n past (h ++ c ∷ []) z
passes_stable n past h c z is lt le =
    let all = known_to_all n past h z c.member is lt in
    let stable : is_stable n past c ≡ true = le-leb _ _ (omega (arith, all.1)) in
    record { stable = is.stable; time = is.time ∙ sym (stable_passed n past h c stable) }

pub passes_unstable : (n : ℕ) (past : Held) (h : List Change) (c : Change) (z : Horizon) (time : ℕ) → IsHorizon n past h z → c.member < length z.stable → get_or z.stable c.member 0 < c.number
    → time ≡ min z.time (c.time - 1) → IsHorizon n past (h ++ c ∷ []) (record { stable = z.stable; time = time })
passes_unstable n past h c z time is lt past_all lowered =
    let all = known_to_all n past h z c.member is lt in
    let unstable : is_stable n past c ≡ false = lt-leb _ _ (omega (arith, all.1)) in
    record { stable = is.stable; time = lowered ∙ ap (λ t. min t (c.time - 1)) is.time ∙ sym (unstable_passed n past h c (omega (arith, all.0)) unstable) }
