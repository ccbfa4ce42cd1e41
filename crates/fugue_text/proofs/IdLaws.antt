-- Ids that follow one another.
use Rattle.std.specs.Prelude.{◌≡◌, ℕ, zero, suc, ◌+◌, ◌-◌, ◌<◌, ◌≤◌, true, false, nat_lt, refl}
use Rattle.std.proofs.Common.{sym, ◌∙◌, ap, inl, inr, arith}
use Rattle.std.proofs.lemmas.Bool.Decides.{nat_tests}
use Rattle.std.specs.Ordering.{is_gt, is_lt, ordering_reverse}
use Rattle.std.specs.declared.cmp.Ordering.{Ordering}
use Rattle.std.specs.declared.cmp.Ordering.TheVariants.{Less, Equal, Greater}
use Rattle.op_ids.specs.declared.OpId.{OpId}
use Rattle.op_ids.specs.declared.Stamp.{Stamp}
use Rattle.op_ids.specs.Order.{id_cmp, id_lt, id_plus, stamp_of}
use Rattle.op_ids.proofs.OrderLaws.{id_cmp_total, lt_itself, lt_at_one_stamp, lt_from_stamps, stamps_from_lt, stamp_lt_cases, lt_not_back}
use Rattle.walk_laws.proofs.Walks.{key_eq, key_itself, lt_back}

-- an id of a change is told by its index
pub of_change : (a b : OpId) → stamp_of a ≡ stamp_of b → a.index ≡ b.index → a ≡ b
of_change a b s e =
    let times : a.time ≡ b.time = ap (λ (t : Stamp). t.time) s in
    let members : a.member ≡ b.member = ap (λ (t : Stamp). t.member) s in
    λ i. record { time = times i; member = members i; index = e i }

pub plus_zero : (f : OpId) → id_plus f 0 ≡ f
plus_zero f = of_change (id_plus f 0) f refl (omega arith)

pub plus_plus : (f : OpId) (k : ℕ) → id_plus (id_plus f 1) k ≡ id_plus f (suc k)
plus_plus f k = of_change (id_plus (id_plus f 1) k) (id_plus f (suc k)) refl (omega arith)

pub plus_then : (f : OpId) (k : ℕ) → id_plus (id_plus f k) 1 ≡ id_plus f (suc k)
plus_then f k = of_change (id_plus (id_plus f k) 1) (id_plus f (suc k)) refl (omega arith)

pub less_true : (m n : ℕ) → m < n → nat_lt m n ≡ true
less_true m n h = grind (arith, nat_tests)

pub true_less : (m n : ℕ) → nat_lt m n ≡ true → m < n
true_less m n h = grind (arith, nat_tests)

pub false_le : (m n : ℕ) → nat_lt m n ≡ false → n ≤ m
false_le m n h = grind (arith, nat_tests)

pub plus_lt : (f : OpId) (j k : ℕ) → j < k → id_lt (id_plus f j) (id_plus f k) ≡ true
plus_lt f j k h = lt_at_one_stamp (id_plus f j) (id_plus f k) refl ∙ less_true (f.index + j) (f.index + k) (omega arith)

pub lt_plus : (f : OpId) (k : ℕ) → 0 < k → id_lt f (id_plus f k) ≡ true
lt_plus f k h = lt_at_one_stamp f (id_plus f k) refl ∙ less_true f.index (f.index + k) (omega arith)

pub plus_apart : (f : OpId) (k : ℕ) → key_eq (id_plus f (suc k)) f ≡ false
plus_apart f k = lt_back f (id_plus f (suc k)) (lt_plus f (suc k) (omega arith))

pub plus_exact : (f : OpId) (j k : ℕ) → id_plus f j ≡ id_plus f k → j ≡ k
plus_exact f j k e = let same : f.index + j ≡ f.index + k = ap (λ (a : OpId). a.index) e in omega arith

-- what comes behind an id comes behind the next one, or is the next one
pub lt_next : (a q : OpId) → id_lt a q ≡ true → key_eq q (id_plus a 1) ≡ false → id_lt (id_plus a 1) q ≡ true
lt_next a q l ne =
    elim (stamp_lt_cases (stamp_of a) (stamp_of q)) as (λ _. id_lt (id_plus a 1) q ≡ true) [
      | inl s ↦ lt_from_stamps (id_plus a 1) q s
      | inr (inl s) ↦
          let less : a.index < q.index = true_less a.index q.index (sym (lt_at_one_stamp a q s) ∙ l) in
          let other : a.index + 1 ≡ q.index → ⊥ = λ e.
          let same : q ≡ id_plus a 1 = sym (of_change (id_plus a 1) q s e) in
          let no : true ≡ false = sym (ap (λ x. key_eq x (id_plus a 1)) same ∙ key_itself (id_plus a 1)) ∙ ne in
          cc in
          lt_at_one_stamp (id_plus a 1) q s ∙ less_true (a.index + 1) q.index (omega (arith, other))
      | inr (inr s) ↦ (let no : true ≡ false = sym s ∙ stamps_from_lt a q l in cc)
    ]

-- an id from one on, up to so many behind it, is that many or fewer behind it
pub record Within (g f : OpId) (k : ℕ) : Type 0 where
  pub offset : ℕ
  pub within : offset ≤ k
  pub is : f ≡ id_plus g offset

pub within : (g f : OpId) (k : ℕ) → id_lt f g ≡ false → id_lt (id_plus g k) f ≡ false → Within g f k
within g f k h u =
    elim (stamp_lt_cases (stamp_of g) (stamp_of f)) as (λ _. Within g f k) [
      | inl s ↦ (let no : true ≡ false = sym (lt_from_stamps (id_plus g k) f s) ∙ u in cc)
      | inr (inl s) ↦
          let low : g.index ≤ f.index = false_le f.index g.index (sym (lt_at_one_stamp f g (sym s)) ∙ h) in
          let high : f.index ≤ g.index + k = false_le (g.index + k) f.index (sym (lt_at_one_stamp (id_plus g k) f s) ∙ u) in
          record { offset = f.index - g.index; within = omega arith; is = sym (of_change (id_plus g (f.index - g.index)) f s (omega arith)) }
      | inr (inr s) ↦ (let no : true ≡ false = sym (lt_from_stamps f g s) ∙ h in cc)
    ]

-- ---- order

reversed : (r : Ordering) → is_gt r ≡ is_lt (ordering_reverse r)
reversed Less = refl
reversed Equal = refl
reversed Greater = refl

pub gt_is_lt : (a b : OpId) → is_gt (id_cmp a b) ≡ id_lt b a
gt_is_lt a b = reversed (id_cmp a b) ∙ ap is_lt (sym (id_cmp_total.antisymm b a))

-- an id isn't behind those that follow it
pub not_behind : (f : OpId) (k : ℕ) → id_lt (id_plus f k) f ≡ false
not_behind f zero = ap (λ x. id_lt x f) (plus_zero f) ∙ lt_itself f
not_behind f (suc k) = lt_not_back f (id_plus f (suc k)) (lt_plus f (suc k) (omega arith))

-- an id of a change is so many behind one that isn't behind it
pub behind : (f id : OpId) → stamp_of f ≡ stamp_of id → id_lt id f ≡ false → id ≡ id_plus f (id.index - f.index)
behind f id s h =
    let low : f.index ≤ id.index = false_le id.index f.index (sym (lt_at_one_stamp id f (sym s)) ∙ h) in
    of_change id (id_plus f (id.index - f.index)) (sym s) (omega arith)
