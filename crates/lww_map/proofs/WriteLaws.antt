-- Two writes leave the same, whichever comes first.
use Rattle.std.specs.Prelude.{◌≡◌, ◌≢◌, Bool, true, false, cond, Option, Some, None, refl, ◌⊎◌}
use Rattle.std.proofs.Common.{sym, ◌∙◌, ap, inl, inr}
use Rattle.std.specs.FinMap.{get, insert, get-insert, same_map}
use Rattle.std.specs.Ordering.{eq_by_cmp}
use Rattle.op_ids.specs.declared.OpId.{OpId}
use Rattle.op_ids.specs.Order.{id_lt}
use Rattle.op_ids.proofs.OrderLaws.{lt_cases, lt_not_back, lt_trans}
use Rattle.model.specs.Operation.{Operation, put_key}
use Rattle.model.specs.State.{Register, register_cmp, Written}
use Rattle.model_laws.specs.Arrival.{writer_is_before, late_register}
use Rattle.model_laws.proofs.Tables.{register_total, register_exact, key_itself, key_cases}
use Rattle.lww_map.specs.Keys.{Table}
use Rattle.lww_map.specs.Writes.{WritesComeInAnyOrder}

-- a write over what was written
abbrev later : Option Written → Written → Option Written
later o v = cond (writer_is_before o v.writer) (Some v) o

abbrev kept : Table → Register → Written → Table
kept m k v = cond (writer_is_before (get m k) v.writer) (insert m k v) m

bool_cases : (b : Bool) → (b ≡ true) ⊎ (b ≡ false)
bool_cases true = inl refl
bool_cases false = inr refl

later_two : (v w : Written) → v.writer ≢ w.writer → later (Some v) w ≡ later (Some w) v
later_two v w ne =
    elim (lt_cases v.writer w.writer) as (λ _. later (Some v) w ≡ later (Some w) v) [
      | inl l ↦ (let back = lt_not_back v.writer w.writer l in rw (l, back) refl)
      | inr (inl e) ↦ absurd (ne e)
      | inr (inr l) ↦ (let back = lt_not_back w.writer v.writer l in rw (l, back) refl)
    ]

-- what a greater writer left stays before a smaller one
still : (x v w : Written) → id_lt x.writer v.writer ≡ true → id_lt x.writer w.writer ≡ false → id_lt v.writer w.writer ≡ false
still x v w l n =
    elim (bool_cases (id_lt v.writer w.writer)) as (λ _. id_lt v.writer w.writer ≡ false) [
      | inl k ↦ (let no : true ≡ false = sym (lt_trans x.writer v.writer w.writer l k) ∙ n in cc)
      | inr k ↦ k
    ]

later_swap : (o : Option Written) (v w : Written) → v.writer ≢ w.writer → later (later o v) w ≡ later (later o w) v
later_swap None v w ne = later_two v w ne
later_swap (Some x) v w ne =
    elim (bool_cases (id_lt x.writer v.writer)) as (λ _. later (later (Some x) v) w ≡ later (later (Some x) w) v) [
      | inl a ↦
          elim (bool_cases (id_lt x.writer w.writer)) as (λ _. later (later (Some x) v) w ≡ later (later (Some x) w) v) [
            | inl b ↦ (let two = later_two v w ne in rw (a, b) two)
            | inr b ↦ (let stays = still x v w a b in rw (a, b, a, stays) refl)
          ]
      | inr a ↦
          elim (bool_cases (id_lt x.writer w.writer)) as (λ _. later (later (Some x) v) w ≡ later (later (Some x) w) v) [
            | inl b ↦ (let stays = still x w v b a in rw (a, b, stays) refl)
            | inr b ↦ rw (a, b, a) refl
          ]
    ]

at_key : (m : Table) (k : Register) (v : Written) → get (kept m k v) k ≡ later (get m k) v
at_key m k v =
    let own : eq_by_cmp register_cmp k k ≡ true = key_itself register_total k k refl in
    let now : get (insert m k v) k ≡ Some v = get-insert register_total m k v k ∙ rw own refl in
    elim (writer_is_before (get m k) v.writer) as (λ b. get (cond b (insert m k v) m) k ≡ cond b (Some v) (get m k)) [ true ↦ now | false ↦ refl ]

at_other : (m : Table) (k : Register) (v : Written) (q : Register) → eq_by_cmp register_cmp q k ≡ false → get (kept m k v) q ≡ get m q
at_other m k v q ne =
    let now : get (insert m k v) q ≡ get m q = get-insert register_total m k v q ∙ rw ne refl in
    elim (writer_is_before (get m k) v.writer) as (λ b. get (cond b (insert m k v) m) q ≡ get m q) [ true ↦ now | false ↦ refl ]

-- what a write makes of a register
found : (m : Table) (k : Register) (v : Written) (q : Register) → get (kept m k v) q ≡ cond (eq_by_cmp register_cmp q k) (later (get m q) v) (get m q)
found m k v q =
    elim (key_cases register_exact q k) as (λ _. get (kept m k v) q ≡ cond (eq_by_cmp register_cmp q k) (later (get m q) v) (get m q)) [
      | inl e ↦
          let own : eq_by_cmp register_cmp q k ≡ true = key_itself register_total q k e in
          rw own (ap (get (kept m k v)) e ∙ at_key m k v ∙ ap (λ x. later (get m x) v) (sym e))
      | inr ne ↦ rw ne (at_other m k v q ne)
    ]

two : (a b : Bool) (o : Option Written) (v w : Written) → v.writer ≢ w.writer
    → cond b (later (cond a (later o v) o) w) (cond a (later o v) o) ≡ cond a (later (cond b (later o w) o) v) (cond b (later o w) o)
two true true o v w ne = later_swap o v w ne
two true false o v w ne = refl
two false true o v w ne = refl
two false false o v w ne = refl

kept_swap : (m : Table) (k l : Register) (v w : Written) → v.writer ≢ w.writer → kept (kept m k v) l w ≡ kept (kept m l w) k v
kept_swap m k l v w ne =
    same_map register_total register_exact _ _ (λ q.
    let a = eq_by_cmp register_cmp q k in
    let b = eq_by_cmp register_cmp q l in
    found (kept m k v) l w q ∙ ap (λ o. cond b (later o w) o) (found m k v q)
    ∙ two a b (get m q) v w ne
    ∙ sym (found (kept m l w) k v q ∙ ap (λ o. cond a (later o v) o) (found m l w q)))

put_swap : (m : Table) (i j : OpId) (k : Register) (v : Written) (q : Operation) → v.writer ≡ i → i ≢ j → late_register (kept m k v) j q ≡ kept (late_register m j q) k v
put_swap m i j k v (put_key node key value) e ne = kept_swap m k (node, key) v (record { writer = j; value = value }) (λ s. ne (sym e ∙ s))
put_swap m i j k v _ e ne = refl

pub any_order : WritesComeInAnyOrder
any_order m i j (put_key node key value) q ne = put_swap m i j (node, key) (record { writer = i; value = value }) q refl ne
any_order m i j _ q ne = refl
