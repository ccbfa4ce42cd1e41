-- What may join a ledger may join what is held of it.
use Rattle.std.proofs.Common.{◌≡◌, ℕ, ◌+◌, ◌<◌, ◌++◌, true, false, eqb, ltb, not, [], None, subst, sym, ap, ◌∙◌, arith, inl, inr, refl}
use Rattle.std.specs.Prelude.{filter_map, slice_get, slice_index}
use Rattle.std.proofs.lemmas.Bool.{cases_lt, eq-eqb, le-ltb, lt-ltb}
use Rattle.model.specs.Base.{MemberRow, base_of, member_row, members}
use Rattle.model.specs.Change.{Change}
use Rattle.model.specs.Held.{Held, held, held_behind, is_missing, is_ready, misfits, missing_cause, row_behind}
use Rattle.model.specs.Ledger.{IsAmong}
use Rattle.model_laws.proofs.ListLaws.{all_more, nil_from_append, nil_from_none}
use Rattle.arrival_laws.proofs.ComeLaws.{comes_in_turn}
use Rattle.arrival_laws.proofs.ReadLaws.{Halves, fits_agree, ready_agrees, rows_agree}
use Rattle.arrival_laws.proofs.SoundLaws.{list_of_all, ready_from}
use Rattle.arrival_laws.proofs.StableLaws.{fitting, given_none, nil_second}
use Rattle.holding.specs.Laws.{FitChangesJoin, LedgersMayGrow}

pub ledgers_may_grow : LedgersMayGrow
ledgers_may_grow n h c sound is joins =
    let among : IsAmong n c = record { member = is.member; causes = is.causes_each } in
    let halves : Halves n [] h 0 = record { each = sound.each; by_then = tt } in
    let row : row_behind (base_of n [] 0) h c.member ≡ member_row n h c.member = rows_agree n [] h 0 halves c.member is.member in
    let fit = fitting n (held n h) c joins.fitting in
    record {
      is_change = is;
      next = (ready_from n h c joins.ready).is_next ∙ ap (λ (r : MemberRow). r.count + 1) (sym row);
      later = subst (λ (r : MemberRow). r.last < c.time) (sym row) fit.later;
      refers = fit.refers;
      comes = comes_in_turn n [] h c sound among joins tt;
    }

-- a cause that isn't told as missing is there
there : (past : Held) (c : Change) (k : ℕ) → missing_cause past c k ≡ None → not (is_missing past c k) ≡ true
there past c k e =
    elim (cases_lt (past.row k).count (slice_index c.causes k)) [
      | inl lt ↦ (let yes : ltb (past.row k).count (slice_index c.causes k) ≡ true = lt-ltb _ _ lt in let some = rw yes at e in absurd cc)
      | inr le ↦ (let no : ltb (past.row k).count (slice_index c.causes k) ≡ false = le-ltb _ _ le in rw no refl)
    ]

ready_by : (n : ℕ) (past : Held) (c : Change) → c.number ≡ (past.row c.member).count + 1 → filter_map (missing_cause past c) (members n) ≡ [] → is_ready n past c ≡ true
ready_by n past c next none =
    let here : eqb c.number ((past.row c.member).count + 1) ≡ true = eq-eqb _ _ next in
    let all = list_of_all (λ k. not (is_missing past c k)) (members n) (all_more (λ k. missing_cause past c k ≡ None) (λ k. not (is_missing past c k) ≡ true) (λ k e. there past c k e) (members n) (given_none (missing_cause past c) (members n) none)) in
    rw (here, all) refl

pub fit_changes_join : FitChangesJoin
fit_changes_join n h c sound is next fit =
    let past = held_behind (base_of n [] 0) h in
    let halves : Halves n [] h 0 = record { each = sound.each; by_then = tt } in
    let missing = filter_map (missing_cause past c) (members n) in
    let none = nil_from_none (missing ++ misfits n past c) fit in
    record {
      ready = ready_agrees n [] h 0 halves c is.member ∙ ready_by n past c next (nil_from_append missing (misfits n past c) none);
      fitting = fits_agree n [] h 0 halves c is.member (omega arith) ∙ ap (λ ms. slice_get ms 0) (nil_second missing (misfits n past c) none);
    }
