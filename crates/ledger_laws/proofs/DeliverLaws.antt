-- What a delivery stores stands for the ledger of settling.
use Rattle.std.proofs.Common.{◌≡◌, ◌≢◌, ℕ, zero, suc, ◌+◌, ◌<◌, ◌≤◌, ◌&&◌, true, false, eqb, leb, not, Bool, List, [], ◌∷◌, ◌++◌, length, refl, sym, ap, subst, ◌∙◌, arith, inl, inr}
use Rattle.std.specs.Prelude.{if◌then◌else◌, Some, None, filter, fold, IfSome}
use Rattle.std.specs.List.{AllByRecursion}
use Rattle.std.proofs.lemmas.Bool.{cases_eq, cases_lt, eq-eqb, ne_eqb, lt-leb, le-leb}
use Rattle.model.specs.Base.{rows_of_changes, Base, base_of, count_of, up_to, past}
use Rattle.model.specs.Change.{Change, name_of, has_name, in_order}
use Rattle.model.specs.Command.{settled, horizon_at}
use Rattle.model.specs.Held.{Misfit, held, is_known, is_ready, waits, fits}
use Rattle.model.specs.Ledger.{Sound, IsAmong, Joins, add}
use Rattle.model.specs.Settle.{Report, forked_too, Settling, least_ready, without, judged, judged_next, next_judged, all_judged, name_before, most_waiting, begun, offered_one, differs, is_pooled}
use Rattle.model.specs.Stability.{horizon_of}
use Rattle.model.specs.State.{replay}
use Rattle.ledger_laws.specs.Storing.{DeliveredFilesStand}
use Rattle.arrival_laws.proofs.AddLaws as place
use Rattle.arrival_laws.proofs.AddLaws.{order_from, is_last, in_two, count_added, all_kept, all_pass, filter-append}
use Rattle.model_laws.proofs.ListLaws.{all_append, all_more, all_both}
use Rattle.ledger_laws.proofs.SettleLaws.{least_is, all_taken, all_placed, nothing_ready_waits}
use Rattle.arrival_laws.proofs.SoundLaws.{stays_sound, ready_from}
use Rattle.arrival_laws.proofs.StableLaws.{past_horizon, fitting, stability_never_falls}

-- what holds while settling goes on, above a time
pub record Goes (n T : ℕ) (base : Base) (s : Settling) : Type 0 where
  pub sound : Sound n s.held
  pub reached : T ≤ horizon_of n s.held
  pub same : base_of n s.held T ≡ base
  pub among : AllByRecursion (IsAmong n) s.pool
  pub unknown : AllByRecursion (λ d. is_known (held n s.held) d ≡ false) s.pool

-- ---- known

pub not_known : (n : ℕ) (h : List Change) (d : Change) → is_known (held n h) d ≡ false → count_of h d.member < d.number
not_known n h d e =
    elim (cases_lt (count_of h d.member) d.number) as (λ _. count_of h d.member < d.number) [
      | inl l ↦ l
      | inr ge ↦ (let t : leb d.number (count_of h d.member) ≡ true = le-leb _ _ ge in let bad : true ≡ false = sym t ∙ e in absurd cc)
    ]

pub unknown_from : (n : ℕ) (h : List Change) (d : Change) → count_of h d.member < d.number → is_known (held n h) d ≡ false
unknown_from n h d l = lt-leb _ _ l

-- another name of the member is another number
pub other_number : (c d : Change) → not (has_name (name_of c) d) ≡ true → d.member ≡ c.member → d.number ≢ c.number
other_number c d e m q =
    let t : eqb d.member c.member ≡ true = eq-eqb d.member c.member m in
    let u : eqb d.number c.number ≡ true = eq-eqb d.number c.number q in
    let bad : not true ≡ true = rw (t, u) at e in cc

-- ---- a change that joins

pub same_early : (T : ℕ) (h : List Change) (c : Change) → place.InOrder h → place.IsLast h c → T < c.time → up_to T (add h c) ≡ up_to T h
same_early T h c r l late =
    let n : leb c.time T ≡ false = lt-leb _ _ late in
    let test = λ (d : Change). leb d.time T in
    let without : filter test (place.earlier c h) ++ filter test (c ∷ place.later c h) ≡ filter test (place.earlier c h) ++ filter test (place.later c h) = rw n refl in
    filter-append test (place.earlier c h) (c ∷ place.later c h) ∙ without ∙ sym (filter-append test (place.earlier c h) (place.later c h)) ∙ ap (filter test) (sym (in_two c h r l))

pub accepted : (n T : ℕ) (base : Base) (s : Settling) (c : Change) → Goes n T base s → IsAmong n c → is_ready n (held n s.held) c ≡ true → fits n (held n s.held) c ≡ None → Goes n T base (judged s c None)
accepted n T base s c g among ready fit =
    let joins : Joins n s.held c = record { ready = ready; fitting = fit } in
    let r = order_from s.held g.sound.in_order in
    let f = fitting n (held n s.held) c fit in
    let l = is_last s.held c r f.later in
    let late = past_horizon n T s.held c g.reached among.member f.later in
    let number = (ready_from n s.held c ready).is_next in
    let up = stability_never_falls n s.held c g.sound among joins in
    let rises : horizon_of n s.held ≤ horizon_of n (add s.held c) = up.horizon in
    let reached : T ≤ horizon_of n s.held = g.reached in
    record {
      sound = stays_sound n s.held c g.sound among joins;
      reached = omega arith;
      same = ap (λ e. record { horizon = T; rows = rows_of_changes n e; state = replay e }) (same_early T s.held c r l late) ∙ g.same;
      among = all_kept (IsAmong n) (λ d. not (has_name (name_of c) d)) s.pool g.among;
      unknown = all_more (λ d. (is_known (held n s.held) d ≡ false) × (not (has_name (name_of c) d) ≡ true)) (λ d. is_known (held n (add s.held c)) d ≡ false)
          (λ d k. let more = not_known n s.held d k.0 in let count = count_added s.held c d.member r l in
          unknown_from n (add s.held c) d
          (elim (cases_eq d.member c.member) as (λ _. count_of (add s.held c) d.member < d.number) [
            | inl same ↦ (let other = other_number c d k.1 same in let t : eqb c.member d.member ≡ true = eq-eqb c.member d.member (sym same) in let count' : count_of (add s.held c) d.member ≡ count_of s.held d.member + 1 = rw t at count in let at = ap (count_of s.held) same in omega arith)
            | inr ne ↦ (let t : eqb c.member d.member ≡ false = ne_eqb c.member d.member (λ e. ne (sym e)) in let count' : count_of (add s.held c) d.member ≡ count_of s.held d.member + 0 = rw t at count in omega arith)
          ]))
          (without c s.pool)
          (all_both (λ d. is_known (held n s.held) d ≡ false) (λ d. not (has_name (name_of c) d) ≡ true) (without c s.pool) (all_kept (λ d. is_known (held n s.held) d ≡ false) (λ d. not (has_name (name_of c) d)) s.pool g.unknown) (all_pass (λ d. not (has_name (name_of c) d)) s.pool));
    }

pub refused : (n T : ℕ) (base : Base) (s : Settling) (c : Change) (m : Misfit) → Goes n T base s → Goes n T base (judged s c (Some m))
refused n T base s c m g = record {
  sound = g.sound;
  reached = g.reached;
  same = g.same;
  among = all_kept (IsAmong n) (λ d. not (has_name (name_of c) d)) s.pool g.among;
  unknown = all_kept (λ d. is_known (held n s.held) d ≡ false) (λ d. not (has_name (name_of c) d)) s.pool g.unknown;
}

pub goes_on : (n T : ℕ) (base : Base) (s : Settling) → Goes n T base s → Goes n T base (next_judged n (held n) s)
goes_on n T base s g =
    let ready = is_ready n (held n s.held) in
    let is = least_is (λ c. IsAmong n c × (ready c ≡ true)) (filter ready s.pool) (all_both (IsAmong n) (λ c. ready c ≡ true) (filter ready s.pool) (all_kept (IsAmong n) ready s.pool g.among) (all_pass ready s.pool)) in
    elim (least_ready n (held n s.held) s.pool) as (λ o. IfSome o (λ c. IsAmong n c × (ready c ≡ true)) → Goes n T base (judged_next n (held n s.held) s o)) [
      | None ↦ λ k. g
      | Some c ↦ λ k.
          elim (fits n (held n s.held) c) as (λ o. fits n (held n s.held) c ≡ o → Goes n T base (judged s c o)) [ None ↦ λ e. accepted n T base s c g k.0 k.1 e | Some m ↦ λ e. refused n T base s c m g ] refl
    ] is

pub goes_through : (turns n T : ℕ) (base : Base) (s : Settling) → Goes n T base s → Goes n T base (all_judged turns n (held n) s)
goes_through zero n T base s g = g
goes_through (suc turns) n T base s g = goes_through turns n T base (next_judged n (held n) s) (goes_on n T base s g)

-- ---- the pool

pub same_goes : {n T : ℕ} {base : Base} {s : Settling} {r : Report} → Goes n T base s → Goes n T base (record s { report = r })
same_goes g = record { sound = g.sound; reached = g.reached; same = g.same; among = g.among; unknown = g.unknown }

-- what is done with an offered change, by the tests
abbrev pub offer_by : Bool → Bool → Bool → Bool → Settling → Change → Settling
offer_by known forked differs pooled s c =
    if known && forked then record s { report = forked_too s.report c }
    else if known then record s { report = record s.report { known = s.report.known + 1 } }
    else if differs then record s { report = forked_too s.report c }
    else if pooled then record s { report = record s.report { same = s.report.same + 1 } }
    else record s { pool = s.pool ++ c ∷ [] }

pub offers : (n T : ℕ) (base : Base) (h kept : List Change) (s : Settling) (c : Change) → s.held ≡ h → Goes n T base s → IsAmong n c → Goes n T base (offered_one (held n h) kept s c) × ((offered_one (held n h) kept s c).held ≡ h)
offers n T base h kept s c is g among =
    elim (is_known (held n h) c) as (λ b. is_known (held n h) c ≡ b → Goes n T base (offer_by b (differs kept c) (differs s.pool c) (is_pooled s.pool c) s c) × ((offer_by b (differs kept c) (differs s.pool c) (is_pooled s.pool c) s c).held ≡ h)) [
      | true ↦ λ e. elim (differs kept c) as (λ d. Goes n T base (offer_by true d (differs s.pool c) (is_pooled s.pool c) s c) × ((offer_by true d (differs s.pool c) (is_pooled s.pool c) s c).held ≡ h)) [ true ↦ (same_goes g, is) | false ↦ (same_goes g, is) ]
      | false ↦ λ e.
          elim (differs s.pool c) as (λ d. Goes n T base (offer_by false (differs kept c) d (is_pooled s.pool c) s c) × ((offer_by false (differs kept c) d (is_pooled s.pool c) s c).held ≡ h)) [
            | true ↦ (same_goes g, is)
            | false ↦
                elim (is_pooled s.pool c) as (λ p. Goes n T base (offer_by false (differs kept c) false p s c) × ((offer_by false (differs kept c) false p s c).held ≡ h)) [
                  | true ↦ (same_goes g, is)
                  | false ↦ (
                    record {
                      sound = g.sound;
                      reached = g.reached;
                      same = g.same;
                      among = all_append (IsAmong n) s.pool (c ∷ []) g.among (among, tt);
                      unknown = all_append (λ d. is_known (held n s.held) d ≡ false) s.pool (c ∷ []) g.unknown (subst (λ l. is_known (held n l) c ≡ false) (sym is) e, tt);
                    },
                    is,
                  )
                ]
          ]
    ] refl

pub all_offered : (n T : ℕ) (base : Base) (h kept : List Change) (s : Settling) (cs : List Change) → s.held ≡ h → Goes n T base s → AllByRecursion (IsAmong n) cs → Goes n T base (fold (offered_one (held n h) kept) s cs)
all_offered n T base h kept s [] is g a = g
all_offered n T base h kept s (c ∷ cs) is g a = let o = offers n T base h kept s c is g a.0 in all_offered n T base h kept (offered_one (held n h) kept s c) cs o.1 o.0 a.1

not_true : (b : Bool) → not b ≡ true → b ≡ false
not_true true e = cc
not_true false e = refl

pub begins : (n T : ℕ) (h waiting : List Change) → Sound n h → T ≤ horizon_of n h → AllByRecursion (IsAmong n) waiting → Goes n T (base_of n h T) (begun (held n h) h waiting)
begins n T h waiting sound reached among = record {
  sound = sound;
  reached = reached;
  same = refl;
  among = all_kept (IsAmong n) (λ c. not (is_known (held n h) c)) waiting among;
  unknown = all_more (λ c. not (is_known (held n h) c) ≡ true) (λ c. is_known (held n h) c ≡ false) (λ c e. not_true (is_known (held n h) c) e) (filter (λ c. not (is_known (held n h) c)) waiting) (all_pass (λ c. not (is_known (held n h) c)) waiting);
}

pub both_false : (a b : Bool) → a ≡ false → b ≡ false → (not a && not b) ≡ true
both_false a b p q = rw (p, q) refl

-- ---- the law

pub delivered_files_stand : DeliveredFilesStand
delivered_files_stand f h offered stands waiting_among offered_among =
    let n = f.members in
    let T = stands.horizon in
    let time : horizon_at f.base ≡ T = ap horizon_at stands.base in
    let kept = past (horizon_at f.base) h in
    let pooled = fold (offered_one (held n h) kept) (begun (held n h) h f.waiting) offered in
    let goes = goes_through (length pooled.pool) n T (base_of n h T) pooled (all_offered n T (base_of n h T) h kept (begun (held n h) h f.waiting) offered refl (begins n T h f.waiting stands.sound stands.reached waiting_among) offered_among) in
    let done = all_judged (length pooled.pool) n (held n) pooled in
    let unknown = all_taken (λ d. is_known (held n done.held) d ≡ false) most_waiting (in_order name_before done.pool) (all_placed (λ d. is_known (held n done.held) d ≡ false) [] done.pool tt goes.unknown) in
    let unready = nothing_ready_waits n (held n) h kept f.waiting offered in
    record {
      kind = stands.kind;
      sound = goes.sound;
      horizon = T;
      reached = goes.reached;
      base = stands.base ∙ ap Some (sym goes.same);
      kept = ap (λ t. past t done.held) time;
      waiting = all_more (λ d. (is_known (held n done.held) d ≡ false) × (is_ready n (held n done.held) d ≡ false)) (λ d. waits n (held n done.held) d ≡ true) (λ d k. both_false (is_known (held n done.held) d) (is_ready n (held n done.held) d) k.0 k.1)
          (settled f h offered).pool (all_both (λ d. is_known (held n done.held) d ≡ false) (λ d. is_ready n (held n done.held) d ≡ false) (settled f h offered).pool unknown unready);
    }
