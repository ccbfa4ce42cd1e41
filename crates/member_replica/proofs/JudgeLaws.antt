-- One change after the other is judged.
use Rattle.std.proofs.Common.{◌≡◌, ℕ, ◌+◌, ◌*◌, ◌≤◌, length, arith, true, not, List, [], ◌∷◌, ◌++◌, map, sym, ap, subst, ◌∙◌}
use Rattle.std.specs.Prelude.{Option, Some, None, Result, Ok, Err, IfOk}
use Rattle.std.specs.List.{AllByRecursion}
use Rattle.std.proofs.lemmas.List.{map-append}
use Rattle.model.specs.Base.{base_of}
use Rattle.model.specs.Change.{Change, IsChange, has_name, name_of}
use Rattle.model.specs.Held.{Refused, is_ready, fits, unfit}
use Rattle.model.specs.Ledger.{Sound, Joins, add}
use Rattle.model.specs.Settle.{Report as ModelReport, Settling, all_judged, judged, least_ready, rest, settle, without}
use Rattle.arrival_laws.proofs.AddLaws.{all_kept}
use Rattle.arrival_laws.proofs.SoundLaws.{stays_sound}
use Rattle.causal_inbox.specs.Offers.{Waiting, taken_out}
use Rattle.replica.specs.FaultText.{misfit_of}
use Rattle.replica.specs.declared.fault.Misfit.{Misfit}
use Rattle.holding.specs.Holds.{Holds, MayJoin}
use Rattle.holding.specs.declared.holding.Holding.{Holding}
use Rattle.holding.proofs.GrowLaws.{ledgers_may_grow}
use Rattle.member_replica.specs.Receiving.{IsJudging, IsSettled, IsSoFar, MaySettle, reading}
use Rattle.doc_store.specs.Documents.{DecodesSome}
use Rattle.outside.specs.Work.{Work}
use Rattle.member_replica.specs.Work.{operations_in, readied, ready_in}
use Rattle.member_replica.specs.Reports.{refusal_of, report_of}
use Rattle.member_replica.specs.declared.report.Report.{Report}
use Rattle.member_replica.specs.declared.report.Refusal.{Refusal}
use Rattle.member_replica.specs.declared.settle.Judging.{Judging}
use Rattle.member_replica.specs.declared.settle.Settled.{Settled}
use Rattle.member_replica.proofs.SettleLaws.{Goes, IsLeast, among, joins, least_one, no_turn, pooled, Pooled, ready_fits, turn}

out_of : (P : Change → Type 0) (pool : List Change) (o : Option Change) → AllByRecursion P pool → AllByRecursion P (taken_out pool o)
out_of P pool None all = all
out_of P pool (Some c) all = all_kept P (λ d. not (has_name (name_of c) d)) pool all

-- where a change is taken out, the others are judged still
pub taken_judging : (j : Judging) (w : Waiting) (o : Option Change) → IsJudging j → w.members ≡ j.inbox.members → w.pool ≡ taken_out j.inbox.pool o → IsJudging (record j { inbox = w })
taken_judging j w o g members pool = record {
  holds = subst (λ n. Holds j.holding n (base_of n [] 0) j.ledger) (sym members) g.holds;
  sound = subst (λ n. Sound n j.ledger) (sym members) g.sound;
  pooled = subst (λ n. AllByRecursion (IsChange n) w.pool) (sym members) (subst (AllByRecursion (IsChange j.inbox.members)) (sym pool) (out_of (IsChange j.inbox.members) j.inbox.pool o g.pooled));
}

-- one refusal more
pub refused_more : (xs : List Refusal) (x : Refusal) (ys : List Refusal) (r : Refused) → ys ≡ xs ++ x ∷ [] → refusal_of x ≡ r → map refusal_of ys ≡ map refusal_of xs ++ r ∷ []
refused_more xs x ys r more is = ap (map refusal_of) more ∙ map-append refusal_of xs (x ∷ []) ∙ ap (λ (q : Refused). map refusal_of xs ++ q ∷ []) is

module _ (j : Judging) (c : Change) (g : IsJudging j) (is : IsChange j.inbox.members c) (ready : is_ready j.inbox.members (reading j.inbox.members j.ledger) c ≡ true) where
  fitting : None ≡ unfit j.inbox.members (reading j.inbox.members j.ledger) c → fits j.inbox.members (reading j.inbox.members j.ledger) c ≡ None
  fitting none = sym (none ∙ ready_fits j.inbox.members (reading j.inbox.members j.ledger) c ready)

  joining : None ≡ unfit j.inbox.members (reading j.inbox.members j.ledger) c → Joins j.inbox.members j.ledger c
  joining none = joins j.inbox.members j.ledger c g.sound is ready (fitting none)

  pub may_join : None ≡ unfit j.inbox.members (reading j.inbox.members j.ledger) c → MayJoin j.inbox.members (base_of j.inbox.members [] 0) j.ledger c
  may_join none = ledgers_may_grow j.inbox.members j.ledger c g.sound is (joining none)

  pub joined_judging : (holding : Holding) (h : List Change) (r : Report) → None ≡ unfit j.inbox.members (reading j.inbox.members j.ledger) c
      → Holds holding j.inbox.members (base_of j.inbox.members [] 0) (add j.ledger c) → h ≡ add j.ledger c → IsJudging (record { holding = holding; ledger = h; inbox = j.inbox; report = r })
  joined_judging holding h r none holds more = record {
    holds = subst (Holds holding j.inbox.members (base_of j.inbox.members [] 0)) (sym more) holds;
    sound = subst (Sound j.inbox.members) (sym more) (stays_sound j.inbox.members j.ledger c g.sound (among j.inbox.members c is) (joining none));
    pooled = g.pooled;
  }

  pub accepted : (h : List Change) (r : ModelReport) (pool : List Change) → None ≡ unfit j.inbox.members (reading j.inbox.members j.ledger) c → h ≡ add j.ledger c
      → r ≡ record (report_of j.report) { accepted = j.report.accepted + 1 }
      → judged (record { held = j.ledger; pool = pool; report = report_of j.report }) c (fits j.inbox.members (reading j.inbox.members j.ledger) c) ≡ record { held = h; pool = without c pool; report = r }
  accepted h r pool none more report =
      ap (judged (record { held = j.ledger; pool = pool; report = report_of j.report }) c) (fitting none) ∙ (λ i. record { held = sym more i; pool = without c pool; report = sym report i })

  pub refused : (m : Misfit) (r : ModelReport) (pool : List Change) → Some (misfit_of m) ≡ unfit j.inbox.members (reading j.inbox.members j.ledger) c
      → r ≡ record (report_of j.report) { refused = (report_of j.report).refused ++ record { name = name_of c; misfit = misfit_of m } ∷ [] }
      → judged (record { held = j.ledger; pool = pool; report = report_of j.report }) c (fits j.inbox.members (reading j.inbox.members j.ledger) c) ≡ record { held = j.ledger; pool = without c pool; report = r }
  refused m r pool some report =
      ap (judged (record { held = j.ledger; pool = pool; report = report_of j.report }) c) (sym (some ∙ ready_fits j.inbox.members (reading j.inbox.members j.ledger) c ready))
      ∙ (λ i. record { held = j.ledger; pool = without c pool; report = sym report i })

-- ---- one after the other

pub next_one : (j : Judging) (c : Change) → IsJudging j → Some c ≡ least_ready j.inbox.members (reading j.inbox.members j.ledger) j.inbox.pool
    → IsLeast (IsChange j.inbox.members) j.inbox.members (reading j.inbox.members j.ledger) j.inbox.pool c
next_one j c g e = least_one (IsChange j.inbox.members) j.inbox.members (reading j.inbox.members j.ledger) j.inbox.pool c g.pooled (sym e)

abbrev pub without_one : Judging → Change → Judging
without_one j c = record j { inbox = record j.inbox { pool = without c j.inbox.pool } }

abbrev Judges : Judging → Judging → Change → Type 0
Judges j k c = (pool : List Change) → judged (record { held = j.ledger; pool = pool; report = report_of j.report }) c (fits j.inbox.members (reading j.inbox.members j.ledger) c) ≡ record { held = k.ledger; pool = without c pool; report = report_of k.report }

pub judged_on : (n : ℕ) (j taken next : Judging) (c : Change) (turns : ℕ) (s : Settling) (read : List Change) → j.inbox.members ≡ n → Some c ≡ least_ready j.inbox.members (reading j.inbox.members j.ledger) j.inbox.pool
    → taken ≡ without_one j c → next.inbox ≡ taken.inbox → Judges taken next c → Goes n turns s j.ledger j.inbox.pool (report_of j.report) read → Goes n turns s next.ledger next.inbox.pool (report_of next.report) (read ++ c ∷ [])
judged_on n j taken next c turns s read many e out same judges g =
    let judges_j : Judges j next c = subst (λ k. Judges k next c) out judges in
    let least : least_ready n (reading n j.ledger) j.inbox.pool ≡ Some c = subst (λ k. least_ready k (reading k j.ledger) j.inbox.pool ≡ Some c) many (sym e) in
    let judges_n = subst (λ k. (pool : List Change) → judged (record { held = j.ledger; pool = pool; report = report_of j.report }) c (fits k (reading k j.ledger) c) ≡ record { held = next.ledger; pool = without c pool; report = report_of next.report }) many judges_j in
    let pool : without c j.inbox.pool ≡ next.inbox.pool = sym (ap (λ (w : Waiting). w.pool) same ∙ ap (λ (k : Judging). k.inbox.pool) out) in
    subst (λ p. Goes n turns s next.ledger p (report_of next.report) (read ++ c ∷ [])) pool (turn n turns s j.ledger j.inbox.pool (report_of j.report) read c next.ledger (report_of next.report) g least judges_n)

pub judged_whole : (n : ℕ) (j left : Judging) (turns : ℕ) (s : Settling) (read : List Change) → j.inbox.members ≡ n → None ≡ least_ready j.inbox.members (reading j.inbox.members j.ledger) j.inbox.pool
    → left ≡ j → Goes n turns s j.ledger j.inbox.pool (report_of j.report) read → IsSoFar left.ledger left.inbox.pool (report_of left.report) (all_judged turns n (reading n) s)
judged_whole n j left turns s read many e same g =
    let least : least_ready n (reading n j.ledger) j.inbox.pool ≡ None = subst (λ k. least_ready k (reading k j.ledger) j.inbox.pool ≡ None) many (sym e) in
    subst (λ k. IsSoFar k.ledger k.inbox.pool (report_of k.report) (all_judged turns n (reading n) s)) (sym same) (no_turn n turns s j.ledger j.inbox.pool (report_of j.report) read g least)

-- ---- all of it

pub if_ok : {A E : Type 0} (P Q : A → Type 0) (r : Result A E) → ((x : A) → P x → Q x) → IfOk r P → IfOk r Q
if_ok P Q (Ok x) f p = f x p
if_ok P Q (Err e) f p = tt

pub begins_judging : (n : ℕ) (kept waiting offered : List Change) (j : Judging) → MaySettle n j.holding kept waiting offered → j.inbox.members ≡ n → j.ledger ≡ kept → Pooled n kept waiting offered j.inbox.pool (report_of j.report) → IsJudging j
begins_judging n kept waiting offered j may members ledger p = record {
  holds = subst (λ k. Holds j.holding k (base_of k [] 0) j.ledger) (sym members) (subst (Holds j.holding n (base_of n [] 0)) (sym ledger) may.holds);
  sound = subst (λ k. Sound k j.ledger) (sym members) (subst (Sound n) (sym ledger) may.sound);
  pooled = subst (λ k. AllByRecursion (IsChange k) j.inbox.pool) (sym members) p.each;
}

abbrev Turns : ℕ → Judging → Judging → Type 0
Turns n j k = (turns : ℕ) (s : Settling) → IsSoFar j.ledger j.inbox.pool (report_of j.report) s → length s.pool ≤ turns → IsSoFar k.ledger k.inbox.pool (report_of k.report) (all_judged turns n (reading n) s)

pub settled_so : (n : ℕ) (kept waiting offered : List Change) (j k : Judging) (r : Settled) → j.inbox.members ≡ n → j.ledger ≡ kept → Pooled n kept waiting offered j.inbox.pool (report_of j.report) → Turns j.inbox.members j k
    → ((s : Settling) → IsSoFar k.ledger k.inbox.pool (report_of k.report) s → IsSettled (rest s) r) → IsSettled (settle n (reading n) kept kept waiting offered) r
settled_so n kept waiting offered j k r members ledger p turns ends =
    let s = pooled n kept waiting offered in
    let start : IsSoFar j.ledger j.inbox.pool (report_of j.report) s = subst (λ h. IsSoFar h j.inbox.pool (report_of j.report) s) (sym ledger) p.far in
    let all : Turns n j k = subst (λ m. Turns m j k) members turns in
    ends (all_judged (length s.pool) n (reading n) s) (all (length s.pool) s start (omega arith))

pub settled_work : (n : ℕ) (kept waiting offered : List Change) (j : Judging) (a b : Work) → j.inbox.members ≡ n → j.ledger ≡ kept → Pooled n kept waiting offered j.inbox.pool (report_of j.report)
    → ((turns : ℕ) (s : Settling) → IsSoFar j.ledger j.inbox.pool (report_of j.report) s → length s.pool ≤ turns → DecodesSome a b (2 * operations_in (ready_in turns j.inbox.members (reading j.inbox.members) s)))
    → DecodesSome a b (2 * operations_in (readied n (reading n) kept kept waiting offered))
settled_work n kept waiting offered j a b members ledger p work =
    let s = pooled n kept waiting offered in
    let start : IsSoFar j.ledger j.inbox.pool (report_of j.report) s = subst (λ h. IsSoFar h j.inbox.pool (report_of j.report) s) (sym ledger) p.far in
    subst (λ m. DecodesSome a b (2 * operations_in (ready_in (length s.pool) m (reading m) s))) members (work (length s.pool) s start (omega arith))
