-- Settling from step to step.
use Rattle.std.proofs.Common.{◌≡◌, ℕ, zero, suc, ◌+◌, ◌<◌, ◌≤◌, ◌&&◌, true, false, cond, eqb, not, Bool, List, [], ◌∷◌, ◌++◌, length, map, refl, sym, ap, subst, ◌∙◌, arith}
use Rattle.std.specs.Prelude.{Some, None, filter, filter_map, fold, take, slice_get, slice_index, IfSome}
use Rattle.std.specs.List.{AllByRecursion, cons_option, list_all}
use Rattle.std.proofs.lemmas.List.{append_assoc, length-append, length-take}
use Rattle.std.proofs.lemmas.List.FromFn.{length-map-range_with_len, get_or-map-range_with_len}
use Rattle.std.proofs.lemmas.List.Sums.{count_by-le-length, fold_more}
use Rattle.std.proofs.lemmas.Option.{same_Some, slice_get_within, get_or_from_slice_get}
use Rattle.model.specs.Base.{members}
use Rattle.model.specs.Change.{Change, EachAfter, IsChange, has_name, name_of, placed, in_order}
use Rattle.model.specs.File.{IsNextName}
use Rattle.model.specs.Held.{Held, lacks_cause, is_known, is_missing, is_ready, missing_cause, fits, unfit, misfits}
use Rattle.model.specs.Ledger.{Sound, IsAmong, Joins}
use Rattle.model.specs.Settle.{Report, Settling, begun, differs, is_pooled, offered_one, least_ready, without, judged, judged_next, next_judged, all_judged, most_waiting, name_before, rest}
use Rattle.model_laws.proofs.ListLaws.{all_append, all_both, all_more}
use Rattle.model_laws.proofs.Tables.{both_true}
use Rattle.arrival_laws.proofs.AddLaws.{all_kept, all_pass}
use Rattle.arrival_laws.proofs.ReadLaws.{Halves, ready_agrees, fits_agree}
use Rattle.ledger_laws.proofs.DeliverLaws.{offer_by}
use Rattle.ledger_laws.proofs.SettleLaws.{least_is, all_placed, judged_pool, own_name}
use Rattle.causal_inbox.specs.Counted.{counted, Counts, first_ready}
use Rattle.causal_inbox.specs.Names.{NamesRise, key_of, names_of}
use Rattle.causal_inbox.specs.Offers.{IsOffered, IsRest, after_offer, pool_after}
use Rattle.causal_inbox.specs.Orders.{AreApart, Holds as IsSorted, pool_joined}
use Rattle.causal_inbox.specs.declared.inbox.Offered.{Offered}
use Rattle.causal_inbox.specs.declared.inbox.Offered.TheVariants.{Known, Same, Forked, Joined}
use Rattle.causal_inbox.proofs.CountLaws.{counts_suffice}
use Rattle.causal_inbox.proofs.NameLaws.{in_order_already, not_back, other_name}
use Rattle.causal_inbox.proofs.OfferLaws.{names_rise, rise_kept}
use Rattle.causal_inbox.proofs.OrderLaws.{any_order}
use Rattle.member_replica.specs.Receiving.{IsSoFar, reading, told}
use Rattle.member_replica.specs.Work.{operations_in, ready_in}
use Rattle.member_replica.proofs.WorkLaws.{read_then}

abbrev so_far : List Change → List Change → Report → Settling
so_far h pool r = record { held = h; pool = pool; report = r }

by_pool : (h sorted pool : List Change) (r : Report) (s : Settling) → s ≡ so_far h pool r → IsSorted sorted pool → IsSoFar h sorted r s
by_pool h sorted pool r s e k =
    let same : pool ≡ s.pool = sym (ap (λ (t : Settling). t.pool) e) in
    record { pool = subst (IsSorted sorted) same k; is = e ∙ ap (λ p. so_far h p r) same }

-- ---- what is read of a ledger

pub among : (n : ℕ) (c : Change) → IsChange n c → IsAmong n c
among n c is = record { member = is.member; causes = is.causes_each }

pub joins : (n : ℕ) (h : List Change) (c : Change) → Sound n h → IsChange n c → is_ready n (reading n h) c ≡ true → fits n (reading n h) c ≡ None → Joins n h c
joins n h c sound is ready fit =
    let halves : Halves n [] h 0 = record { each = sound.each; by_then = tt } in
    record { ready = ready_agrees n [] h 0 halves c is.member ∙ ready; fitting = fits_agree n [] h 0 halves c is.member (omega arith) ∙ fit }

none_missing : (past : Held) (c : Change) (ks : List ℕ) → list_all (λ k. not (is_missing past c k)) ks ≡ true → filter_map (missing_cause past c) ks ≡ []
none_missing past c [] e = refl
none_missing past c (k ∷ ks) e =
    elim (is_missing past c k) as (λ b. (not b && list_all (λ j. not (is_missing past c j)) ks) ≡ true → cons_option (cond b (Some (lacks_cause k (slice_index c.causes k) (past.row k).count)) None) (filter_map (missing_cause past c) ks) ≡ []) [
      | true ↦ λ f. absurd cc
      | false ↦ λ f. none_missing past c ks f
    ] e

-- a change that is ready lacks no cause
pub ready_fits : (n : ℕ) (past : Held) (c : Change) → is_ready n past c ≡ true → unfit n past c ≡ fits n past c
ready_fits n past c e =
    let all = both_true (eqb c.number ((past.row c.member).count + 1)) (list_all (λ k. not (is_missing past c k)) (members n)) e in
    ap (λ ms. slice_get (ms ++ misfits n past c) 0) (none_missing past c (members n) all.1)

-- ---- counts

abbrev pub counts_of : ℕ → Held → List ℕ
counts_of n past = map (λ m. (past.row m).count) (members n)

count_all : (n : ℕ) (past : Held) → length (counts_of n past) ≡ n
count_all n past = length-map-range_with_len (λ m. (past.row m).count) 0 n

are_counts : (n : ℕ) (past : Held) → Counts past (counts_of n past)
are_counts n past m lt = sym (get_or-map-range_with_len (λ k. (past.row k).count) 0 n m m 0 (let e = count_all n past in omega arith) (omega arith))

pub as_many : (n : ℕ) (past : Held) (counts : List ℕ) → counts ≡ counts_of n past → length counts ≡ n
as_many n past counts e = ap (λ (ks : List ℕ). length ks) e ∙ count_all n past

module _ (n : ℕ) (past : Held) (counts : List ℕ) (e : counts ≡ counts_of n past) where
  some : Counts past counts
  some = subst (Counts past) (sym e) (are_counts n past)

  many : length counts ≡ n
  many = as_many n past counts e

  each : (xs : List Change) → AllByRecursion (IsChange n) xs → AllByRecursion (IsChange (length counts)) xs
  each xs all = subst (λ k. AllByRecursion (IsChange k) xs) (sym many) all

  pub ready_by_counts : (pool : List Change) → AllByRecursion (IsChange n) pool → first_ready counts pool ≡ least_ready n past pool
  ready_by_counts pool all = sym ((counts_suffice past counts some).ready pool (each pool all)) ∙ ap (λ k. least_ready k past pool) many

  pub begun_by_counts : (h waiting : List Change) → AllByRecursion (IsChange n) waiting → begun past h waiting ≡ begun (counted counts) h waiting
  begun_by_counts h waiting all = (counts_suffice past counts some).begins h waiting (each waiting all)

  pub offers_by_counts : (kept : List Change) (s : Settling) (cs : List Change) → AllByRecursion (IsChange n) cs → fold (offered_one past kept) s cs ≡ fold (offered_one (counted counts) kept) s cs
  offers_by_counts kept s [] all = refl
  offers_by_counts kept s (c ∷ cs) all =
      ap (λ t. fold (offered_one past kept) t cs) ((counts_suffice past counts some).offers kept s c (each (c ∷ []) (all.0, tt)).0)
      ∙ offers_by_counts kept (offered_one (counted counts) kept s c) cs all.1

-- ---- by names

rise_apart : (xs : List Change) → NamesRise xs → AreApart xs
rise_apart [] r = tt
rise_apart (x ∷ xs) r = (all_more (λ d. name_before x d ≡ true) (λ d. has_name (name_of x) d ≡ false) (λ d e. other_name (key_of x) x d (own_name x) e) xs r.0, rise_apart xs r.1)

pub begins : (past : Held) (h waiting pool : List Change) (known : ℕ) (r : Report) → EachAfter IsNextName [] waiting → pool ≡ (begun past h waiting).pool → known ≡ (begun past h waiting).report.known
    → r ≡ record { accepted = 0; known = known; same = 0; forked = []; refused = []; full = [] } → IsSoFar h pool r (begun past h waiting)
begins past h waiting pool known r next left count is =
    let s = begun past h waiting in
    let rise : NamesRise s.pool = rise_kept (λ c. not (is_known past c)) waiting (names_rise [] waiting tt next) in
    let sorted : IsSorted s.pool s.pool = record { apart = rise_apart s.pool rise; order = in_order_already s.pool rise } in
    let same : s.report ≡ r = sym (is ∙ ap (λ k. record { accepted = 0; known = k; same = 0; forked = []; refused = []; full = [] }) count) in
    record { pool = subst (λ p. IsSorted p s.pool) (sym left) sorted; is = ap (so_far h s.pool) same }

pub few_known : (past : Held) (h waiting : List Change) → (begun past h waiting).report.known ≤ length waiting
few_known past h waiting = count_by-le-length (is_known past) waiting

two_parts : (x : Change) (ys : List Change) → length (filter (λ y. name_before y x) ys) + length (filter (λ y. name_before x y) ys) ≤ length ys
two_parts x [] = omega arith
two_parts x (y ∷ ys) =
    let more = two_parts x ys in
    elim (name_before y x) as (λ b. name_before y x ≡ b → length (cond b (y ∷ filter (λ z. name_before z x) ys) (filter (λ z. name_before z x) ys)) + length (cond (name_before x y) (y ∷ filter (λ z. name_before x z) ys) (filter (λ z. name_before x z) ys)) ≤ suc (length ys)) [
      | true ↦ λ e. let f : name_before x y ≡ false = not_back y x e in rw f (omega arith)
      | false ↦ λ e. elim (name_before x y) as (λ b. length (filter (λ z. name_before z x) ys) + length (cond b (y ∷ filter (λ z. name_before x z) ys) (filter (λ z. name_before x z) ys)) ≤ suc (length ys)) [ true ↦ omega arith | false ↦ omega arith ]
    ] refl

no_longer : (ys xs : List Change) → length (fold (λ zs x. placed name_before x zs) ys xs) ≤ length ys + length xs
no_longer ys [] = omega arith
no_longer ys (x ∷ xs) =
    let front = filter (λ y. name_before y x) ys in
    let back = filter (λ y. name_before x y) ys in
    omega (arith, no_longer (placed name_before x ys) xs, two_parts x ys, length-append front (x ∷ back))

pub sorted_fewer : (sorted pool : List Change) → IsSorted sorted pool → length sorted ≤ length pool
sorted_fewer sorted pool k = subst (λ (xs : List Change). length xs ≤ length pool) k.order (omega (arith, no_longer [] pool))

pub sorted_each : (P : Change → Type 0) (sorted pool : List Change) → IsSorted sorted pool → AllByRecursion P pool → AllByRecursion P sorted
sorted_each P sorted pool k all = subst (AllByRecursion P) k.order (all_placed P [] pool tt all)

-- ---- offers

so_far_told : (h pool : List Change) (r : Report) (c : Change) (o : Offered) → after_offer (so_far h pool r) c o ≡ so_far h (pool_joined pool c o) (told r c o)
so_far_told h pool r c Known = refl
so_far_told h pool r c Same = refl
so_far_told h pool r c Forked = refl
so_far_told h pool r c Joined = refl

pub offered_more : (past : Held) (kept h sorted : List Change) (r : Report) (s : Settling) (c : Change) (o : Offered) → IsSoFar h sorted r s → IsOffered past kept sorted c o → IsSoFar h (pool_after sorted c o) (told r c o) (offered_one past kept s c)
offered_more past kept h sorted r s c o far is =
    let step = (any_order sorted s.pool far.pool).offers past kept c o is in
    by_pool h (pool_after sorted c o) (pool_joined s.pool c o) (told r c o) (offered_one past kept s c) (step.0 s refl ∙ ap (λ t. after_offer t c o) far.is ∙ so_far_told h s.pool r c o) step.1

-- what offers leave
pub record Leaves (P : Change → Type 0) (most : ℕ) (s t : Settling) : Type 0 where
  pub held : t.held ≡ s.held
  pub accepted : t.report.accepted ≡ s.report.accepted
  pub few : length t.pool ≤ most
  pub each : AllByRecursion P t.pool

one_leaves : (P : Change → Type 0) (a b d p : Bool) (s : Settling) (c : Change) → AllByRecursion P s.pool → P c → Leaves P (length s.pool + 1) s (offer_by a b d p s c)
one_leaves P true true d p s c all one = record { held = refl; accepted = refl; few = omega arith; each = all }
one_leaves P true false d p s c all one = record { held = refl; accepted = refl; few = omega arith; each = all }
one_leaves P false b true p s c all one = record { held = refl; accepted = refl; few = omega arith; each = all }
one_leaves P false b false true s c all one = record { held = refl; accepted = refl; few = omega arith; each = all }
one_leaves P false b false false s c all one = record { held = refl; accepted = refl; few = omega (arith, length-append s.pool (c ∷ [])); each = all_append P s.pool (c ∷ []) all (one, tt) }

pub offers_leave : (P : Change → Type 0) (past : Held) (kept : List Change) (s : Settling) (cs : List Change) → AllByRecursion P s.pool → AllByRecursion P cs → Leaves P (length s.pool + length cs) s (fold (offered_one past kept) s cs)
offers_leave P past kept s [] all each = record { held = refl; accepted = refl; few = omega arith; each = all }
offers_leave P past kept s (c ∷ cs) all each =
    let next = offered_one past kept s c in
    let one : Leaves P (length s.pool + 1) s next = one_leaves P (is_known past c) (differs kept c) (differs s.pool c) (is_pooled s.pool c) s c all each.0 in
    let more = offers_leave P past kept next cs one.each each.1 in
    record { held = more.held ∙ one.held; accepted = more.accepted ∙ one.accepted; few = omega (arith, one.few, more.few); each = more.each }

-- ---- turns

fewer_or_same : (p : Change → Bool) (xs : List Change) → length (filter p xs) ≤ length xs
fewer_or_same p [] = omega arith
fewer_or_same p (x ∷ xs) = let l = fewer_or_same p xs in elim (p x) as (λ b. length (cond b (x ∷ filter p xs) (filter p xs)) ≤ suc (length xs)) [ true ↦ omega arith | false ↦ omega arith ]

-- it is taken out
abbrev Fewer : List Change → Change → Type 0
Fewer pool c = length (without c pool) < length pool

behind_one : (c d : Change) (pool : List Change) → Fewer pool d → Fewer (c ∷ pool) d
behind_one c d pool l = elim (has_name (name_of d) c) as (λ b. length (cond (not b) (c ∷ without d pool) (without d pool)) < suc (length pool)) [ true ↦ omega arith | false ↦ omega arith ]

each_fewer : (pool : List Change) → AllByRecursion (Fewer pool) pool
each_fewer [] = tt
each_fewer (c ∷ pool) =
    let own = own_name c in
    let l = fewer_or_same (λ d. not (has_name (name_of c) d)) pool in
    (rw own (omega arith), all_more (Fewer pool) (Fewer (c ∷ pool)) (λ d k. behind_one c d pool k) pool (each_fewer pool))

-- the least ready change is ready, and is one of them
pub record IsLeast (P : Change → Type 0) (n : ℕ) (past : Held) (pool : List Change) (c : Change) : Type 0 where
  pub each : P c
  pub ready : is_ready n past c ≡ true
  pub fewer : length (without c pool) < length pool

pub least_one : (P : Change → Type 0) (n : ℕ) (past : Held) (pool : List Change) (c : Change) → AllByRecursion P pool → least_ready n past pool ≡ Some c → IsLeast P n past pool c
least_one P n past pool c all e =
    let ready = is_ready n past in
    let Q : Change → Type 0 = λ d. P d × ((ready d ≡ true) × Fewer pool d) in
    let each = all_both P (λ d. (ready d ≡ true) × Fewer pool d) (filter ready pool) (all_kept P ready pool all) (all_both (λ d. ready d ≡ true) (Fewer pool) (filter ready pool) (all_pass ready pool) (all_kept (Fewer pool) ready pool (each_fewer pool))) in
    let is : Q c = subst (λ o. IfSome o Q) e (least_is Q (filter ready pool) each) in
    record { each = is.0; ready = is.1.0; fewer = is.1.1 }

-- Settling from s on has come so far, these were ready and were judged, and there are turns enough left.
pub record Goes (n turns : ℕ) (s : Settling) (h sorted : List Change) (r : Report) (read : List Change) : Type 0 where
  pub left : ℕ
  pub now : Settling
  pub far : IsSoFar h sorted r now
  pub enough : length now.pool ≤ left
  pub same : all_judged turns n (reading n) s ≡ all_judged left n (reading n) now
  pub reads : ready_in turns n (reading n) s ≡ read ++ ready_in left n (reading n) now

pub goes : (n turns : ℕ) (s : Settling) (h sorted : List Change) (r : Report) → IsSoFar h sorted r s → length s.pool ≤ turns → Goes n turns s h sorted r []
goes n turns s h sorted r far enough = record { left = turns; now = s; far = far; enough = enough; same = refl; reads = refl }

nothing_left : (xs : List Change) (c : Change) → Fewer xs c → length xs ≤ 0 → ⊥
nothing_left xs c l k = omega arith

pub turn : (n turns : ℕ) (s : Settling) (h sorted : List Change) (r : Report) (read : List Change) (c : Change) (h' : List Change) (r' : Report) → Goes n turns s h sorted r read → least_ready n (reading n h) sorted ≡ Some c
    → ((pool : List Change) → judged (so_far h pool r) c (fits n (reading n h) c) ≡ so_far h' (without c pool) r') → Goes n turns s h' (without c sorted) r' (read ++ c ∷ [])
turn n turns s h sorted r read c h' r' g e j =
    let u = g.now in
    let law = any_order sorted u.pool g.far.pool in
    let held : u.held ≡ h = ap (λ (t : Settling). t.held) g.far.is in
    let least : least_ready n (reading n u.held) u.pool ≡ Some c = ap (λ l. least_ready n (reading n l) u.pool) held ∙ law.ready n (reading n h) ∙ e in
    let less = (least_one (λ d. Unit {0}) n (reading n u.held) u.pool c (nothing_said u.pool) least).fewer in
    let m = fits n (reading n h) c in
    let next : next_judged n (reading n) u ≡ judged u c m = ap (judged_next n (reading n u.held) u) least ∙ ap (λ l. judged u c (fits n (reading n l) c)) held in
    elim (g.left) as (λ k. length u.pool ≤ k → all_judged turns n (reading n) s ≡ all_judged k n (reading n) u → ready_in turns n (reading n) s ≡ read ++ ready_in k n (reading n) u
    → Goes n turns s h' (without c sorted) r' (read ++ c ∷ [])) [
      | zero ↦ λ l _ _. absurd (nothing_left u.pool c less l)
      | suc k ↦ λ l same reads. record {
        left = k;
        now = judged u c m;
        far = by_pool h' (without c sorted) (without c u.pool) r' (judged u c m) (ap (λ t. judged t c m) g.far.is ∙ j u.pool) (law.taken (Some c));
        enough = subst (λ (p : List Change). length p ≤ k) (sym (judged_pool u c m)) (omega arith);
        same = same ∙ ap (all_judged k n (reading n)) next;
        reads = reads ∙ (λ i. read ++ cons_option (least i) (ready_in k n (reading n) (next i))) ∙ sym (append_assoc read (c ∷ []) (ready_in k n (reading n) (judged u c m)));
      }
    ] g.enough g.same g.reads
  where
    nothing_said : (xs : List Change) → AllByRecursion (λ d. Unit {0}) xs
    nothing_said [] = tt
    nothing_said (x ∷ xs) = (tt, nothing_said xs)

-- the next one is among those that are ready
pub read_next : (n turns : ℕ) (s : Settling) (h sorted : List Change) (r : Report) (read : List Change) (c : Change) → Goes n turns s h sorted r read → least_ready n (reading n h) sorted ≡ Some c
    → operations_in read + length c.operations ≤ operations_in (ready_in turns n (reading n) s)
read_next n turns s h sorted r read c g e =
    let u = g.now in
    let held : u.held ≡ h = ap (λ (t : Settling). t.held) g.far.is in
    let least : least_ready n (reading n u.held) u.pool ≡ Some c = ap (λ l. least_ready n (reading n l) u.pool) held ∙ (any_order sorted u.pool g.far.pool).ready n (reading n h) ∙ e in
    let less = (least_one (λ d. Unit {0}) n (reading n u.held) u.pool c (nothing_said u.pool) least).fewer in
    elim (g.left) as (λ k. length u.pool ≤ k → ready_in turns n (reading n) s ≡ read ++ ready_in k n (reading n) u → operations_in read + length c.operations ≤ operations_in (ready_in turns n (reading n) s)) [
      | zero ↦ λ l _. absurd (nothing_left u.pool c less l)
      | suc k ↦ λ l reads.
          let rest = ready_in k n (reading n) (next_judged n (reading n) u) in
          let all = ap operations_in (reads ∙ ap (λ o. read ++ cons_option o rest) least) in
          let parts = read_then read c rest in
          omega arith
    ] g.enough g.reads
  where
    nothing_said : (xs : List Change) → AllByRecursion (λ d. Unit {0}) xs
    nothing_said [] = tt
    nothing_said (x ∷ xs) = (tt, nothing_said xs)

stuck : (turns n : ℕ) (s : Settling) → least_ready n (reading n s.held) s.pool ≡ None → all_judged turns n (reading n) s ≡ s
stuck zero n s e = refl
stuck (suc turns) n s e =
    let same : next_judged n (reading n) s ≡ s = ap (judged_next n (reading n s.held) s) e in ap (all_judged turns n (reading n)) same ∙ stuck turns n s e

pub no_turn : (n turns : ℕ) (s : Settling) (h sorted : List Change) (r : Report) (read : List Change) → Goes n turns s h sorted r read → least_ready n (reading n h) sorted ≡ None → IsSoFar h sorted r (all_judged turns n (reading n) s)
no_turn n turns s h sorted r read g e =
    let u = g.now in
    let held : u.held ≡ h = ap (λ (t : Settling). t.held) g.far.is in
    let least : least_ready n (reading n u.held) u.pool ≡ None = ap (λ l. least_ready n (reading n l) u.pool) held ∙ (any_order sorted u.pool g.far.pool).ready n (reading n h) ∙ e in
    subst (IsSoFar h sorted r) (sym (g.same ∙ stuck g.left n u least)) g.far

-- ---- the rest

pub few_wait : (sorted waiting : List Change) (full : List (ℕ × ℕ)) → IsRest sorted waiting full → length waiting ≤ 4096
few_wait sorted waiting full is =
    let none : Report = record { accepted = 0; known = 0; same = 0; forked = []; refused = []; full = [] } in
    let left = in_order name_before sorted in
    let e : take most_waiting left ≡ waiting = (is (so_far [] sorted none) refl).0 in
    subst (λ (xs : List Change). length xs ≤ 4096) e (omega (arith, length-take most_waiting left))

pub rests : (h sorted : List Change) (r : Report) (s : Settling) (waiting : List Change) (full : List (ℕ × ℕ)) → IsSoFar h sorted r s → IsRest sorted waiting full → rest s ≡ so_far h waiting (record r { full = names_of full })
rests h sorted r s waiting full far is =
    let k = (any_order sorted s.pool far.pool).rest waiting full is s refl in
    let pool = k.0 in
    let names = k.1 in
    let held : s.held ≡ h = ap (λ (t : Settling). t.held) far.is in
    let report : s.report ≡ r = ap (λ (t : Settling). t.report) far.is in
    λ i. record { held = held i; pool = pool i; report = record (report i) { full = names i } }

-- ---- change by change

pub one_at : (P : Change → Type 0) (xs : List Change) (i : ℕ) (x : Change) → AllByRecursion P xs → slice_get xs i ≡ Some x → P x
one_at P [] i x all e = absurd cc
one_at P (y ∷ xs) zero x all e = subst P (same_Some y x e) all.0
one_at P (y ∷ xs) (suc i) x all e = one_at P xs i x all.1 e

pub offers_more : (past : Held) (kept h sorted : List Change) (r : Report) (s : Settling) (xs : List Change) (i : ℕ) (c d : Change) (o : Offered) (sorted' : List Change) (r' : Report)
    → IsSoFar h sorted r (fold (offered_one past kept) s (take i xs)) → slice_get xs i ≡ Some c → d ≡ c → IsOffered past kept sorted d o → sorted' ≡ pool_after sorted d o → r' ≡ told r c o
    → IsSoFar h sorted' r' (fold (offered_one past kept) s (take (i + 1) xs))
offers_more past kept h sorted r s xs i c d o sorted' r' far at same is pool report =
    let f = offered_one past kept in
    let step = offered_more past kept h sorted r (fold f s (take i xs)) c o far (subst (λ x. IsOffered past kept sorted x o) same is) in
    let next : fold f s (take (i + 1) xs) ≡ f (fold f s (take i xs)) c = fold_more f s xs i c (slice_get_within xs i c at) ∙ ap (f (fold f s (take i xs))) (get_or_from_slice_get xs i c c at) in
    subst (IsSoFar h sorted' r') (sym next)
    (subst (λ p. IsSoFar h p r' (f (fold f s (take i xs)) c)) (sym (pool ∙ ap (λ x. pool_after sorted x o) same))
    (subst (λ q. IsSoFar h (pool_after sorted c o) q (f (fold f s (take i xs)) c)) (sym report) step))

-- ---- the first two steps

abbrev pub pooled : ℕ → List Change → List Change → List Change → Settling
pooled n kept waiting offered = fold (offered_one (reading n kept) kept) (begun (reading n kept) kept waiting) offered

pub record Pooled (n : ℕ) (kept waiting offered sorted : List Change) (r : Report) : Type 0 where
  pub far : IsSoFar kept sorted r (pooled n kept waiting offered)
  pub each : AllByRecursion (IsChange n) sorted
  pub few : length sorted ≤ length waiting + length offered
  pub accepted : r.accepted ≡ 0

pub are_pooled : (n : ℕ) (kept waiting offered : List Change) (counts : List ℕ) (first sorted : List Change) (known : ℕ) (r r' : Report) → counts ≡ counts_of n (reading n kept)
    → AllByRecursion (IsChange n) waiting → AllByRecursion (IsChange n) offered → EachAfter IsNextName [] waiting
    → first ≡ (begun (counted counts) [] waiting).pool → known ≡ (begun (counted counts) [] waiting).report.known → r ≡ record { accepted = 0; known = known; same = 0; forked = []; refused = []; full = [] }
    → ((h : List Change) (s : Settling) → IsSoFar h first r s → IsSoFar h sorted r' (fold (offered_one (counted counts) kept) s offered)) → Pooled n kept waiting offered sorted r'
are_pooled n kept waiting offered counts first sorted known r r' e each more next left count is offers =
    let past = reading n kept in
    let start = begun past kept waiting in
    let same = begun_by_counts n past counts e kept waiting each in
    let far = begins past kept waiting first known r next (left ∙ sym (ap (λ (s : Settling). s.pool) same)) (count ∙ sym (ap (λ (s : Settling). s.report.known) same)) is in
    let so_far : IsSoFar kept sorted r' (pooled n kept waiting offered) = subst (IsSoFar kept sorted r') (sym (offers_by_counts n past counts e kept start offered more)) (offers kept start far) in
    let leaves = offers_leave (IsChange n) past kept start offered (all_kept (IsChange n) (λ c. not (is_known past c)) waiting each) more in
    let fewer = fewer_or_same (λ c. not (is_known past c)) waiting in
    record {
      far = so_far;
      each = sorted_each (IsChange n) sorted (pooled n kept waiting offered).pool so_far.pool leaves.each;
      few = omega (arith, sorted_fewer sorted (pooled n kept waiting offered).pool so_far.pool, leaves.few);
      accepted = sym (ap (λ (s : Settling). s.report.accepted) so_far.is) ∙ leaves.accepted;
    }

pub few_begun : (past : Held) (waiting : List Change) (known : ℕ) → known ≡ (begun past [] waiting).report.known → known ≤ length waiting
few_begun past waiting known e = let l = few_known past [] waiting in omega arith
