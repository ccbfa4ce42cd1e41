-- The kept changes of a file with the base of no changes: where none is unfit they are a ledger.
use Rattle.std.proofs.Common.{◌≡◌, ◌≢◌, ℕ, ◌+◌, ◌<◌, ◌≤◌, true, ltb, List, [], ◌∷◌, ◌++◌, refl, sym, ap, subst, ◌∙◌, arith, inl, inr}
use Rattle.std.specs.Prelude.{Option, Some, None, IsTrue, MatchOption, filter_map, slice_get, slice_index, unwrap_or}
use Rattle.std.specs.List.{AllByRecursion, last_or}
use Rattle.std.proofs.lemmas.Bool.{cases_lt, lt-ltb}
use Rattle.std.proofs.lemmas.List.{append-nil}
use Rattle.model.specs.Base.{Base, MemberRow, base_of, count_of, members}
use Rattle.model.specs.Change.{Change, EachAfter, IsChange, is_before}
use Rattle.model.specs.File.{File, IsFile, IsLater, IsNextBehind, Kind, bundle, member_file, snapshot}
use Rattle.model.specs.Held.{Held, Misfit, Refused, first_unfit, held_behind, lacks_cause, misfits, missing_cause, unfit, unless_unfit}
use Rattle.model.specs.Ledger.{IsAmong, Joins, Sound}
use Rattle.model.specs.Reading.{base_in, unfit_in}
use Rattle.model_laws.proofs.ChangeLaws.{EachAfter-front, EachAfter-push, members_below}
use Rattle.model_laws.proofs.ListLaws.{all_both, all_front, all_more, nil_from_append, nil_from_none}
use Rattle.arrival_laws.specs.Reading.{ReadAlike}
use Rattle.arrival_laws.proofs.AddLaws.{InOrder, all_later, last_or-append, to_order}
use Rattle.arrival_laws.proofs.ReadLaws.{Halves, fits_agree, ready_agrees, rows_agree, state_agrees}
use Rattle.arrival_laws.proofs.SoundLaws.{ready_to}
use Rattle.arrival_laws.proofs.StableLaws.{given_none, nil_second}
use Rattle.replica.specs.Scanning.{HasEmptyBase}
use Rattle.replica.specs.Empty as empty

-- A file that keeps the rules of files and has the base of no changes.
pub record IsUntrimmed (f : File) : Type 0 where
  pub is_file : IsFile f
  pub base : f.base ≡ Some (base_of f.members [] 0)

based : (f : File) (k : Kind) → f.kind ≡ k → k ≢ bundle → HasEmptyBase f → f.base ≡ Some (base_of f.members [] 0)
based f member_file is other base = base ∙ ap (λ (k : Kind). empty.base_in k f.members) is
based f bundle is other base = absurd (other refl)
based f snapshot is other base = base ∙ ap (λ (k : Kind). empty.base_in k f.members) is

pub untrimmed_from : (f : File) → f.kind ≢ bundle → IsFile f → HasEmptyBase f → IsUntrimmed f
untrimmed_from f kind is base = record { is_file = is; base = based f f.kind refl kind base }

pub base_is : (f : File) → IsUntrimmed f → base_in f ≡ base_of f.members [] 0
base_is f is = ap (λ (o : Option Base). unwrap_or o (base_of f.members [] 0)) is.base

pub among_one : (n : ℕ) (c : Change) → IsChange n c → IsAmong n c
among_one n c is = record { member = is.member; causes = is.causes_each }

-- ---- order

-- what comes behind a change is later than it
all_after : (before cs : List Change) (d : Change) → last_or None before ≡ Some d → EachAfter IsLater before cs → AllByRecursion (λ c. is_before d c ≡ true) cs
all_after before [] d last each = tt
all_after before (c ∷ cs) d last each =
    let first : is_before d c ≡ true = subst (λ (o : Option Change). MatchOption o (Unit {0}) (λ e. IsTrue (is_before e c))) last each.0 in
    (first, all_later d c cs first (all_after (before ++ c ∷ []) cs c (last_or-append None before (c ∷ [])) each.1))

-- Changes of which each is later than the one before it are in order.
pub kept_rise : (before cs : List Change) → EachAfter IsLater before cs → InOrder cs
kept_rise before [] each = tt
kept_rise before (c ∷ cs) each = (all_after (before ++ c ∷ []) cs c (last_or-append None before (c ∷ [])) each.1, kept_rise (before ++ c ∷ []) cs each.1)

-- ---- readings

-- A ledger and what is kept of it behind the base of no changes tell the same.
pub ledgers_read_alike : (n : ℕ) (h : List Change) → EachAfter (Joins n) [] h → ReadAlike n h (base_of n [] 0) h
ledgers_read_alike n h each =
    let halves : Halves n [] h 0 = record { each = each; by_then = tt } in record {
      rows = rows_agree n [] h 0 halves;
      state = state_agrees n [] h 0 halves;
      ready = λ c among. ready_agrees n [] h 0 halves c among.member;
      fitting = λ c among. fits_agree n [] h 0 halves c among.member (omega arith);
    }

-- ---- a change that isn't unfit

not_missing : (past : Held) (c : Change) (k : ℕ) → missing_cause past c k ≡ None → slice_index c.causes k ≤ (past.row k).count
not_missing past c k e =
    elim (cases_lt (past.row k).count (slice_index c.causes k)) as (λ _. slice_index c.causes k ≤ (past.row k).count) [
      | inl lt ↦ (let less : ltb (past.row k).count (slice_index c.causes k) ≡ true = lt-ltb _ _ lt in let bad : Some (lacks_cause k (slice_index c.causes k) (past.row k).count) ≡ None = rw less at e in absurd cc)
      | inr le ↦ le
    ]

-- The next of its member joins a ledger that it isn't unfit behind.
pub joins_if_fit : (n : ℕ) (before : List Change) (c : Change) → EachAfter (Joins n) [] before → IsChange n c → IsNextBehind (Some (base_of n [] 0)) before c → unfit n (held_behind (base_of n [] 0) before) c ≡ None → Joins n before c
joins_if_fit n before c each is next fit =
    let past = held_behind (base_of n [] 0) before in
    let alike = ledgers_read_alike n before each in
    let missing = filter_map (missing_cause past c) (members n) in
    let none : missing ++ misfits n past c ≡ [] = nil_from_none (missing ++ misfits n past c) fit in
    let causes = all_both (λ k. missing_cause past c k ≡ None) (λ k. k < n) (members n) (given_none (missing_cause past c) (members n) (nil_from_append missing (misfits n past c) none)) (members_below n) in
    record {
      ready = ready_to n before c (record {
        is_next = next.0 ∙ ap (λ (r : MemberRow). r.count + 1) (alike.rows c.member is.member);
        causes = all_more (λ k. (missing_cause past c k ≡ None) × (k < n)) (λ k. slice_index c.causes k ≤ count_of before k)
            (λ k there. subst (λ (r : MemberRow). slice_index c.causes k ≤ r.count) (alike.rows k there.1) (not_missing past c k there.0)) (members n) causes;
      });
      fitting = alike.fitting c (among_one n c is) ∙ ap (λ (ms : List Misfit). slice_get ms 0) (nil_second missing (misfits n past c) none);
    }

unless_none : (c : Change) (o : Option Misfit) (later : Option Refused) → unless_unfit c o later ≡ None → (o ≡ None) × (later ≡ None)
unless_none c None later e = (refl, e)
unless_none c (Some m) later e = absurd cc

-- Changes of which none is unfit join one another.
joins_each : (n : ℕ) (before cs : List Change) → EachAfter (Joins n) [] before → AllByRecursion (IsChange n) cs → EachAfter (IsNextBehind (Some (base_of n [] 0))) before cs → first_unfit n (base_of n [] 0) before cs ≡ None → EachAfter (Joins n) before cs
joins_each n before [] each are next none = tt
joins_each n before (c ∷ cs) each are next none =
    let b = base_of n [] 0 in
    let fit = unless_none c (unfit n (held_behind b before) c) (first_unfit n b (before ++ c ∷ []) cs) none in
    let joins = joins_if_fit n before c each are.0 next.0 fit.0 in
    (joins, joins_each n (before ++ c ∷ []) cs (EachAfter-push (Joins n) [] before c each joins) are.1 next.1 fit.1)

-- ---- the kept changes of a file

pub each_next : (f : File) → IsUntrimmed f → EachAfter (IsNextBehind (Some (base_of f.members [] 0))) [] f.kept
each_next f is = subst (λ (b : Option Base). EachAfter (IsNextBehind b) [] f.kept) is.base is.is_file.numbered

-- The first that is unfit is looked for behind the base of no changes.
pub unfit_is : (f : File) → IsUntrimmed f → unfit_in f ≡ first_unfit f.members (base_of f.members [] 0) [] f.kept
unfit_is f is = ap (λ (b : Base). first_unfit f.members b [] f.kept) (base_is f is)

-- Its first changes are a ledger where they join one another.
pub front_is_sound : (f : File) (front back : List Change) → IsUntrimmed f → f.kept ≡ front ++ back → EachAfter (Joins f.members) [] front → Sound f.members front
front_is_sound f front back is split each = record {
  in_order = to_order front (kept_rise [] front (EachAfter-front IsLater [] front back (subst (EachAfter IsLater []) split is.is_file.kept_in_order)));
  among = all_more (IsChange f.members) (IsAmong f.members) (among_one f.members) front (all_front (IsChange f.members) front back (subst (AllByRecursion (IsChange f.members)) split is.is_file.kept));
  each = each;
}

-- All of them are one where none is unfit.
pub kept_are_sound : (f : File) → IsUntrimmed f → unfit_in f ≡ None → Sound f.members f.kept
kept_are_sound f is fit =
    front_is_sound f f.kept [] is (sym (append-nil f.kept)) (joins_each f.members [] f.kept tt is.is_file.kept (each_next f is) (sym (unfit_is f is) ∙ fit))
