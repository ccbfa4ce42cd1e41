-- A bundle of kept changes of a file keeps the rules of files.
use Rattle.std.proofs.Common.{◌≡◌, ◌≤◌, Bool, true, false, cond, List, [], ◌∷◌, ◌++◌, length, refl, sym, subst, arith}
use Rattle.std.specs.Prelude.{Option, Some, None, IsTrue, MatchOption, filter}
use Rattle.std.specs.List.{AllByRecursion, last_or}
use Rattle.std.specs.List.Sorted.{IsStrictlySortedBy}
use Rattle.std.proofs.lemmas.List.Sums.{length-filter, count_by-le-length}
use Rattle.op_ids.proofs.OrderLaws.{stamp_lt_trans}
use Rattle.model.specs.Change.{Change, EachAfter, IsChange, change_stamp, is_before}
use Rattle.model.specs.File.{File, bundle, IsFile, IsLater, IsNextBehind}
use Rattle.model_laws.proofs.ListLaws.{all_more}
use Rattle.replica.proofs.CountLaws.{last_pushed}

-- what holds of each holds of each that passes
all_passing : {A : Type 0} (P : A → Type 0) (p : A → Bool) (xs : List A) → AllByRecursion P xs → AllByRecursion P (filter p xs)
all_passing P p [] h = tt
all_passing P p (x ∷ xs) h = elim (p x) as (λ b. AllByRecursion P (cond b (x ∷ filter p xs) (filter p xs))) [ true ↦ (h.0, all_passing P p xs h.1) | false ↦ all_passing P p xs h.1 ]

pub passing_few : {A : Type 0} (p : A → Bool) (xs : List A) → length (filter p xs) ≤ length xs
passing_few p xs = omega (arith, length-filter p xs, count_by-le-length p xs)

-- ---- order

-- each comes before all behind it
abbrev Rise : List Change → Type 0
Rise [] = Unit {0}
Rise (c ∷ cs) = AllByRecursion (λ d. is_before c d ≡ true) cs × Rise cs

rise_passing : (p : Change → Bool) (cs : List Change) → Rise cs → Rise (filter p cs)
rise_passing p [] r = tt
rise_passing p (c ∷ cs) r = elim (p c) as (λ b. Rise (cond b (c ∷ filter p cs) (filter p cs))) [ true ↦ (all_passing (λ d. is_before c d ≡ true) p cs r.0, rise_passing p cs r.1) | false ↦ rise_passing p cs r.1 ]

rise_behind : (before cs : List Change) (d : Change) → last_or None before ≡ Some d → EachAfter IsLater before cs → AllByRecursion (λ c. is_before d c ≡ true) cs × Rise cs
rise_behind before [] d last each = (tt, tt)
rise_behind before (c ∷ cs) d last each =
    let first : is_before d c ≡ true = subst (λ (o : Option Change). MatchOption o (Unit {0}) (λ e. IsTrue (is_before e c))) last each.0 in
    let rest = rise_behind (before ++ c ∷ []) cs c (last_pushed None before c) each.1 in
    ((first, all_more (λ e. is_before c e ≡ true) (λ e. is_before d e ≡ true) (λ e later. stamp_lt_trans (change_stamp d) (change_stamp c) (change_stamp e) first later) cs rest.0), rest)

rise_from : (cs : List Change) → EachAfter IsLater [] cs → Rise cs
rise_from [] each = tt
rise_from (c ∷ cs) each = rise_behind (c ∷ []) cs c refl each.1

-- a change, if there is one, comes before each of these
abbrev IsBeforeAll : Option Change → List Change → Type 0
IsBeforeAll o cs = MatchOption o (Unit {0}) (λ d. AllByRecursion (λ c. is_before d c ≡ true) cs)

before_first : (o : Option Change) (c : Change) (cs : List Change) → IsBeforeAll o (c ∷ cs) → MatchOption o (Unit {0}) (λ d. IsTrue (is_before d c))
before_first None c cs h = tt
before_first (Some d) c cs h = h.0

later_each : (before cs : List Change) → IsBeforeAll (last_or None before) cs → Rise cs → EachAfter IsLater before cs
later_each before [] last r = tt
later_each before (c ∷ cs) last r = (before_first (last_or None before) c cs last, later_each (before ++ c ∷ []) cs (subst (λ (o : Option Change). IsBeforeAll o cs) (sym (last_pushed None before c)) r.0) r.1)

unnumbered : (before cs : List Change) → EachAfter (IsNextBehind None) before cs
unnumbered before [] = tt
unnumbered before (c ∷ cs) = (tt, unnumbered (before ++ c ∷ []) cs)

-- ---- the file

-- the bundle of the kept changes that pass
abbrev pub bundle_of : (Change → Bool) → File → File
bundle_of p f = record f { kind = bundle; mine = []; base = None; kept = filter p f.kept; waiting = [] }

pub bundle_is_file : (p : Change → Bool) (f : File) → IsFile f → IsFile (bundle_of p f)
unfolding IsStrictlySortedBy
bundle_is_file p f is = record {
  header = record {
    version = is.header.version;
    document_bytes = is.header.document_bytes;
    document_length = is.header.document_length;
    members_some = is.header.members_some;
    members_most = is.header.members_most;
    mine_rises = tt;
    mine_below = tt;
    kept_most = (let few = passing_few p f.kept in omega (arith, is.header.kept_most));
    waiting_most = omega arith;
    others_hold_none = λ other. (refl, refl);
  };
  base = refl;
  kept = all_passing (IsChange f.members) p f.kept is.kept;
  waiting = tt;
  kept_in_order = later_each [] (filter p f.kept) tt (rise_passing p f.kept (rise_from f.kept is.kept_in_order));
  waiting_in_order = tt;
  numbered = unnumbered [] (filter p f.kept);
  reached = tt;
}
