-- The changes that members make are changes in form.
use Rattle.std.proofs.Common.{◌≡◌, ℕ, suc, ◌+◌, ◌<◌, ◌≤◌, ◌^◌, ◌&&◌, true, false, cond, ltb, List, [], ◌∷◌, ◌++◌, length, refl, ap, subst, ◌∙◌, arith, inl, inr}
use Rattle.std.specs.Prelude.{Some, None, Ok, Err, slice_get}
use Rattle.std.specs.List.{AllByRecursion}
use Rattle.std.proofs.lemmas.Bool.{cases_eq, ltb-true}
use Rattle.std.proofs.lemmas.Option.{slice_get-get_or}
use Rattle.model.specs.Base.{Base, members, count_of, vec_of}
use Rattle.model.specs.Change.{Change, IsChange}
use Rattle.model.specs.Command.{clock_full, clocked, with_first, one_made, made_after, made_each, made_edit, planned}
use Rattle.model.specs.Edit.{Edit, edit_fault, faults, plan}
use Rattle.model.specs.Held.{Held, held}
use Rattle.model.specs.Ledger.{Sound, add, greatest_time, made}
use Rattle.model.specs.Operation.{Operation}
use Rattle.model.specs.State.{replay}
use Rattle.model_laws.proofs.ChangeLaws.{get_or-vec_of, length-vec_of, members_below}
use Rattle.model_laws.proofs.ListLaws.{all_map, all_more, nil_from_none}
use Rattle.model_laws.proofs.Tables.{both_true}
use Rattle.arrival_laws.proofs.SoundLaws.{count_one, is_none, is_one}
use Rattle.ledger_laws.proofs.MadeLaws.{AreHeld, Keeps, clocked_is, given, keeps_added, made_among, made_joins, made_last, same_Ok}
use Rattle.keeping_laws.specs.Forms.{IsEdit}
use Rattle.keeping_laws.proofs.BaseLaws.{IsOn}
use Rattle.keeping_laws.proofs.EditForms.{ArePlanned, plan_is}

-- no member has more changes than can be numbered
abbrev pub CountsFit : ℕ → List Change → Type 0
CountsFit n h = (k : ℕ) → k < n → count_of h k < 2 ^ 32

-- what the clock lets pass
record Clocked (c : Change) : Type 0 where
  time : c.time < 2 ^ 48
  number : c.number < 2 ^ 32

in_time : (n : ℕ) (p : Held) (m : ℕ) (os : List Operation) (c : Change) → clocked n p m os ≡ Ok c → Clocked (made n p m os)
in_time n p m os c e =
    let test = ltb (made n p m os).time (2 ^ 48) && ltb (made n p m os).number (2 ^ 32) in
    elim test as (λ b. test ≡ b → cond b (given (made n p m os)) (Err (clock_full (greatest_time n p) m (p.row m).count)) ≡ Ok c → Clocked (made n p m os)) [
      | true ↦ λ t _. (let b = both_true (ltb (made n p m os).time (2 ^ 48)) (ltb (made n p m os).number (2 ^ 32)) t in record { time = ltb-true _ _ b.0; number = ltb-true _ _ b.1 })
      | false ↦ λ _ k. absurd cc
    ] refl e

made_is : (n : ℕ) (h : List Change) (m : ℕ) (os : List Operation) → m < n → CountsFit n h → ArePlanned n os → Clocked (made n (held n h) m os) → IsChange n (made n (held n h) m os)
made_is n h m os below fit planned clock =
    let own : slice_get (vec_of n h) m ≡ Some (count_of h m) = slice_get-get_or (vec_of n h) m 0 (omega (arith, length-vec_of n h)) ∙ ap Some (get_or-vec_of n h m below) in record {
      member = below;
      number_some = omega arith;
      number_most = clock.number;
      time_some = omega arith;
      time_most = clock.time;
      causes_each = length-vec_of n h;
      causes_most = all_map (λ count. count < 2 ^ 32) (count_of h) (members n) (all_more (λ k. k < n) (λ k. count_of h k < 2 ^ 32) (λ k l. fit k l) (members n) (members_below n));
      causes_own = (count_of h m, own, refl);
      body_most = planned.body;
      operations = planned.each;
      width_most = planned.width;
    }

nothing_planned : (n : ℕ) → ArePlanned n []
nothing_planned n = record { each = tt; width = omega arith; body = omega arith }

-- the counts with one more change
counts_fit : (n : ℕ) (h : List Change) (m : ℕ) (os : List Operation) → Sound n h → m < n → CountsFit n h → Clocked (made n (held n h) m os) → CountsFit n (add h (made n (held n h) m os))
counts_fit n h m os sound below fit clock k lt =
    let c = made n (held n h) m os in
    let count : count_of (add h c) k ≡ count_of (h ++ c ∷ []) k = ap (λ l. count_of l k) (made_last n h m sound below os) in
    let one = count_one h c k in
    let number : count_of h m + 1 < 2 ^ 32 = clock.number in
    elim (cases_eq m k) as (λ _. count_of (add h c) k < 2 ^ 32) [
      | inl e ↦ (let s = is_one c k e in let was : count_of h m ≡ count_of h k = ap (count_of h) e in omega arith)
      | inr ne ↦ (let s = is_none c k ne in let f = fit k lt in omega arith)
    ]

-- changes in form, no more than there are members that make them
pub record AreMadeOf (n most : ℕ) (cs : List Change) : Type 0 where
  pub each : AllByRecursion (IsChange n) cs
  pub few : length cs ≤ most

pub acks_are : (n T : ℕ) (base : Base) (mine ms : List ℕ) (h cs : List Change) → AreHeld n mine ms → Keeps n T base h → CountsFit n h → made_each n (held n) ms h ≡ Ok cs → AreMadeOf n (length ms) cs
acks_are n T base mine [] h cs held_by k fit e = subst (AreMadeOf n 0) (same_Ok [] cs e) (record { each = tt; few = omega arith })
acks_are n T base mine (m ∷ ms) h cs held_by k fit e =
    elim (clocked n (held n h) m []) as (λ r. clocked n (held n h) m [] ≡ r → made_after n (held n) h ms (made_each n (held n) ms) r ≡ Ok cs → AreMadeOf n (suc (length ms)) cs) [
      | Err x ↦ λ _ e. absurd cc
      | Ok c ↦ λ is e.
          let c_is = clocked_is n (held n h) m [] c is in
          let clock = in_time n (held n h) m [] c is in
          elim (made_each n (held n) ms (add h c)) as (λ r. made_each n (held n) ms (add h c) ≡ r → with_first c r ≡ Ok cs → AreMadeOf n (suc (length ms)) cs) [
            | Err x ↦ λ _ e. absurd cc
            | Ok more ↦ λ s e.
                let c' = made n (held n h) m [] in
                let below = held_by.0.0 in
                let keeps = keeps_added n T base h c' k (made_among n h m k.sound below []) (made_joins n h m k.sound below [] tt) in
                let s' : made_each n (held n) ms (add h c') ≡ Ok more = ap (λ x. made_each n (held n) ms (add h x)) c_is ∙ s in
                let rest = acks_are n T base mine ms (add h c') more held_by.1 keeps (counts_fit n h m [] k.sound below fit clock) s' in
                let few = rest.few in
                let all : AreMadeOf n (suc (length ms)) (c' ∷ more) = record { each = (made_is n h m [] below fit (nothing_planned n) clock, rest.each); few = omega arith } in
                subst (AreMadeOf n (suc (length ms))) (ap (λ x. x ∷ more) c_is ∙ same_Ok (c ∷ more) cs e) all
          ] refl e
    ] refl e

pub edits_are : (n H : ℕ) (mine ms : List ℕ) (h cs : List Change) (e : Edit) → AreHeld n mine ms → CountsFit n h → 1 ≤ n → IsOn n H (replay h) → IsEdit e → made_edit n (held n h) ms e ≡ Ok cs → AreMadeOf n 1 cs
edits_are n H mine [] h cs e held_by fit some on form is = absurd cc
edits_are n H mine (m ∷ ms) h cs e held_by fit some on form is =
    elim (edit_fault (replay h) e) as (λ o. edit_fault (replay h) e ≡ o → planned n (held n h) m e o ≡ Ok cs → AreMadeOf n 1 cs) [
      | Some w ↦ λ _ is. absurd cc
      | None ↦ λ none is.
          let os = plan (replay h) e in
          elim (clocked n (held n h) m os) as (λ r. clocked n (held n h) m os ≡ r → one_made r ≡ Ok cs → AreMadeOf n 1 cs) [
            | Err x ↦ λ _ is. absurd cc
            | Ok c ↦ λ s is.
                let are = plan_is n H (replay h) some on e form (nil_from_none (faults (replay h) e) none) in
                let one : AreMadeOf n 1 (made n (held n h) m os ∷ []) = record { each = (made_is n h m os held_by.0.0 fit are (in_time n (held n h) m os c s), tt); few = omega arith } in
                subst (AreMadeOf n 1) (ap (λ x. x ∷ []) (clocked_is n (held n h) m os c s) ∙ same_Ok (c ∷ []) cs is) one
          ] refl is
    ] refl is
