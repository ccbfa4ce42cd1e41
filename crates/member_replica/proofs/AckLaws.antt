-- Acknowledgements, one after the other.
use Rattle.std.proofs.Common.{◌≡◌, ℕ, ◌+◌, ◌^◌, ◌<◌, ◌≤◌, List, [], ◌∷◌, ◌++◌, length, drop, refl, sym, ap, subst, ◌∙◌, append_assoc, arith}
use Rattle.std.specs.Prelude.{Some, Result, Ok, Err, slice_get}
use Rattle.std.specs.List.{AllByRecursion}
use Rattle.std.proofs.lemmas.List.{append-nil, drop_all, drop_more, length-append}
use Rattle.std.proofs.lemmas.Option.{slice_get_within, get_or_from_slice_get}
use Rattle.model.specs.Base.{Base, base_of}
use Rattle.model.specs.Change.{Change, IsChange}
use Rattle.model.specs.Command.{Unmade, nobody, clocked, made_acks, made_after, made_each, with_first}
use Rattle.model.specs.File.{File}
use Rattle.model.specs.Held.{Held, held_behind}
use Rattle.model.specs.Ledger.{add}
use Rattle.model.specs.Reading.{base_in}
use Rattle.model.specs.Stands.{IsStored}
use Rattle.model_laws.proofs.ListLaws.{all_more}
use Rattle.arrival_laws.proofs.AddLaws.{InOrder}
use Rattle.replica.proofs.NumberLaws.{rising_short}
use Rattle.replica.proofs.PartLaws.{all_at}
use Rattle.member_replica.specs.Makings.{HasMore, IsMaking, clocked_by}
use Rattle.member_replica.specs.declared.made.Makings.{Makings}
use Rattle.member_replica.proofs.ClockLaws.{clocked_is, nothing_planned}
use Rattle.member_replica.proofs.MadeLaws.{making_more, stored_few, with_made_is}
use Rattle.member_replica.proofs.SoundLaws.{IsUntrimmed, base_is, kept_rise}

-- ---- changes, and what is made behind them

abbrev behind : List Change → Result (List Change) Unmade → Result (List Change) Unmade
behind [] more = more
behind (c ∷ cs) more = with_first c (behind cs more)

behind_one : (cs : List Change) (c : Change) (more : Result (List Change) Unmade) → behind cs (with_first c more) ≡ behind (cs ++ c ∷ []) more
behind_one [] c more = refl
behind_one (d ∷ cs) c more = ap (with_first d) (behind_one cs c more)

behind_none : (cs : List Change) → behind cs (Ok []) ≡ Ok cs
behind_none [] = refl
behind_none (c ∷ cs) = ap (with_first c) (behind_none cs)

behind_stops : (cs : List Change) (u : Unmade) → behind cs (Err u) ≡ Err u
behind_stops [] u = refl
behind_stops (c ∷ cs) u = ap (with_first c) (behind_stops cs u)

-- ---- member by member

-- what is held of n members with these changes
abbrev reading : ℕ → List Change → Held
reading n h = held_behind (base_of n [] 0) h

-- Of the first members, so many, the changes are made; what the others make comes behind them.
pub record Acknowledges (f : File) (i : ℕ) (m : Makings) : Type 0 where
  pub made : List Change
  pub making : IsMaking f made m
  pub each : length made ≡ i
  pub rest : made_each f.members (reading f.members) f.mine f.kept ≡ behind made (made_each f.members (reading f.members) (drop i f.mine) (f.kept ++ made))

pub acks_begin : (f : File) (m : Makings) → IsMaking f [] m → Acknowledges f 0 m
acks_begin f m making = record { made = []; making = making; each = refl; rest = ap (made_each f.members (reading f.members) f.mine) (sym (append-nil f.kept)) }

below : (n : ℕ) (cs : List Change) → AllByRecursion (IsChange n) cs → AllByRecursion (λ c. c.member < n) cs
below n cs are = all_more (IsChange n) (λ c. c.member < n) (λ c is. is.member) cs are

-- the next member makes its change first
next_made : (f : File) (i member : ℕ) (m : Makings) (so : Acknowledges f i m) → member < f.members → slice_get f.mine i ≡ Some member
    → made_each f.members (reading f.members) f.mine f.kept
    ≡ behind so.made (made_after f.members (reading f.members) (f.kept ++ so.made) (drop (i + 1) f.mine) (made_each f.members (reading f.members) (drop (i + 1) f.mine)) (clocked_by m.time m.counts member []))
next_made f i member m so lt at =
    let n = f.members in
    let h = f.kept ++ so.made in
    let ms = drop (i + 1) f.mine in
    let first : drop i f.mine ≡ member ∷ ms = drop_more f.mine i member (slice_get_within f.mine i member at) ∙ ap (λ k. k ∷ ms) (get_or_from_slice_get f.mine i member member at) in
    let clock : clocked n (reading n h) member [] ≡ clocked_by m.time m.counts member [] =
    clocked_is n h member [] (kept_rise [] h so.making.is_file.kept_in_order) (below n h so.making.is_file.kept) lt ∙ (λ i. clocked_by (sym so.making.time i) (sym so.making.counts i) member []) in
    so.rest ∙ ap (λ l. behind so.made (made_each n (reading n) l h)) first ∙ ap (λ r. behind so.made (made_after n (reading n) h ms (made_each n (reading n) ms) r)) clock

-- Where the clock is full nothing is made.
pub acks_stop : (f : File) (i member : ℕ) (m : Makings) (u : Unmade) → Acknowledges f i m → member < f.members → slice_get f.mine i ≡ Some member → clocked_by m.time m.counts member [] ≡ Err u
    → made_each f.members (reading f.members) f.mine f.kept ≡ Err u
acks_stop f i member m u so lt at full =
    next_made f i member m so lt at
    ∙ ap (λ r. behind so.made (made_after f.members (reading f.members) (f.kept ++ so.made) (drop (i + 1) f.mine) (made_each f.members (reading f.members) (drop (i + 1) f.mine)) r)) full
    ∙ behind_stops so.made u

pub acks_more : (f : File) (i member : ℕ) (old new : Makings) (c : Change) → Acknowledges f i old → member < f.members → slice_get f.mine i ≡ Some member → length f.kept + (i + 1) < 2 ^ 32
    → clocked_by old.time old.counts member [] ≡ Ok c → HasMore old c new → Acknowledges f (i + 1) new
acks_more f i member old new c so lt at room clocked more =
    let n = f.members in
    let h = f.kept ++ so.made in
    let ms = drop (i + 1) f.mine in
    let making = making_more f so.made old new member [] c so.making lt (nothing_planned n) (omega (arith, length-append f.kept so.made, so.each)) clocked more in
    let whole : f.kept ++ (so.made ++ c ∷ []) ≡ h ++ c ∷ [] = sym (append_assoc f.kept so.made (c ∷ [])) in
    let added : add h c ≡ f.kept ++ (so.made ++ c ∷ []) = with_made_is h (c ∷ []) (subst InOrder whole (kept_rise [] (f.kept ++ (so.made ++ c ∷ [])) making.is_file.kept_in_order)) ∙ sym whole in
    record {
      made = so.made ++ c ∷ [];
      making = making;
      each = length-append so.made (c ∷ []) ∙ ap (λ k. k + 1) so.each;
      rest =
          next_made f i member old so lt at
          ∙ ap (λ r. behind so.made (made_after n (reading n) h ms (made_each n (reading n) ms) r)) clocked
          ∙ ap (λ l. behind so.made (with_first c (made_each n (reading n) ms l))) added
          ∙ behind_one so.made c (made_each n (reading n) ms (f.kept ++ (so.made ++ c ∷ [])));
    }

pub acks_all : (f : File) (i : ℕ) (m : Makings) (so : Acknowledges f i m) → length f.mine ≤ i → made_each f.members (reading f.members) f.mine f.kept ≡ Ok so.made
acks_all f i m so all = so.rest ∙ ap (λ l. behind so.made (made_each f.members (reading f.members) l (f.kept ++ so.made))) (drop_all i f.mine all) ∙ behind_none so.made

-- ---- as they are meant

-- what its members make, where it holds some
pub acks_meant : (f : File) → IsUntrimmed f → 1 ≤ length f.mine → made_acks f.members (held_behind (base_in f)) f.kept f.mine ≡ made_each f.members (reading f.members) f.mine f.kept
acks_meant f is some = ap (λ (b : Base). made_acks f.members (held_behind b) f.kept f.mine) (base_is f is) ∙ each f.mine some
  where
    each : (mine : List ℕ) → 1 ≤ length mine → made_acks f.members (reading f.members) f.kept mine ≡ made_each f.members (reading f.members) mine f.kept
    each [] l = absurd (omega arith)
    each (m ∷ ms) l = refl

pub acked_by_nobody : (f : File) → length f.mine ≡ 0 → made_acks f.members (held_behind (base_in f)) f.kept f.mine ≡ Err nobody
acked_by_nobody f none = no_one f.mine none
  where
    no_one : (mine : List ℕ) → length mine ≡ 0 → made_acks f.members (held_behind (base_in f)) f.kept mine ≡ Err nobody
    no_one [] l = refl
    no_one (m ∷ ms) l = absurd (omega arith)

-- no more members are held than there are
pub few_held : (bytes : List ℕ) (f : File) (i : ℕ) → IsStored bytes f → i < length f.mine → length f.kept + (i + 1) < 2 ^ 32
few_held bytes f i stored lt =
    let header = stored.spells.is_file.header in
    omega (arith, stored_few bytes f stored, rising_short f.members f.mine header.mine_rises header.mine_below, header.members_most)

-- a member that the file holds is one of its document's
pub holds_below : (f : File) (i member : ℕ) → AllByRecursion (λ k. k < f.members) f.mine → slice_get f.mine i ≡ Some member → member < f.members
holds_below f i member each at = all_at (λ k. k < f.members) f.mine i member each at
