-- Files with changes that are made of them.
use Rattle.std.proofs.Common.{◌≡◌, ℕ, ◌+◌, ◌^◌, ◌<◌, ◌≤◌, Bool, true, false, List, [], ◌∷◌, ◌++◌, length, map, max, set, get_or, refl, sym, ap, subst, ◌∙◌, append_assoc, inl, arith}
use Rattle.std.specs.Prelude.{Option, None, Some, Result, Err, Ok, filter, slice_index}
use Rattle.std.specs.List.{AllByRecursion}
use Rattle.std.specs.Option.{option_map_or}
use Rattle.std.proofs.lemmas.Grind.{flat_map-append}
use Rattle.std.proofs.lemmas.List.{append-nil, length-append, map-append}
use Rattle.std.proofs.lemmas.List.Sums.{count_by-le-length, length-filter}
use Rattle.cbor_det.specs.Item.{spell}
use Rattle.cbor_det.proofs.PlainLaws.{spell_some_bytes}
use Rattle.model.specs.Base.{base_of, members}
use Rattle.model.specs.Change.{Change, IsChange, change_item, is_before}
use Rattle.model.specs.Command.{Unmade, clock_full, with_made}
use Rattle.model.specs.File.{File, Header, IsFile, IsHeader, IsNextBehind, BaseIsReached, based, file_limit, header_item, header_of, spell_base, spell_changes}
use Rattle.model.specs.Held.{Held, held_behind, waits}
use Rattle.model.specs.Ledger.{add}
use Rattle.model.specs.Operation.{Operation}
use Rattle.model.specs.Reading.{with_changes}
use Rattle.model.specs.Stands.{IsStored}
use Rattle.model_laws.proofs.ListLaws.{all_back, all_more, filter_all, filter_none}
use Rattle.file_laws.proofs.FrontLaws.{IsFront, front_goes}
use Rattle.arrival_laws.proofs.AddLaws as place
use Rattle.arrival_laws.proofs.AddLaws.{InOrder, all_kept, before_not_back}
use Rattle.keeping_laws.proofs.EditForms.{ArePlanned}
use Rattle.keeping_laws.proofs.StoredLaws.{names_each, names_from, names_kept}
use Rattle.replica.specs.Counts.{counts_behind, time_of_last}
use Rattle.replica.specs.declared.head.FileHead.{FileHead}
use Rattle.replica.proofs.CountLaws.{counted_more, last_pushed}
use Rattle.replica.proofs.PartLaws.{counted_all, counts_are_counted}
use Rattle.replica.proofs.ScanLaws.{empty_is_reached}
use Rattle.member_replica.specs.Making.{Makes, note_of}
use Rattle.member_replica.specs.Makings.{HasMore, IsMaking, Stops, clocked_by}
use Rattle.member_replica.specs.declared.made.MakeFault.{MakeFault}
use Rattle.member_replica.specs.declared.made.MakeFault.TheVariants as faults
use Rattle.member_replica.specs.declared.made.Makings.{Makings}
use Rattle.member_replica.proofs.ClockLaws.{counts_each, counts_few, in_time, later_than, next_is_change, own_count}
use Rattle.member_replica.proofs.SoundLaws.{IsUntrimmed, base_is, kept_rise}

-- ---- one more kept change

-- a header of other numbers of changes
counted_header : (h : Header) (kept waiting : ℕ) → IsHeader h → kept < 2 ^ 32 → waiting ≤ h.waiting → IsHeader (record h { kept = kept; waiting = waiting })
counted_header h kept waiting k most fewer = record {
  version = k.version;
  document_bytes = k.document_bytes;
  document_length = k.document_length;
  members_some = k.members_some;
  members_most = k.members_most;
  mine_rises = k.mine_rises;
  mine_below = k.mine_below;
  kept_most = most;
  waiting_most = omega (arith, k.waiting_most);
  others_hold_none = λ other. (let none = k.others_hold_none other in (none.0, omega (arith, none.1)));
}

module _ (f : File) (c : Change) (untrimmed : IsUntrimmed f) (change : IsChange f.members c) (late : time_of_last f.kept < c.time) (next : IsNextBehind (Some (base_of f.members [] 0)) f.kept c) (room : length f.kept + 1 < 2 ^ 32) where
  is : IsFile f
  is = untrimmed.is_file

  wider : Header
  wider = record (header_of f) { kept = length f.kept + 1 }

  wider_front : IsFront (based wider f.base (f.kept ++ c ∷ []) [])
  unfolding wider
  wider_front =
      front_goes (based wider f.base f.kept []) (change_item c) (based wider f.base (f.kept ++ c ∷ []) [])
      (record {
        header = counted_header (header_of f) (length f.kept + 1) (length f.waiting) is.header room (omega arith);
        base = is.base;
        kept = is.kept;
        waiting = tt;
        kept_in_order = is.kept_in_order;
        waiting_in_order = tt;
        numbered = is.numbered;
        place = inl (refl, omega arith);
      })
      (inl (c, record { none = refl; more = omega arith; item = refl; change = change; later = later_than f.kept c late; next = subst (λ b. IsNextBehind b f.kept c) (sym untrimmed.base) next }, refl))

  pub more_is_file : IsFile (record f { kept = f.kept ++ c ∷ [] })
  unfolding wider
  more_is_file = record {
    header = counted_header (header_of f) (length (f.kept ++ c ∷ [])) (length f.waiting) is.header (omega (arith, length-append f.kept (c ∷ []))) (omega arith);
    base = is.base;
    kept = wider_front.kept;
    waiting = is.waiting;
    kept_in_order = wider_front.kept_in_order;
    waiting_in_order = is.waiting_in_order;
    numbered = wider_front.numbered;
    reached = subst (λ b. BaseIsReached f.members b (f.kept ++ c ∷ [])) (sym untrimmed.base) (empty_is_reached f.members (f.kept ++ c ∷ []));
  }

-- the counts with one more change
counts_more : (n : ℕ) (kept : List Change) (c : Change) → IsChange n c → IsNextBehind (Some (base_of n [] 0)) kept c
    → set (counts_behind n kept) c.member (max (get_or (counts_behind n kept) c.member 0) c.number) ≡ counts_behind n (kept ++ c ∷ [])
counts_more n kept c is next =
    let h : FileHead = record { kind = 0; doc = record { id = []; n = n }; mine = []; kept = 0; waiting = 0 } in
    let more = counted_more h kept (counts_behind n kept) c (counts_are_counted h kept (counts_behind n kept) refl) is next in
    counted_all h (kept ++ c ∷ []) _ more (λ e. absurd (omega arith))

-- what spells changes, with one more
spelled_more : (cs : List Change) (c : Change) → spell_changes (cs ++ c ∷ []) ≡ spell_changes cs ++ spell (change_item c)
spelled_more cs c = flat_map-append (λ (d : Change). spell (change_item d)) cs (c ∷ []) ∙ ap (λ l. spell_changes cs ++ l) (append-nil (spell (change_item c)))

-- changes in order come before those behind them
all_before : (front : List Change) (x : Change) (more : List Change) → InOrder (front ++ x ∷ more) → AllByRecursion (λ d. is_before d x ≡ true) front
all_before [] x more r = tt
all_before (a ∷ front) x more r = ((all_back (λ d. is_before a d ≡ true) front (x ∷ more) r.0).0, all_before front x more r.1)

-- ---- changes in the making

-- Nothing is made yet.
pub making_none : (f : File) (m : Makings) → IsUntrimmed f → m.counts ≡ counts_behind f.members f.kept → m.time ≡ time_of_last f.kept → m.spelled.items ≡ [] → m.notes.items ≡ [] → IsMaking f [] m
making_none f m is counts time spelled notes = record {
  untrimmed = is.base;
  is_file = subst (λ (l : List Change). IsFile (record f { kept = l })) (sym (append-nil f.kept)) is.is_file;
  counts = counts ∙ ap (counts_behind f.members) (sym (append-nil f.kept));
  time = time ∙ ap time_of_last (sym (append-nil f.kept));
  spelled = spelled;
  notes = notes;
}

-- The file with what is made so far.
pub made_so_far : (f : File) (cs : List Change) (m : Makings) → IsMaking f cs m → IsUntrimmed (record f { kept = f.kept ++ cs })
made_so_far f cs m making = record { is_file = making.is_file; base = making.untrimmed }

pub counts_length : (f : File) (cs : List Change) (m : Makings) → IsMaking f cs m → length m.counts ≡ f.members
counts_length f cs m making = ap length making.counts ∙ counts_each f.members (f.kept ++ cs)

-- What is made next is a change of the document.
pub next_in_form : (f : File) (cs : List Change) (m : Makings) (member : ℕ) (os : List Operation) (c : Change) → IsMaking f cs m → member < f.members → ArePlanned f.members os → clocked_by m.time m.counts member os ≡ Ok c → IsChange f.members c
next_in_form f cs m member os c making lt planned clocked =
    next_is_change f.members m.time m.counts member os c lt (counts_length f cs m making) (subst (AllByRecursion (λ k. k < 2 ^ 32)) (sym making.counts) (counts_few f.members (f.kept ++ cs) making.is_file.kept)) planned clocked

-- One more is made.
pub making_more : (f : File) (cs : List Change) (old new : Makings) (member : ℕ) (os : List Operation) (c : Change) → IsMaking f cs old → member < f.members → ArePlanned f.members os → length (f.kept ++ cs) + 1 < 2 ^ 32
    → clocked_by old.time old.counts member os ≡ Ok c → HasMore old c new → IsMaking f (cs ++ c ∷ []) new
making_more f cs old new member os c making lt planned room clocked more =
    let n = f.members in
    let kept = f.kept ++ cs in
    let passed = in_time old.time old.counts member os c clocked in
    let change = next_in_form f cs old member os c making lt planned clocked in
    let whole : kept ++ c ∷ [] ≡ f.kept ++ (cs ++ c ∷ []) = append_assoc f.kept cs (c ∷ []) in
    let by : old.time + 1 ≡ c.time = ap (λ (d : Change). d.time) passed.is in
    let late : time_of_last kept < c.time = omega (arith, making.time) in
    let who : member ≡ c.member = ap (λ (d : Change). d.member) passed.is in
    let number : c.number ≡ slice_index (counts_behind n kept) c.member + 1 = ap (λ (d : Change). d.number) (sym passed.is) ∙ (λ i. slice_index (making.counts i) (who i) + 1) in
    let own = own_count n kept c.member change.member in
    let next : IsNextBehind (Some (base_of n [] 0)) kept c = (number ∙ ap (λ k. k + 1) own, omega (arith, change.time_some)) in record {
      untrimmed = making.untrimmed;
      is_file = subst (λ (l : List Change). IsFile (record f { kept = l })) whole (more_is_file (record f { kept = kept }) c (made_so_far f cs old making) change late next room);
      counts = more.counts ∙ ap (λ (ks : List ℕ). set ks c.member (max (get_or ks c.member 0) c.number)) making.counts ∙ counts_more n kept c change next ∙ ap (counts_behind n) whole;
      time = more.time ∙ sym (ap (λ (o : Option Change). option_map_or (λ d. d.time) o 0) (last_pushed None kept c)) ∙ ap time_of_last whole;
      spelled = more.spelled ∙ ap (λ l. l ++ spell (change_item c)) making.spelled ∙ sym (spelled_more cs c);
      notes = more.notes ∙ ap (λ l. l ++ note_of c ∷ []) making.notes ∙ sym (map-append note_of cs (c ∷ []));
    }

-- ---- what is stored

-- Changes in order are put behind one another.
pub with_made_is : (h cs : List Change) → InOrder (h ++ cs) → with_made h cs ≡ h ++ cs
with_made_is h [] r = sym (append-nil h)
with_made_is h (c ∷ cs) r =
    let before = all_before h c cs r in
    let front : place.earlier c h ≡ h = filter_all (λ d. is_before d c) h before in
    let back : place.later c h ≡ [] = filter_none (λ d. is_before c d) h (all_more (λ x. is_before x c ≡ true) (λ x. is_before c x ≡ false) (λ x b. before_not_back x c b) h before) in
    let added : add h c ≡ h ++ c ∷ [] = λ i. front i ++ c ∷ back i in
    ap (λ l. with_made l cs) added ∙ with_made_is (h ++ c ∷ []) cs (subst InOrder (sym (append_assoc h (c ∷ []) cs)) r) ∙ append_assoc h (c ∷ []) cs

-- Fewer changes wait.
pub fewer_wait : (f : File) (test : Change → Bool) → IsFile f → IsFile (record f { waiting = filter test f.waiting })
fewer_wait f test is = record {
  header = counted_header (header_of f) (length f.kept) (length (filter test f.waiting)) is.header is.header.kept_most (omega (arith, length-filter test f.waiting, count_by-le-length test f.waiting));
  base = is.base;
  kept = is.kept;
  waiting = all_kept (IsChange f.members) test f.waiting is.waiting;
  kept_in_order = is.kept_in_order;
  waiting_in_order = names_each (filter test f.waiting) (names_kept test f.waiting (names_from f.waiting is.waiting_in_order));
  numbered = is.numbered;
  reached = is.reached;
}

-- what is held with the changes that were made
abbrev pub held_with : File → List Change → Held
held_with f cs = held_behind (base_of f.members [] 0) (f.kept ++ cs)

-- the file with these changes behind its own, and those that wait for others then
abbrev pub stored_with : File → List Change → File
stored_with f cs = record f { kept = f.kept ++ cs; waiting = filter (waits f.members (held_with f cs)) f.waiting }

pub stored_is : (f : File) (cs : List Change) (m : Makings) → IsMaking f cs m → stored_with f cs ≡ with_changes f cs
stored_is f cs m making =
    let untrimmed = made_so_far f cs m making in
    let kept = sym (with_made_is f.kept cs (kept_rise [] (f.kept ++ cs) making.is_file.kept_in_order)) in
    let base = sym (base_is (record f { kept = f.kept ++ cs }) untrimmed) in
    λ i. record f { kept = kept i; waiting = filter (waits f.members (held_behind (base i) (kept i))) f.waiting }

pub stored_is_file : (f : File) (cs : List Change) (m : Makings) → IsMaking f cs m → IsFile (stored_with f cs)
stored_is_file f cs m making = fewer_wait (record f { kept = f.kept ++ cs }) (waits f.members (held_with f cs)) making.is_file

-- its own changes are of the document, and so are those that were made
pub made_are : (f : File) (cs : List Change) (m : Makings) → IsMaking f cs m → AllByRecursion (IsChange f.members) cs
made_are f cs m making = all_back (IsChange f.members) f.kept cs making.is_file.kept

-- the counts are those of what is held then
pub counts_held : (f : File) (cs : List Change) (m : Makings) → IsMaking f cs m → m.counts ≡ map (λ k. ((held_with f cs).row k).count) (members (length m.counts))
counts_held f cs m making = making.counts ∙ ap (λ n. map (λ k. ((held_with f cs).row k).count) (members n)) (sym (counts_length f cs m making))

-- ---- what is told

-- What stops a change that is made stops all, where it is meant so.
pub stops_all : (f : File) (one : Result Change Unmade) (meant : Result (List Change) Unmade) (fault : MakeFault) → Stops one fault → ((u : Unmade) → one ≡ Err u → meant ≡ Err u) → Makes f meant (Err fault)
stops_all f one meant faults.Nobody stops all = absurd stops
stops_all f one meant (faults.Edit fault word) stops all = absurd stops
stops_all f one meant (faults.ClockFull time member number) stops all = all (clock_full time member number) stops
stops_all f one meant faults.NoMemory stops all = tt

-- ---- how many changes a stored file has

changes_few : (cs : List Change) → length cs ≤ length (spell_changes cs)
changes_few [] = omega arith
changes_few (c ∷ cs) = omega (arith, length-append (spell (change_item c)) (spell_changes cs), spell_some_bytes (change_item c), changes_few cs)

pub stored_few : (bytes : List ℕ) (f : File) → IsStored bytes f → length f.kept ≤ file_limit
stored_few bytes f s =
    let head = spell (header_item (header_of f)) in
    let rest = spell_changes f.kept ++ spell_changes f.waiting in
    omega (arith, ap length s.spells.whole, s.most, length-append head (spell_base f.base ++ rest), length-append (spell_base f.base) rest, length-append (spell_changes f.kept) (spell_changes f.waiting), changes_few f.kept)
