-- The changes of a file, as they are scanned one by one.
use Rattle.std.proofs.Common.{◌≡◌, ◌≢◌, ℕ, ◌+◌, ◌-◌, ◌^◌, ◌<◌, ◌≤◌, List, [], ◌∷◌, ◌++◌, length, refl, sym, ap, subst, ◌∙◌, arith, inl, inr}
use Rattle.std.specs.Prelude.{Some, Ok}
use Rattle.std.proofs.lemmas.List.{length-append}
use Rattle.cbor_det.specs.Head.{IsBytes}
use Rattle.cbor_det.specs.Item.{Item, IsSpelled, spell}
use Rattle.cbor_det.specs.FieldFaults.{FlawedHere}
use Rattle.cbor_det.specs.Unread.{Unread}
use Rattle.cbor_det.specs.declared.CborFault.{CborFault}
use Rattle.model.specs.Base.{members}
use Rattle.model.specs.Change.{Change, IsChange, change_item}
use Rattle.model.specs.Rules.{Rule, F4, F5, BreaksFirst, KeepsChange, change_rules}
use Rattle.model.specs.File.{Header, IsHeader, IsLater, IsNextName, IsNextBehind, BaseIsReached, Front, nothing, based, FileFault, encoding, breaks, trailing, FaultIn, here_broken, more_left, KeepsPlace, IsWhole, SpellsFile, File, HasFault}
use Rattle.model.specs.File as model
use Rattle.model.specs.Stability.{stable_of}
use Rattle.model.specs.Held.{held_behind}
use Rattle.model_laws.proofs.ListLaws.{all_of_any}
use Rattle.file_laws.proofs.FileLaws.{file_reads, file_or_fault}
use Rattle.file_laws.proofs.FileFaults.{Reads, reads_all, one_file, no_fault}
use Rattle.op_grammar.specs.Rules.{rule_of}
use Rattle.replica.specs.Empty.{empty_base}
use Rattle.replica.specs.Heads.{kind_of, header_by, base_by}
use Rattle.replica.specs.Parts.{file_with}
use Rattle.replica.specs.Scanning.{HasOtherBase, LeadsTo, changes_front, FaultAt, IsNoChange, Room, ScansKept, ScansWaiting, ScansOpening, items_before}
use Rattle.replica.specs.declared.fault.BadFile.TheVariants as bad
use Rattle.replica.specs.declared.fault.ScanFault.{ScanFault}
use Rattle.replica.specs.declared.fault.ScanFault.TheVariants.{Bad, OtherBase, NoMemory}
use Rattle.replica.specs.declared.head.FileHead.{FileHead}
use Rattle.replica.proofs.ChangeLaws.{change_is_spelled, by_kind}
use Rattle.replica.proofs.CountLaws.{count-none}
use Rattle.replica.proofs.LeadLaws.{leads_here, leads_one, leads_then}
use Rattle.replica.proofs.OpeningLaws.{flawed_front}

-- ---- one item after the other

-- So many changes were read, from one place to another.
pub record SoFar (h : FileHead) (first read : ℕ) (f g : Front) (old now : Unread) : Type 0 where
  pub len : now.len ≡ old.len
  pub leads : LeadsTo old.len f first old.rest g (first + read) now.rest

pub begins : (h : FileHead) (first : ℕ) (f : Front) (old : Unread) → SoFar h first 0 f f old old
begins h first f old = record { len = refl; leads = subst (λ k. LeadsTo old.len f first old.rest f k old.rest) (omega arith) (leads_here old.len f first old.rest) }

module _ (h : FileHead) (first read : ℕ) (f g : Front) (old now : Unread) (so : SoFar h first read f g old now) (room : Room first old) where
  -- what is left is short, and the next item can be counted
  pub left_short : first + read + length now.rest < 2 ^ 32
  left_short = omega (arith, so.leads.counted, room)

  pub flawed_later : (fault : CborFault) → (IsWhole g → ⊥) → FlawedHere now fault → FaultIn old.len f first old.rest (encoding fault)
  flawed_later fault more d = so.leads.faults (encoding fault) (subst (λ len. FaultIn len g (first + read) now.rest (encoding fault)) so.len (flawed_front g (first + read) now fault more d))

  pub broken_later : (x : Item) (rest : List ℕ) (r : Rule) → IsSpelled x → now.rest ≡ spell x ++ rest → model.BreaksHere g x r → FaultIn old.len f first old.rest (breaks (first + read) r)
  broken_later x rest r sp parts b =
      so.leads.faults (breaks (first + read) r) (subst (λ l. FaultIn old.len g (first + read) l (breaks (first + read) r)) (sym parts) (here_broken g (first + read) x rest r sp b))

  -- where the next item is no change
  pub stops_later : (fault : ScanFault) → IsNoChange h.doc.n (first + read) now fault → (IsWhole g → ⊥) → ((x : Item) (r : Rule) → BreaksFirst (KeepsChange h.doc.n) change_rules x r → model.BreaksHere g x r) → FaultAt old.len f first old.rest fault
  stops_later (Bad (bad.Cbor flaw)) wrong more broken = flawed_later flaw more wrong
  stops_later (Bad (bad.Rule i rule)) (same, (x, rest, sp, parts, b)) more broken =
      subst (λ k. FaultIn old.len f first old.rest (breaks k (rule_of rule))) (sym same) (broken_later x rest (rule_of rule) sp parts (broken x (rule_of rule) b))
  stops_later (Bad (bad.Trailing at)) wrong more broken = absurd wrong
  stops_later OtherBase wrong more broken = absurd wrong
  stops_later NoMemory wrong more broken = absurd wrong

  pub goes_on : (x : Item) (g' : Front) (new : Unread) → new.len ≡ now.len → IsSpelled x → now.rest ≡ spell x ++ new.rest → model.GoesOn g x g' → SoFar h first (read + 1) f g' old new
  goes_on x g' new len sp parts goes = record {
    len = len ∙ so.len;
    leads =
        subst (λ k. LeadsTo old.len f first old.rest g' k new.rest) (omega arith)
        (leads_then old.len f g g' first (first + read) (first + read + 1) old.rest now.rest new.rest so.leads (leads_one old.len g g' (first + read) x now.rest new.rest sp goes parts));
  }

-- a change that stands in a short file has a spelling
pub stands_spelled : (first read : ℕ) (left rest : List ℕ) (n : ℕ) (c : Change) → first + read + length left < 2 ^ 32 → n ≤ 32 → IsChange n c → left ≡ spell (change_item c) ++ rest → IsSpelled (change_item c)
stands_spelled first read left rest n c short few is parts = change_is_spelled n c few is (omega (arith, ap length parts, length-append (spell (change_item c)) rest, short))

-- ---- kept changes

module _ (h : FileHead) (kept : List Change) (read : ℕ) (counted : length kept ≡ read) (more : read < h.kept) where
  pub kept_not_whole : IsWhole (changes_front h kept []) → ⊥
  kept_not_whole w = omega (arith, w.0)

  pub kept_breaks : (x : Item) (r : Rule) → BreaksFirst (KeepsPlace h.doc.n (IsLater kept) (IsNextBehind (base_by h) kept)) (change_rules ++ F4 ∷ F5 ∷ []) x r → model.BreaksHere (changes_front h kept []) x r
  kept_breaks x r b = model.BreaksHere.kept (header_by h) (base_by h) kept x r (omega (arith, counted)) b

  pub kept_goes : (c : Change) → IsChange h.doc.n c → IsLater kept c → IsNextBehind (base_by h) kept c → model.GoesOn (changes_front h kept []) (change_item c) (changes_front h (kept ++ c ∷ []) [])
  kept_goes c is later next = model.GoesOn.kept (header_by h) (base_by h) kept c (omega (arith, counted)) is later next

-- ---- waiting changes

module _ (h : FileHead) (kept waiting : List Change) (read : ℕ) (all : length kept ≡ h.kept) (counted : length waiting ≡ read) (more : read < h.waiting) where
  pub waiting_not_whole : IsWhole (changes_front h kept waiting) → ⊥
  waiting_not_whole w = omega (arith, w.1)

  pub waiting_breaks : (x : Item) (r : Rule) → BreaksFirst (KeepsPlace h.doc.n (IsNextName waiting) (λ c. Unit {0})) (change_rules ++ F4 ∷ []) x r → model.BreaksHere (changes_front h kept waiting) x r
  waiting_breaks x r b = model.BreaksHere.waiting (header_by h) (base_by h) kept waiting x r all (omega (arith, counted)) b

  pub waiting_goes : (c : Change) → IsChange h.doc.n c → IsNextName waiting c → model.GoesOn (changes_front h kept waiting) (change_item c) (changes_front h kept (waiting ++ c ∷ []))
  waiting_goes c is next = model.GoesOn.waiting (header_by h) (base_by h) kept waiting c all (omega (arith, counted)) is next

-- ---- the whole file

-- the empty base is reached, whatever is kept
pub empty_is_reached : (n : ℕ) (kept : List Change) → BaseIsReached n (Some (empty_base n)) kept
empty_is_reached n kept = record {
  horizon = all_of_any (λ m. 0 ≤ ((held_behind (empty_base n) kept).row m).last) (λ m. omega arith) (members n);
  stable = all_of_any (λ m. ((held_behind (empty_base n) []).row m).count ≤ stable_of n (held_behind (empty_base n) kept) m) (λ m. let none = count-none n m in omega (arith, none)) (members n);
}

pub is_reached : (h : FileHead) (kept : List Change) → BaseIsReached h.doc.n (base_by h) kept
is_reached h kept = by_kind (λ b. BaseIsReached h.doc.n b kept) h.doc.n h.kind (λ _. tt) (λ _. empty_is_reached h.doc.n kept)

-- bytes that are read to the end of a file spell it
pub reads_spelled : (bytes : List ℕ) (f : File) → IsBytes bytes → length bytes < 2 ^ 32 → Reads nothing bytes f → SpellsFile bytes f
reads_spelled bytes f fits short r =
    elim (file_or_fault bytes fits) [
      | inl k ↦
          let there : Reads nothing bytes k.0 = subst (λ l. Reads nothing l k.0) (sym k.1.whole) (file_reads k.0 k.1.is_file (omega (arith, ap length k.1.whole))) in
          subst (SpellsFile bytes) (one_file nothing bytes k.0 f tt there r) k.1
      | inr k ↦ absurd (no_fault (length bytes) nothing 0 bytes f k.0 tt r k.1)
    ]

module _ (h : FileHead) (kept waiting : List Change) (o0 o1 o2 o3 : Unread) (first : ℕ) (first_is : first ≡ items_before (kind_of h.kind)) (opening : ScansOpening o0 o1 (Ok h)) (k : ScansKept first h o1 o2 (Ok kept)) (w : ScansWaiting (first + h.kept) h kept o2 o3 (Ok waiting)) where
  pub whole_len : o3.len ≡ o0.len
  whole_len = w.1 ∙ k.1 ∙ opening.2

  whole_leads : LeadsTo o0.len nothing 0 o0.rest (changes_front h kept waiting) (first + h.kept + h.waiting) o3.rest
  whole_leads =
      let opened = subst (λ i. LeadsTo o0.len nothing 0 o0.rest (changes_front h [] []) i o1.rest) (sym first_is) opening.4 in
      let then_kept = subst (λ len. LeadsTo len (changes_front h [] []) first o1.rest (changes_front h kept []) (first + h.kept) o2.rest) opening.2 k.2 in
      let then_waiting = subst (λ len. LeadsTo len (changes_front h kept []) (first + h.kept) o2.rest (changes_front h kept waiting) (first + h.kept + h.waiting) o3.rest) (k.1 ∙ opening.2) w.2 in
      leads_then o0.len nothing (changes_front h [] []) (changes_front h kept waiting) 0 first (first + h.kept + h.waiting) o0.rest o1.rest o3.rest opened
      (leads_then o0.len (changes_front h [] []) (changes_front h kept []) (changes_front h kept waiting) first (first + h.kept) (first + h.kept + h.waiting) o1.rest o2.rest o3.rest then_kept then_waiting)

  module _ (bytes : List ℕ) (len : o0.len ≡ length bytes) (rest : o0.rest ≡ bytes) where
    -- more stands behind the last item
    pub trails : (at : ℕ) → at ≡ o3.len - length o3.rest → o3.rest ≢ [] → HasFault bytes (trailing at) × (HasOtherBase bytes → ⊥)
    trails at is some =
        let there : FaultIn o0.len nothing 0 o0.rest (trailing (o0.len - length o3.rest)) =
        whole_leads.faults (trailing (o0.len - length o3.rest)) (more_left (changes_front h kept waiting) (first + h.kept + h.waiting) o3.rest (k.0, w.0) some) in
        let place : o0.len - length o3.rest ≡ at = ap (λ l. l - length o3.rest) (sym whole_len) ∙ sym is in
        let fault : FaultIn o0.len nothing 0 o0.rest (trailing at) = subst (λ t. FaultIn o0.len nothing 0 o0.rest (trailing t)) place there in
        (subst (λ l. FaultIn l nothing 0 bytes (trailing at)) len (subst (λ l. FaultIn o0.len nothing 0 l (trailing at)) rest fault), subst (λ l. HasOtherBase l → ⊥) rest opening.3)

    -- nothing does
    pub is_whole : IsBytes bytes → length bytes < 2 ^ 32 → o3.rest ≡ [] → SpellsFile bytes (file_with h kept waiting)
    is_whole fits short none =
        let end : Reads (changes_front h kept waiting) o3.rest (file_with h kept waiting) =
        subst (λ l. Reads (changes_front h kept waiting) l (file_with h kept waiting)) (sym none) (reads_all (header_by h) (base_by h) kept waiting k.0 w.0 (is_reached h kept)) in
        reads_spelled bytes (file_with h kept waiting) fits short (subst (λ l. Reads nothing l (file_with h kept waiting)) rest (whole_leads.reads (file_with h kept waiting) end))
