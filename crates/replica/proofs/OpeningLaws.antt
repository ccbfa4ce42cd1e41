-- The header and the base of a file, from the reads of their items.
use Rattle.std.proofs.Common.{◌≡◌, ◌≢◌, ℕ, ◌^◌, ◌<◌, List, [], ◌++◌, length, refl, sym, ap, subst, ◌∙◌, arith, inl}
use Rattle.std.specs.Prelude.{Some, Ok, Err}
use Rattle.std.proofs.lemmas.List.{length-append}
use Rattle.cbor_det.specs.Item.{Item, IsSpelled, spell}
use Rattle.cbor_det.specs.FieldFaults.{FlawedHere}
use Rattle.cbor_det.specs.Unread.{Unread}
use Rattle.cbor_det.specs.declared.CborFault.{CborFault}
use Rattle.cbor_det.proofs.SequenceLaws.{spell_unique, not_both}
use Rattle.file_laws.proofs.BodyLaws.{plain_spelled}
use Rattle.file_laws.proofs.SameParts.{header_same}
use Rattle.model.specs.BaseItem.{base_item}
use Rattle.model.specs.Rules.{F1}
use Rattle.model.specs.File.{Kind, member_file, bundle, snapshot, Header, header_item, IsHeader, Front, nothing, headed, based, after_header, FileFault, encoding, breaks, FaultIn, here_flawed, here_broken}
use Rattle.model.specs.File as model
use Rattle.replica.specs.Empty.{empty_base, base_in}
use Rattle.replica.specs.Heads.{kind_of, header_by}
use Rattle.replica.specs.FaultText.{fault_of}
use Rattle.replica.specs.Scanning.{HasOtherBase, LeadsTo, changes_front, items_before, ScansHeader, ScansBase, ScansOpening}
use Rattle.replica.specs.declared.head.FileHead.{FileHead}
use Rattle.replica.specs.declared.fault.ScanFault.{ScanFault}
use Rattle.replica.specs.declared.fault.ScanFault.TheVariants.{Bad, OtherBase, NoMemory}
use Rattle.replica.proofs.EmptyItem.{empty_base_plain}
use Rattle.replica.proofs.EmptyLaws.{empty_is_base}
use Rattle.replica.proofs.HeaderLaws.{header_is_spelled}
use Rattle.replica.proofs.ChangeLaws.{by_kinds}
use Rattle.replica.proofs.LeadLaws.{leads_one, leads_then}

-- ---- an item that is flawed

pub flawed_front : (f : Front) (i : ℕ) (old : Unread) (fault : CborFault) → (model.IsWhole f → ⊥) → FlawedHere old fault → FaultIn old.len f i old.rest (encoding fault)
flawed_front f i old fault more d = subst (λ e. FaultIn old.len f i old.rest (encoding e)) (sym d.2) (here_flawed f i old.rest d.0 more d.1)

pub flawed_no_item : (old : Unread) (fault : CborFault) → FlawedHere old fault → (x : Item) (left : List ℕ) → IsSpelled x → old.rest ≡ spell x ++ left → ⊥
flawed_no_item old fault d x left sp e = not_both x left old.rest d.0 sp (sym e) d.1

-- ---- the header

module _ (bytes : List ℕ) (short : length bytes < 2 ^ 32) (o : HasOtherBase bytes) where
  other_spelled : IsSpelled (header_item o.header)
  other_spelled = header_is_spelled o.header o.is_header (omega (arith, ap length o.parts, length-append (spell (header_item o.header)) (spell o.item ++ o.left)))

  -- what stands first is the header of that file
  pub other_first : (x : Item) (rest : List ℕ) → IsSpelled x → bytes ≡ spell x ++ rest → (header_item o.header ≡ x) × (spell o.item ++ o.left ≡ rest)
  other_first x rest sp e = spell_unique (header_item o.header) x (spell o.item ++ o.left) rest other_spelled sp (sym o.parts ∙ e)

pub header_flawed : (old : Unread) (fault : CborFault) → length old.rest < 2 ^ 32 → FlawedHere old fault → FaultIn old.len nothing 0 old.rest (encoding fault) × (HasOtherBase old.rest → ⊥)
header_flawed old fault short d =
    (flawed_front nothing 0 old fault (λ w. w) d, λ o. flawed_no_item old fault d (header_item o.header) (spell o.item ++ o.left) (other_spelled old.rest short o) o.parts)

pub header_broken : (all : ℕ) (bytes : List ℕ) (x : Item) (left : List ℕ) → length bytes < 2 ^ 32 → IsSpelled x → bytes ≡ spell x ++ left → ((h : Header) → x ≡ header_item h → IsHeader h → ⊥)
    → FaultIn all nothing 0 bytes (breaks 0 F1) × (HasOtherBase bytes → ⊥)
header_broken all bytes x left short sp parts none = (
  subst (λ (l : List ℕ). FaultIn all nothing 0 l (breaks 0 F1)) (sym parts) (here_broken nothing 0 x left F1 sp (model.BreaksHere.header x F1 (inl (refl, λ k. none k.0 k.1 k.2)))),
  λ o. none o.header (sym (other_first bytes short o x left sp parts).0) o.is_header,
)

-- ---- behind the header

pub empty_base_spelled : (n : ℕ) → length (spell (base_item (empty_base n))) < 2 ^ 64 → IsSpelled (base_item (empty_base n))
empty_base_spelled n short = plain_spelled (base_item (empty_base n)) 5 (omega arith) (empty_base_plain n) short

module _ (h : FileHead) (all : ℕ) (bytes rest : List ℕ) (short : length bytes < 2 ^ 32) (is : IsHeader (header_by h)) (sp : IsSpelled (header_item (header_by h))) (parts : bytes ≡ spell (header_item (header_by h)) ++ rest) where
  rest_short : length rest < 2 ^ 32
  rest_short = omega (arith, ap length parts, length-append (spell (header_item (header_by h))) rest)

  header_leads : LeadsTo all nothing 0 bytes (after_header (header_by h) (kind_of h.kind)) 1 rest
  header_leads = leads_one all nothing (after_header (header_by h) (kind_of h.kind)) 0 (header_item (header_by h)) bytes rest sp (model.GoesOn.header (header_by h) is) parts

  other_behind : (o : HasOtherBase bytes) → (o.header ≡ header_by h) × (rest ≡ spell o.item ++ o.left)
  other_behind o = let k = other_first bytes short o (header_item (header_by h)) rest sp parts in (header_same o.header (header_by h) k.0, sym k.1)

  -- a bundle
  pub bundle_opens : h.kind ≡ 1 → (HasOtherBase bytes → ⊥) × LeadsTo all nothing 0 bytes (changes_front h [] []) (items_before (kind_of h.kind)) rest
  bundle_opens one = (
    λ o. o.has_base (ap (λ (k : Header). k.kind) (other_behind o).0 ∙ ap kind_of one),
    by_kinds (λ q. LeadsTo all nothing 0 bytes (after_header (header_by h) q) 1 rest → LeadsTo all nothing 0 bytes (based (header_by h) (base_in q h.doc.n) [] []) (items_before q) rest) h.kind
        (λ _ l. l) (λ other. absurd (other one)) (λ other. absurd (other one)) header_leads,
  )

  module _ (other_kind : h.kind ≢ 1) where
    headed_leads : LeadsTo all nothing 0 bytes (headed (header_by h)) 1 rest
    headed_leads = by_kinds (λ q. LeadsTo all nothing 0 bytes (after_header (header_by h) q) 1 rest → LeadsTo all nothing 0 bytes (headed (header_by h)) 1 rest) h.kind (λ one. absurd (other_kind one)) (λ _ l. l) (λ _ l. l) header_leads

    -- with the empty base
    pub base_opens : (more : List ℕ) → rest ≡ spell (base_item (empty_base h.doc.n)) ++ more → (HasOtherBase bytes → ⊥) × LeadsTo all nothing 0 bytes (changes_front h [] []) (items_before (kind_of h.kind)) more
    base_opens more there =
        let n = h.doc.n in
        let spelled = empty_base_spelled n (omega (arith, rest_short, ap length there, length-append (spell (base_item (empty_base n))) more)) in
        let leads : LeadsTo all nothing 0 bytes (based (header_by h) (Some (empty_base n)) [] []) 2 more =
        leads_then all nothing (headed (header_by h)) (based (header_by h) (Some (empty_base n)) [] []) 0 1 2 bytes rest more headed_leads
        (leads_one all (headed (header_by h)) (based (header_by h) (Some (empty_base n)) [] []) 1 (base_item (empty_base n)) rest more spelled (model.GoesOn.base (header_by h) (empty_base n) (empty_is_base n)) there) in (
          λ o. let k = other_behind o in
              o.other ((spell_unique o.item (base_item (empty_base n)) o.left more o.spelled spelled (sym k.1 ∙ there)).0 ∙ ap (λ (g : Header). base_item (empty_base g.members)) (sym k.0)),
          by_kinds (λ q. LeadsTo all nothing 0 bytes (based (header_by h) (base_in q n) [] []) (items_before q) more) h.kind (λ one. absurd (other_kind one)) (λ _. leads) (λ _. leads),
        )

    -- where no base is read
    pub base_flawed : (fault : FileFault) → FaultIn all (headed (header_by h)) 1 rest fault → ((x : Item) (left : List ℕ) → IsSpelled x → rest ≡ spell x ++ left → ⊥) → FaultIn all nothing 0 bytes fault × (HasOtherBase bytes → ⊥)
    base_flawed fault k none = (headed_leads.faults fault k, λ o. none o.item o.left o.spelled (other_behind o).1)

    -- with another base
    pub other_opens : (x : Item) (left : List ℕ) → IsSpelled x → rest ≡ spell x ++ left → x ≢ base_item (empty_base h.doc.n) → HasOtherBase bytes
    other_opens x left sp' there other = record {
      header = header_by h;
      is_header = is;
      has_base = by_kinds (λ q. q ≢ bundle) h.kind (λ one. absurd (other_kind one)) (λ _ e. cc) (λ _ e. cc);
      item = x;
      spelled = sp';
      left = left;
      parts = parts ∙ ap (λ (l : List ℕ). spell (header_item (header_by h)) ++ l) there;
      other = other;
    }

-- ---- both

module _ (h : FileHead) (o0 o1 : Unread) (short : length o0.rest < 2 ^ 32) (read : ScansHeader o0 o1 (Ok h)) where
  pub opens_bundle : h.kind ≡ 1 → ScansOpening o0 o1 (Ok h)
  opens_bundle one = let k = bundle_opens h o0.len o0.rest o1.rest short read.0 read.3 read.4 one in (read.0, read.1, read.2, k.0, k.1)

  module _ (o2 : Unread) (other : h.kind ≢ 1) where
    pub opens_based : ScansBase h o1 o2 (Ok tt) → ScansOpening o0 o2 (Ok h)
    opens_based base = let k = base_opens h o0.len o0.rest o1.rest short read.0 read.3 read.4 other o2.rest base.1 in (read.0, read.1, base.0 ∙ read.2, k.0, k.1)

    pub opens_not : (e : ScanFault) → ScansBase h o1 o2 (Err e) → ScansOpening o0 o2 (Err e)
    opens_not (Bad why) base =
        base_flawed h o0.len o0.rest o1.rest short read.0 read.3 read.4 other (fault_of why) (subst (λ (len : ℕ). FaultIn len (headed (header_by h)) 1 o1.rest (fault_of why)) read.2 base.0) base.1
    opens_not OtherBase base = other_opens h o0.len o0.rest o1.rest short read.0 read.3 read.4 other base.0 base.1 base.2 base.3 base.4
    opens_not NoMemory base = tt
