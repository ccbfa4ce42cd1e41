-- Headers, from the reads of their fields.
use Rattle.std.proofs.Common.{◌≡◌, ◌≢◌, ◌⊎◌, ℕ, zero, suc, ◌^◌, ◌<◌, List, [], ◌++◌, length, refl, sym, ap, subst, ◌∙◌, append_assoc, arith, lit<, inl, inr}
use Rattle.std.specs.Prelude.{Result, Ok, Err, codes}
use Rattle.std.proofs.lemmas.List.{length-append, append-nil, append_cancel_left}
use Rattle.cbor_det.specs.Head.{head}
use Rattle.cbor_det.specs.Item as cbor
use Rattle.cbor_det.specs.Item.{Item, spell, IsSpelled}
use Rattle.cbor_det.specs.Unread.{Unread}
use Rattle.cbor_det.proofs.SequenceLaws.{spell_unique}
use Rattle.file_laws.proofs.BodyLaws.{plain_spelled}
use Rattle.file_laws.proofs.FileLaws.{header_plain}
use Rattle.model.specs.Value.{numbers_item}
use Rattle.model.specs.File.{Kind, member_file, bundle, snapshot, kind_number, Header, header_item, IsHeader}
use Rattle.replica.specs.Heads.{kind_of, header_by}
use Rattle.replica.specs.Headers.{HeaderAnswer, HoldsByKind, spelled_fields, HasBounds, ReadsFields}
use Rattle.replica.specs.declared.header.TheConstants.{TITLE}
use Rattle.replica.specs.declared.head.FileHead.{FileHead}
use Rattle.replica.specs.declared.fields.HeaderFault.{HeaderFault}
use Rattle.replica.specs.declared.fields.HeaderFault.TheVariants.{NotHeader, NoMemory}

-- ---- headers as their fields

abbrev pub fields_of : Header → FileHead
fields_of h = record { kind = kind_number h.kind; doc = record { id = h.document; n = h.members }; mine = h.mine; kept = h.kept; waiting = h.waiting }

pub kind_again : (k : ℕ) → k < 3 → kind_number (kind_of k) ≡ k
kind_again zero lt = refl
kind_again (suc zero) lt = refl
kind_again (suc (suc zero)) lt = refl
kind_again (suc (suc (suc k))) lt = absurd (omega arith)

pub fields_again : (h : FileHead) → h.kind < 3 → fields_of (header_by h) ≡ h
fields_again h lt = let same = kind_again h.kind lt in λ i. record { kind = same i; doc = h.doc; mine = h.mine; kept = h.kept; waiting = h.waiting }

title : List ℕ
title = head 4 8 ++ (spell (cbor.text (codes "outline")) ++ head 0 1)

title_is : title ≡ TITLE.now
unfolding title head
title_is = refl

-- the title, and then the fields
pub header_spelled : (h : Header) → h.version ≡ 1 → spell (header_item h) ≡ TITLE.now ++ spelled_fields (fields_of h)
unfolding title
header_spelled h one =
    let first : List ℕ = head 4 8 in
    let word : List ℕ = spell (cbor.text (codes "outline")) in
    let fields : List ℕ = spelled_fields (fields_of h) in
    let waits : List ℕ = head 0 h.waiting in
    let whole : spell (header_item h) ≡ first ++ (word ++ (head 0 h.version ++ fields)) =
    ap (λ (t : List ℕ). first ++ (word ++ (head 0 h.version ++ (head 0 (kind_number h.kind) ++ (spell (cbor.bytes h.document) ++ (head 0 h.members ++ (spell (numbers_item h.mine) ++ (head 0 h.kept ++ t)))))))) (append-nil waits) in
    whole ∙ ap (λ (v : ℕ). first ++ (word ++ (head 0 v ++ fields))) one ∙ sym (append_assoc first (word ++ head 0 1) fields ∙ ap (λ (t : List ℕ). first ++ t) (append_assoc word (head 0 1) fields))
    ∙ ap (λ (t : List ℕ). t ++ fields) title_is

pub bounds_of : (h : Header) → IsHeader h → HasBounds (fields_of h)
bounds_of h k = record {
  kind = kind_below h.kind;
  document = (k.document_length, k.document_bytes);
  members_some = k.members_some;
  members_most = omega (arith, k.members_most);
  mine = (k.mine_rises, k.mine_below);
  kept = k.kept_most;
  waiting = omega (arith, k.waiting_most);
}
  where
    kind_below : (kind : Kind) → kind_number kind < 3
    kind_below member_file = lit< tt
    kind_below bundle = lit< tt
    kind_below snapshot = lit< tt

pub holds_by_kind : (h : Header) → IsHeader h → HoldsByKind (fields_of h)
holds_by_kind h k = by_kind h.kind k.others_hold_none
  where
    by_kind : (kind : Kind) → (kind ≢ member_file → (h.mine ≡ []) × (h.waiting ≡ 0)) → (kind_number kind ≡ 0) ⊎ ((h.mine ≡ []) × (h.waiting ≡ 0))
    by_kind member_file others = inl refl
    by_kind bundle others = inr (others (λ e. cc))
    by_kind snapshot others = inr (others (λ e. cc))

pub is_header : (h : FileHead) → HasBounds h → HoldsByKind h → IsHeader (header_by h)
is_header h b k = record {
  version = refl;
  document_bytes = b.document.1;
  document_length = b.document.0;
  members_some = b.members_some;
  members_most = omega (arith, b.members_most);
  mine_rises = b.mine.0;
  mine_below = b.mine.1;
  kept_most = b.kept;
  waiting_most = omega (arith, b.waiting);
  others_hold_none = others k;
}
  where
    others : HoldsByKind h → kind_of h.kind ≢ member_file → (h.mine ≡ []) × (h.waiting ≡ 0)
    others (inl zero_kind) ne = absurd (ne (ap kind_of zero_kind))
    others (inr none) ne = none

-- ---- headers may stand in a sequence

pub header_is_spelled : (h : Header) → IsHeader h → length (spell (header_item h)) < 2 ^ 64 → IsSpelled (header_item h)
header_is_spelled h k short = plain_spelled (header_item h) 2 (omega arith) (header_plain h k) short

-- ---- what a span is the item of

module _ (span : List ℕ) where
  -- the title isn't there
  pub no_title : ((rest : List ℕ) → span ≢ TITLE.now ++ rest) → (x : Item) → span ≡ spell x → (h : Header) → x ≡ header_item h → IsHeader h → ⊥
  no_title none x e h is k = none (spelled_fields (fields_of h)) (e ∙ ap spell is ∙ header_spelled h k.version)

  module _ (fields : List ℕ) (there : span ≡ TITLE.now ++ fields) (o0 o1 : Unread) (starts : o0.rest ≡ fields) where
    fields_there : (x : Item) → span ≡ spell x → (h : Header) → x ≡ header_item h → IsHeader h → o0.rest ≡ spelled_fields (fields_of h) ++ []
    fields_there x e h is k =
        starts ∙ append_cancel_left TITLE.now fields (spelled_fields (fields_of h)) (sym there ∙ e ∙ ap spell is ∙ header_spelled h k.version) ∙ sym (append-nil (spelled_fields (fields_of h)))

    pub no_fields : (e : HeaderFault) (r : Result FileHead HeaderFault) → r ≡ Err e → ReadsFields o0 o1 (Err e) → (x : Item) → span ≡ spell x → HeaderAnswer x r
    no_fields NotHeader (Ok v) is d x e = absurd cc
    no_fields NotHeader (Err NotHeader) is d x e = λ h item k. d (fields_of h) [] (bounds_of h k) (fields_there x e h item k)
    no_fields NotHeader (Err NoMemory) is d x e = tt
    no_fields NoMemory (Ok v) is d x e = absurd cc
    no_fields NoMemory (Err NotHeader) is d x e = absurd (bad is)
      where
        bad : ◌≡◌ {A = Result FileHead HeaderFault} (Err NotHeader) (Err NoMemory) → ⊥
        bad e = cc
    no_fields NoMemory (Err NoMemory) is d x e = tt

    pub not_by_kind : (v : FileHead) → ReadsFields o0 o1 (Ok v) → (HoldsByKind v → ⊥) → (x : Item) → span ≡ spell x → (h : Header) → x ≡ header_item h → IsHeader h → ⊥
    not_by_kind v d none x e h is k =
        let same : fields_of h ≡ v = (d.2 (fields_of h) [] (bounds_of h k) (fields_there x e h is k)).0 in
        none (subst HoldsByKind same (holds_by_kind h k))

    pub is_headers : (v : FileHead) → ReadsFields o0 o1 (Ok v) → HoldsByKind v → length span < 2 ^ 32 → (x : Item) → IsSpelled x → span ≡ spell x → HeaderAnswer x (Ok v)
    is_headers v d holds short x sp e =
        let h = header_by v in
        let is = is_header v d.0 holds in
        let parts : span ≡ spell (header_item h) ++ o1.rest =
        there ∙ ap (λ (t : List ℕ). TITLE.now ++ t) (sym starts ∙ d.1) ∙ sym (append_assoc TITLE.now (spelled_fields v) o1.rest)
        ∙ ap (λ (t : List ℕ). t ++ o1.rest) (ap (λ (w : FileHead). TITLE.now ++ spelled_fields w) (sym (fields_again v d.0.kind)) ∙ sym (header_spelled h refl)) in
        let spelled = header_is_spelled h is (omega (arith, ap length parts, length-append (spell (header_item h)) o1.rest)) in
        ((spell_unique x (header_item h) [] o1.rest sp spelled (append-nil (spell x) ∙ sym e ∙ parts)).0, is, omega (arith, d.0.kind))
