-- What the reads of a header answer.
use Rattle.std.specs.Prelude.{◌≡◌, ◌⊎◌, ℕ, ◌<◌, ◌≤◌, ◌^◌, List, [], ◌++◌, Result, Ok, Err}
use Rattle.cbor_det.specs.Head.{head}
use Rattle.cbor_det.specs.Item.{Item}
use Rattle.cbor_det.specs.Unread.{Unread}
use Rattle.model.specs.File.{Header, header_item, IsHeader}
use Rattle.replica.specs.Heads.{header_by}
use Rattle.replica.specs.Fields.{Decodes, spelled_bytes, IsDocument, spelled_numbers, AreMine}
use Rattle.replica.specs.declared.head.FileHead.{FileHead}
use Rattle.replica.specs.declared.fields.HeaderFault.{HeaderFault}
use Rattle.replica.specs.declared.fields.HeaderFault.TheVariants.{NotHeader, NoMemory}

-- The item is that of this header, or of none.
abbrev pub HeaderAnswer : Item → Result FileHead HeaderFault → Type 0
HeaderAnswer x (Ok h) = (x ≡ header_item (header_by h)) × IsHeader (header_by h) × (h.kind ≤ 2)
HeaderAnswer x (Err NotHeader) = (h : Header) → x ≡ header_item h → IsHeader h → ⊥
HeaderAnswer x (Err NoMemory) = Unit {0}

-- a member file, or one that holds no member and has no waiting change
abbrev pub HoldsByKind : FileHead → Type 0
HoldsByKind h = (h.kind ≡ 0) ⊎ ((h.mine ≡ []) × (h.waiting ≡ 0))

-- the fields behind the title, spelled
abbrev pub spelled_fields : FileHead → List ℕ
spelled_fields h = head 0 h.kind ++ (spelled_bytes h.doc.id ++ (head 0 h.doc.n ++ (spelled_numbers h.mine ++ (head 0 h.kept ++ head 0 h.waiting))))

-- the bounds of each field by itself
pub record HasBounds (h : FileHead) : Type 0 where
  pub kind : h.kind < 3
  pub document : IsDocument h.doc.id
  pub members_some : 1 ≤ h.doc.n
  pub members_most : h.doc.n < 33
  pub mine : AreMine h.doc.n h.mine
  pub kept : h.kept < 2 ^ 32
  pub waiting : h.waiting < 4097

abbrev pub ReadsFields : Unread → Unread → Result FileHead HeaderFault → Type 0
ReadsFields old new result = Decodes spelled_fields HasBounds old new result
