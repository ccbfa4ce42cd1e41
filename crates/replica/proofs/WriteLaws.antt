-- What the writers of a file append is the spelling of its parts.
use Rattle.std.proofs.Common.{◌≡◌, ℕ, ◌+◌, ◌<◌, ◌≤◌, List, [], ◌++◌, length, take, get_or, refl, sym, ap, ◌∙◌, append_assoc, arith}
use Rattle.std.specs.Prelude.{flat_map, codes, slice_get, Some}
use Rattle.std.proofs.lemmas.List.{append-nil, flat_map_more, take_more, take_all}
use Rattle.cbor_det.specs.Head.{head}
use Rattle.cbor_det.specs.Item as cbor
use Rattle.cbor_det.specs.Item.{spell}
use Rattle.model.specs.Value.{numbers_item}
use Rattle.model.specs.Change.{Change, change_item}
use Rattle.model.specs.File.{Kind, member_file, bundle, snapshot, kind_number, header_of, header_item, spell_base, spell_changes, spell_file, File, IsFile}
use Rattle.replica.specs.Empty.{base_in}
use Rattle.replica.specs.Heads.{kind_of, header_by, head_of, base_by}
use Rattle.replica.specs.Scanning.{HasEmptyBase}
use Rattle.replica.specs.declared.head.FileHead.{FileHead}
use Rattle.replica.proofs.EmptyItem.{numbers_spelled}
use Rattle.replica.proofs.HeaderLaws.{kind_again}
use Rattle.replica.proofs.PartLaws.{take_next}

-- ---- lists

-- The next number is appended.
pub numbers_more : (bytes ns : List ℕ) (i : ℕ) → i < length ns → (bytes ++ flat_map (head 0) (take i ns)) ++ head 0 (get_or ns i 0) ≡ bytes ++ flat_map (head 0) (take (i + 1) ns)
numbers_more bytes ns i lt = flat_map_more (head 0) bytes (take i ns) (get_or ns i 0) ∙ ap (λ ks. bytes ++ flat_map (head 0) ks) (sym (take_more ns i 0 lt))

-- The head of a list and its numbers are the list.
pub numbers_written : (bytes ns : List ℕ) (i : ℕ) → length ns ≤ i → bytes ++ head 4 (length ns) ++ flat_map (head 0) (take i ns) ≡ bytes ++ spell (numbers_item ns)
numbers_written bytes ns i all =
    append_assoc bytes (head 4 (length ns)) (flat_map (head 0) (take i ns)) ∙ ap (λ ks. bytes ++ (head 4 (length ns) ++ flat_map (head 0) ks)) (take_all i ns all) ∙ ap (λ t. bytes ++ t) (sym (numbers_spelled ns))

-- The next change is appended.
pub changes_more : (bytes : List ℕ) (cs : List Change) (i : ℕ) (c : Change) → slice_get cs i ≡ Some c → (bytes ++ spell_changes (take i cs)) ++ spell (change_item c) ≡ bytes ++ spell_changes (take (i + 1) cs)
changes_more bytes cs i c e = flat_map_more (λ d. spell (change_item d)) bytes (take i cs) c ∙ ap (λ ds. bytes ++ spell_changes ds) (sym (take_next cs i c e))

-- ---- the header

pub header_written : (bytes : List ℕ) (h : FileHead) → h.kind ≤ 2
    → bytes ++ head 4 8 ++ spell (cbor.text (codes "outline")) ++ head 0 1 ++ head 0 h.kind ++ spell (cbor.bytes h.doc.id) ++ head 0 h.doc.n ++ spell (numbers_item h.mine) ++ head 0 h.kept ++ head 0 h.waiting
    ≡ bytes ++ spell (header_item (header_by h))
header_written bytes h le =
    ap (λ k. bytes ++ head 4 8 ++ spell (cbor.text (codes "outline")) ++ head 0 1 ++ head 0 k ++ spell (cbor.bytes h.doc.id) ++ head 0 h.doc.n ++ spell (numbers_item h.mine) ++ head 0 h.kept ++ head 0 h.waiting) (sym (kind_again h.kind (omega arith)))
    ∙ simp (append_assoc, append-nil)

-- ---- the whole file

kind_back : (k : Kind) → kind_of (kind_number k) ≡ k
kind_back member_file = refl
kind_back bundle = refl
kind_back snapshot = refl

pub file_written : (f : File) → IsFile f → HasEmptyBase f
    → [] ++ spell (header_item (header_by (head_of f))) ++ spell_base (base_by (head_of f)) ++ spell_changes f.kept ++ spell_changes f.waiting ≡ spell_file f
file_written f is empty =
    let k = kind_back f.kind in
    let one = is.header.version in
    let first : header_by (head_of f) ≡ header_of f = λ i. record { version = sym one i; kind = k i; document = f.document; members = f.members; mine = f.mine; kept = length f.kept; waiting = length f.waiting } in
    let base : base_by (head_of f) ≡ f.base = ap (λ q. base_in q f.members) k ∙ sym empty in
    let front = spell (header_item (header_of f)) in
    ap (λ h. spell (header_item h) ++ spell_base (base_by (head_of f)) ++ spell_changes f.kept ++ spell_changes f.waiting) first
    ∙ ap (λ b. front ++ spell_base b ++ spell_changes f.kept ++ spell_changes f.waiting) base
    ∙ append_assoc (front ++ spell_base f.base) (spell_changes f.kept) (spell_changes f.waiting) ∙ append_assoc front (spell_base f.base) (spell_changes f.kept ++ spell_changes f.waiting)
