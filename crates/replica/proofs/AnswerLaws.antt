-- The same bytes have one answer of a scan.
use Rattle.std.proofs.Common.{◌≡◌, ℕ, ◌^◌, ◌<◌, List, ◌++◌, length, refl, sym, ap, ◌∙◌, arith}
use Rattle.std.specs.Prelude.{Some, Ok, Err}
use Rattle.std.proofs.lemmas.List.{length-append}
use Rattle.cbor_det.specs.Item.{spell}
use Rattle.cbor_det.proofs.SequenceLaws.{spell_unique}
use Rattle.file_laws.proofs.FileLaws.{one_fault, one_file, files_have_none}
use Rattle.file_laws.proofs.SameParts.{header_same}
use Rattle.model.specs.BaseItem.{base_item}
use Rattle.model.specs.Rules as model
use Rattle.model.specs.File.{Kind, member_file, bundle, snapshot, Header, header_item, header_of, spell_base, spell_changes, File, SpellsFile, FileFault, encoding, breaks, trailing}
use Rattle.op_grammar.specs.Rules.{rule_of}
use Rattle.op_grammar.specs.declared.Rule.{Rule}
use Rattle.op_grammar.specs.declared.Rule.TheVariants as r
use Rattle.replica.specs.Empty.{empty_base, base_in}
use Rattle.replica.specs.FaultText.{fault_of}
use Rattle.replica.specs.Scanning.{HasOtherBase, HasEmptyBase, OneAnswer}
use Rattle.replica.specs.declared.fault.BadFile.{BadFile}
use Rattle.replica.specs.declared.fault.BadFile.TheVariants as bad
use Rattle.replica.specs.declared.fault.ScanFault.TheVariants.{Bad, OtherBase, NoMemory}
use Rattle.replica.proofs.HeaderLaws.{header_is_spelled}
use Rattle.replica.proofs.OpeningLaws.{other_first, empty_base_spelled}

-- ---- faults are told apart

rule_back : model.Rule → Rule
rule_back model.F1 = r.F1
rule_back model.F4 = r.F4
rule_back model.F5 = r.F5
rule_back model.F6 = r.F6
rule_back model.B1 = r.B1
rule_back model.B2 = r.B2
rule_back model.B3 = r.B3
rule_back model.B4 = r.B4
rule_back model.B5 = r.B5
rule_back model.B6 = r.B6
rule_back model.G1 = r.G1
rule_back model.G2 = r.G2
rule_back model.G3 = r.G3
rule_back model.G4 = r.G4
rule_back model.G5 = r.G5
rule_back model.G6 = r.G6
rule_back model.G7 = r.G7

rule_again : (q : Rule) → rule_back (rule_of q) ≡ q
unfolding rule_back
rule_again r.F1 = refl
rule_again r.F4 = refl
rule_again r.F5 = refl
rule_again r.F6 = refl
rule_again r.B1 = refl
rule_again r.B2 = refl
rule_again r.B3 = refl
rule_again r.B4 = refl
rule_again r.B5 = refl
rule_again r.B6 = refl
rule_again r.G1 = refl
rule_again r.G2 = refl
rule_again r.G3 = refl
rule_again r.G4 = refl
rule_again r.G5 = refl
rule_again r.G6 = refl
rule_again r.G7 = refl

fault_back : FileFault → BadFile
fault_back (encoding fault) = bad.Cbor fault
fault_back (breaks i q) = bad.Rule i (rule_back q)
fault_back (trailing at) = bad.Trailing at

fault_again : (w : BadFile) → fault_back (fault_of w) ≡ w
unfolding fault_back
fault_again (bad.Cbor fault) = refl
fault_again (bad.Rule i q) = ap (bad.Rule i) (rule_again q)
fault_again (bad.Trailing at) = refl

same_fault : (v w : BadFile) → fault_of v ≡ fault_of w → v ≡ w
same_fault v w e = sym (fault_again v) ∙ ap fault_back e ∙ fault_again w

-- ---- a file with the empty base has no other

no_other : (bytes : List ℕ) (f : File) → length bytes < 2 ^ 32 → SpellsFile bytes f → HasEmptyBase f → HasOtherBase bytes → ⊥
no_other bytes f short s empty o =
    let h = header_of f in
    let rest : List ℕ = spell_base f.base ++ (spell_changes f.kept ++ spell_changes f.waiting) in
    let sizes = length-append (spell (header_item h)) rest in
    let spelled = header_is_spelled h s.is_file.header (omega (arith, ap length s.whole, sizes)) in
    let first = other_first bytes short o (header_item h) rest spelled s.whole in
    let same : o.header ≡ h = header_same o.header h first.0 in
    by_base f.kind (ap (λ (g : Header). g.kind) same) empty first.1 (omega (arith, ap length s.whole, sizes)) (ap (λ (g : Header). g.members) same)
  where
    changes : List ℕ
    changes = spell_changes f.kept ++ spell_changes f.waiting

    with_base : f.base ≡ Some (empty_base f.members) → spell o.item ++ o.left ≡ spell_base f.base ++ (spell_changes f.kept ++ spell_changes f.waiting) → length (spell_base f.base ++ (spell_changes f.kept ++ spell_changes f.waiting)) < 2 ^ 32 → o.header.members ≡ f.members → ⊥
    with_base is e small members =
        let base = base_item (empty_base f.members) in
        let tail : List ℕ = spell_changes f.kept ++ spell_changes f.waiting in
        let there : spell o.item ++ o.left ≡ spell base ++ tail = e ∙ ap (λ b. spell_base b ++ tail) is in
        let spelled = empty_base_spelled f.members (omega (arith, small, ap (λ b. length (spell_base b ++ tail)) is, length-append (spell base) tail)) in
        o.other ((spell_unique o.item base o.left tail o.spelled spelled there).0 ∙ ap (λ n. base_item (empty_base n)) (sym members))

    by_base : (k : Kind) → o.header.kind ≡ k → f.base ≡ base_in k f.members → spell o.item ++ o.left ≡ spell_base f.base ++ (spell_changes f.kept ++ spell_changes f.waiting) → length (spell_base f.base ++ (spell_changes f.kept ++ spell_changes f.waiting)) < 2 ^ 32 → o.header.members ≡ f.members → ⊥
    by_base bundle kind is e small members = o.has_base kind
    by_base member_file kind is e small members = with_base is e small members
    by_base snapshot kind is e small members = with_base is e small members

-- ---- one answer

pub one_answer : OneAnswer
one_answer bytes (Ok f) (Ok g) short a b p q = ap Ok (one_file bytes f g (omega arith) p.0 q.0)
one_answer bytes (Ok f) (Err (Bad w)) short a b p q = absurd (files_have_none bytes f (fault_of w) (omega arith) p.0 q.0)
one_answer bytes (Ok f) (Err OtherBase) short a b p q = absurd (no_other bytes f short p.0 p.1 q)
one_answer bytes (Ok f) (Err NoMemory) short a b p q = absurd (b refl)
one_answer bytes (Err (Bad v)) (Ok g) short a b p q = absurd (files_have_none bytes g (fault_of v) (omega arith) q.0 p.0)
one_answer bytes (Err (Bad v)) (Err (Bad w)) short a b p q = ap (λ z. Err (Bad z)) (same_fault v w (one_fault bytes (fault_of v) (fault_of w) p.0 q.0))
one_answer bytes (Err (Bad v)) (Err OtherBase) short a b p q = absurd (p.1 q)
one_answer bytes (Err (Bad v)) (Err NoMemory) short a b p q = absurd (b refl)
one_answer bytes (Err OtherBase) (Ok g) short a b p q = absurd (no_other bytes g short q.0 q.1 p)
one_answer bytes (Err OtherBase) (Err (Bad w)) short a b p q = absurd (q.1 p)
one_answer bytes (Err OtherBase) (Err OtherBase) short a b p q = refl
one_answer bytes (Err OtherBase) (Err NoMemory) short a b p q = absurd (b refl)
one_answer bytes (Err NoMemory) x short a b p q = absurd (a refl)
