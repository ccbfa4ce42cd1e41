-- The stages of opening a file answer what they mean.
use Rattle.std.proofs.Common.{◌≡◌, ◌≢◌, ℕ, ◌≤◌, Bool, true, eqb, ◌||◌, List, ◌∷◌, [], map, length, Ok, Err, refl, sym, ap, ◌∙◌}
use Rattle.std.specs.List.{list_any}
use Rattle.model.specs.File.{File, Kind, member_file, bundle, snapshot, kind_number, file_limit}
use Rattle.replica.specs.Scanning.{ScanAnswer}
use Rattle.outline_meaning.specs.declared.status.Status.TheVariants as s
use Rattle.outline_meaning.specs.Meaning.{scanned, opened, member_files, based_files}
use Rattle.outline_meaning.specs.Opened.{IsScanned, AreKinds}
use Rattle.outline_meaning.specs.Outcome.{provided, of_kind}
use Rattle.outline_meaning.proofs.BaseLaws.{no_other_base}
use Rattle.outline_meaning.proofs.LedgerMeaning.{kind_passed}
use Rattle.outline_meaning.proofs.StepLaws.{on}

-- ---- scanning

pub scan_is : (bytes : List ℕ) (f : File) → length bytes ≤ file_limit → ScanAnswer bytes (Ok f) → IsScanned bytes f
scan_is bytes f short found = record { stored = record { spells = found.0; most = short }; base = found.1 }

pub scan_means : (word : ℕ) (bytes : List ℕ) (f : File) → length bytes ≤ file_limit → ScanAnswer bytes (Ok f) → scanned word bytes (Ok f)
scan_means word bytes f short found = (Ok tt, no_other_base bytes f short found.0 found.1, record { spells = found.0; most = short })

-- ---- kinds

pub kind_is : (word kind : ℕ) (f : File) (kinds : List Kind) (b : Bool) → kind ≡ kind_number f.kind → list_any (λ l. eqb (kind_number l) (kind_number f.kind)) kinds ≡ b → of_kind word kinds f ≡ on (provided b (s.OtherKind word kind)) (λ u. Ok f)
kind_is word kind f kinds b is among = (λ i. on (provided (among i) (s.OtherKind word (sym is i))) (λ u. Ok f))

pub numbers_any : (kind : ℕ) (kinds : List Kind) → list_any (λ k. eqb k kind) (map kind_number kinds) ≡ list_any (λ l. eqb (kind_number l) kind) kinds
numbers_any kind [] = refl
numbers_any kind (k ∷ kinds) = ap (λ b. eqb (kind_number k) kind || b) (numbers_any kind kinds)

-- whether a kind is among those that are taken
pub kind_among : (kind : ℕ) (numbers : List ℕ) (f : File) (kinds : List Kind) (b : Bool) → kind ≡ kind_number f.kind → AreKinds numbers kinds → b ≡ list_any (λ k. eqb k kind) numbers → list_any (λ l. eqb (kind_number l) (kind_number f.kind)) kinds ≡ b
kind_among kind numbers f kinds b is are found =
    ap (λ k. list_any (λ l. eqb (kind_number l) k) kinds) (sym is) ∙ sym (numbers_any kind kinds) ∙ ap (list_any (λ k. eqb k kind)) (sym are) ∙ sym found

-- ---- what is opened

pub not_among_based : (k : Kind) → list_any (λ l. eqb (kind_number l) (kind_number k)) based_files ≡ true → k ≢ bundle
not_among_based member_file e is = cc
not_among_based bundle e is = absurd cc
not_among_based snapshot e is = cc

pub not_among_members : (k : Kind) → list_any (λ l. eqb (kind_number l) (kind_number k)) member_files ≡ true → k ≢ bundle
not_among_members member_file e is = cc
not_among_members bundle e is = absurd cc
not_among_members snapshot e is = absurd cc

-- A file of these kinds has a base.
pub opened_based : (word : ℕ) (bytes : List ℕ) (kinds : List Kind) (f : File) → ((k : Kind) → list_any (λ l. eqb (kind_number l) (kind_number k)) kinds ≡ true → k ≢ bundle) → opened word kinds bytes (Ok f) → f.kind ≢ bundle
opened_based word bytes kinds f based (Ok g, scans, e) =
    let p = kind_passed (list_any (λ l. eqb (kind_number l) (kind_number g.kind)) kinds) f g (s.OtherKind word (kind_number g.kind)) e in
    λ is. based g.kind p.0 (ap (λ (h : File). h.kind) (sym p.1) ∙ is)
opened_based word bytes kinds f based (Err q, scans, e) = absurd cc
