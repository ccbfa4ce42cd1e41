-- A bundle means what the code makes of the file that it is of.
use Rattle.std.proofs.Common.{◌≡◌, ℕ, zero, suc, Bool, false, ltb, List, [], ◌∷◌, ◌++◌, length, map, Option, Some, Result, Ok, refl, sym, ap, rules, ◌∙◌}
use Rattle.std.specs.Prelude.{filter, codes, slice_get, slice_index, unwrap_or}
use Rattle.model.specs.Base.{Base, base_of, members, member_row}
use Rattle.model.specs.Command.{stored_bundle}
use Rattle.model.specs.File.{File, Kind, member_file, bundle, snapshot, spell_file}
use Rattle.model.specs.Held.{held_behind}
use Rattle.model.specs.Reading.{base_in}
use Rattle.model.specs.Text.{field}
use Rattle.replica.specs.Empty.{base_in as base_of_kind}
use Rattle.replica.specs.Scanning.{HasEmptyBase}
use Rattle.outline_meaning.specs.declared.status.Status.{Status}
use Rattle.outline_meaning.specs.Meaning.{exactly, Roles, reads_and_makes}
use Rattle.outline_meaning.specs.Outcome.{Outcome, storing, same_document, cut_off, trimmed_told, bundled}
use Rattle.outline_meaning.specs.Follows.{Refuses}
use Rattle.outline_cmd.specs.Tasks.{answering}
use Rattle.outline_cmd.proofs.InputLaws.{step_refuses}
use Rattle.outline_meaning.proofs.StepLaws.{on}

-- ---- nothing was trimmed behind the empty base

row_counts_none : (n : ℕ) (ms : List ℕ) (m : ℕ) → (unwrap_or (slice_get (map (member_row n []) ms) m) (record { count = 0; last = 0; known = [] })).count ≡ 0
row_counts_none n [] m = refl
row_counts_none n (k ∷ ms) zero = refl
row_counts_none n (k ∷ ms) (suc m) = row_counts_none n ms m

none_pass : (p : ℕ → Bool) → ((m : ℕ) → p m ≡ false) → (ms : List ℕ) → filter p ms ≡ []
none_pass p fails [] = refl
none_pass p fails (m ∷ ms) = rw (fails m) (none_pass p fails ms)

none_below : (n : ℕ) → ltb n 0 ≡ false
none_below n = search rules

none_cut_by : (f : File) (vector : List ℕ) (b : Base) → b ≡ base_of f.members [] 0 → filter (λ m. ltb (slice_index vector m) ((held_behind b []).row m).count) (members f.members) ≡ []
none_cut_by f vector b is =
    none_pass (λ m. ltb (slice_index vector m) ((held_behind b []).row m).count)
    (λ m. ap (λ (c : Base). ltb (slice_index vector m) ((held_behind c []).row m).count) is ∙ ap (ltb (slice_index vector m)) (row_counts_none f.members (members f.members) m)
    ∙ none_below (slice_index vector m)) (members f.members)

base_by_kind : (n : ℕ) (k : Kind) → unwrap_or (base_of_kind k n) (base_of n [] 0) ≡ base_of n [] 0
base_by_kind n member_file = refl
base_by_kind n bundle = refl
base_by_kind n snapshot = refl

none_cut : (f : File) (vector : List ℕ) → HasEmptyBase f → cut_off f vector ≡ []
none_cut f vector empty = none_cut_by f vector (base_in f) (ap (λ (b : Option Base). unwrap_or b (base_of f.members [] 0)) empty ∙ base_by_kind f.members f.kind)

-- ---- what is stored

abbrev last : File → List ℕ → Result Outcome Status
last f vector = storing (stored_bundle f vector) (codes "changes" ++ (field (length (stored_bundle f vector).kept) ++ codes "\n"))

bundle_is : (f : File) (vector : List ℕ) → HasEmptyBase f → Ok tt ≡ same_document f f.document (length vector) → last f vector ≡ bundled vector f
bundle_is f vector empty same =
    ap (λ (ms : List ℕ). on (trimmed_told f vector (slice_get ms 0)) (λ v. last f vector)) (sym (none_cut f vector empty))
    ∙ ap (λ p. on p (λ u. on (trimmed_told f vector (slice_get (cut_off f vector) 0)) (λ v. last f vector))) same

-- The bundle is stored under the new name, and how many changes it has is printed.
pub bundle_means : (name out : List ℕ) (f : File) (vector text bytes : List ℕ) → HasEmptyBase f → Ok tt ≡ same_document f f.document (length vector)
    → text ≡ codes "changes" ++ (field (length (stored_bundle f vector).kept) ++ codes "\n") → bytes ≡ spell_file (stored_bundle f vector)
    → answering (reads_and_makes name 3 out) (exactly (bundled vector f)) (Ok (record { text = text; store = Some (record { word = 3; name = out; bytes = bytes }) }))
bundle_means name out f vector text bytes empty same lines spells = (last f vector, bundle_is f vector empty same, λ i. Ok (record { text = lines i; store = Some (record { word = 3; name = out; bytes = spells i }) }))

-- A vector of so many members that it is of another document is refused.
pub bundle_apart : (r : Roles) (f : File) (vector : List ℕ) (refusal : Status) → Refuses (exactly (same_document f f.document (length vector))) refusal → Refuses (answering r (exactly (bundled vector f))) refusal
bundle_apart r f vector refusal h =
    step_refuses r (same_document f f.document (length vector)) (λ u. on (trimmed_told f vector (slice_get (cut_off f vector) 0)) (λ v. last f vector)) refusal h
