-- A delivery means what the code makes of its two files.
use Rattle.std.proofs.Common.{◌≡◌, ℕ, ◌≤◌, true, eqb, List, [], ◌∷◌, length, Some, Result, Ok, Err, refl, ap, ◌∙◌}
use Rattle.std.specs.List.{list_any}
use Rattle.model.specs.File.{File, Kind, member_file, bundle, snapshot, kind_number, file_limit, spell_file}
use Rattle.model.specs.Reading.{settled_in, with_settled}
use Rattle.model.specs.Text.{report_text}
use Rattle.outline_cmd.specs.declared.answer.Answer.{Answer as AnswerStruct}
use Rattle.outline_meaning.specs.declared.status.Status.{Status}
use Rattle.outline_meaning.specs.declared.status.Status.TheVariants as s
use Rattle.outline_meaning.specs.Meaning.{◌>>=◌, exactly, Roles, reads_two, Loaded, whole, read, opened, file_of, delivered_to, member_files, Answer}
use Rattle.outline_meaning.specs.Outcome.{Outcome, storing, same_document, fitting, delivered}
use Rattle.outline_meaning.specs.Follows.{Refuses, Follows}
use Rattle.outline_cmd.specs.Stages.{answer_of}
use Rattle.outline_cmd.specs.Tasks.{over, answering}
use Rattle.outline_meaning.proofs.LedgerMeaning.{kind_passed}
use Rattle.outline_cmd.proofs.InputLaws.{step_refuses}
use Rattle.outline_input.proofs.Loads.{read_held}
use Rattle.outline_meaning.proofs.StageLaws.{refuses_first, refuses_next, refuses_on, refuses_behind, follows_by}
use Rattle.outline_meaning.proofs.StepLaws.{on}

-- ---- two files

abbrev pub bundles : List Kind
bundles = bundle ∷ []

only_members : (k : Kind) → list_any (λ l. eqb (kind_number l) (kind_number k)) member_files ≡ true → k ≡ member_file
only_members member_file e = refl
only_members bundle e = absurd cc
only_members snapshot e = absurd cc

pub member_opened : (bytes : List ℕ) (f : File) → opened 1 member_files bytes (Ok f) → f.kind ≡ member_file
member_opened bytes f (Ok g, scans, e) =
    let p = kind_passed (list_any (λ l. eqb (kind_number l) (kind_number g.kind)) member_files) f g (s.OtherKind 1 (kind_number g.kind)) e in
    ap (λ (h : File). h.kind) p.1 ∙ only_members g.kind p.0
member_opened bytes f (Err q, scans, e) = absurd cc

-- What is wrong with the first is told.
pub first_refused : (r : Roles) (bytes : List ℕ) (load : Loaded) (refusal : Status) → length bytes ≤ file_limit → Refuses (opened 1 member_files bytes) refusal → Refuses (answering r (delivered_to (over bytes load))) refusal
first_refused r bytes load refusal short h =
    refuses_first (delivered_to (over bytes load)) _ refusal
    (refuses_first (file_of 1 member_files (whole bytes)) _ refusal (refuses_next (exactly (read 1 (whole bytes))) (opened 1 member_files) bytes refusal (read_held 1 bytes short) h))

-- What is wrong with the second is told behind that.
pub second_refused : (r : Roles) (bytes : List ℕ) (load : Loaded) (f : File) (refusal : Status) → length bytes ≤ file_limit → opened 1 member_files bytes (Ok f) → Refuses (file_of 2 bundles load) refusal → Refuses (answering r (delivered_to (over bytes load))) refusal
second_refused r bytes load f refusal short opens h =
    refuses_first (delivered_to (over bytes load)) _ refusal
    (refuses_next (file_of 1 member_files (whole bytes)) (λ g. file_of 2 bundles load >>= λ o. exactly (delivered g o)) f refusal (Ok bytes, read_held 1 bytes short, opens) (refuses_first (file_of 2 bundles load) _ refusal h))

both_read : (r : Roles) (bytes : List ℕ) (load : Loaded) (f offered : File) → length bytes ≤ file_limit → opened 1 member_files bytes (Ok f) → file_of 2 bundles load (Ok offered) → (outcome : Result Answer Status)
    → answering r (exactly (delivered f offered)) outcome → answering r (delivered_to (over bytes load)) outcome
both_read r bytes load f offered short opens offers outcome (step, is, rest) = (step, (Ok f, (Ok bytes, read_held 1 bytes short, opens), (Ok offered, offers, is)), rest)

-- What is made of both is what is meant.
pub both_follow : (r : Roles) (bytes : List ℕ) (load : Loaded) (f offered : File) (result : Result AnswerStruct Status) → length bytes ≤ file_limit → opened 1 member_files bytes (Ok f) → file_of 2 bundles load (Ok offered)
    → Follows answer_of result (answering r (exactly (delivered f offered))) → Follows answer_of result (answering r (delivered_to (over bytes load)))
both_follow r bytes load f offered result short opens offers h =
    follows_by answer_of (answering r (exactly (delivered f offered))) (answering r (delivered_to (over bytes load))) result (both_read r bytes load f offered short opens offers) h

-- ---- what is delivered

abbrev last : File → File → Result Outcome Status
last f offered = storing (with_settled f (settled_in f offered.kept)) (report_text (settled_in f offered.kept).report (length (settled_in f offered.kept).pool))

-- to a file of another document
pub delivery_apart : (r : Roles) (f offered : File) (refusal : Status) → Refuses (exactly (same_document f offered.document offered.members)) refusal → Refuses (answering r (exactly (delivered f offered))) refusal
delivery_apart r f offered refusal h = step_refuses r (same_document f offered.document offered.members) (λ u. on (fitting 1 f) (λ v. last f offered)) refusal h

-- to one whose changes don't fit
pub delivery_unfit : (r : Roles) (f offered : File) (refusal : Status) → Ok tt ≡ same_document f offered.document offered.members → Refuses (exactly (fitting 1 f)) refusal → Refuses (answering r (exactly (delivered f offered))) refusal
delivery_unfit r f offered refusal same h =
    refuses_first (exactly (delivered f offered)) _ refusal
    (refuses_behind (same_document f offered.document offered.members) (λ u. on (fitting 1 f) (λ v. last f offered)) tt refusal same (refuses_on (fitting 1 f) (λ v. last f offered) refusal h))

delivery_is : (f offered : File) → Ok tt ≡ same_document f offered.document offered.members → Ok tt ≡ fitting 1 f → last f offered ≡ delivered f offered
delivery_is f offered same fits = ap (λ p. on p (λ v. last f offered)) fits ∙ ap (λ p. on p (λ u. on (fitting 1 f) (λ v. last f offered))) same

-- The file that was settled is stored, and the report printed.
pub delivery_means : (name other : List ℕ) (f offered : File) (text bytes : List ℕ) → Ok tt ≡ same_document f offered.document offered.members → Ok tt ≡ fitting 1 f
    → text ≡ report_text (settled_in f offered.kept).report (length (settled_in f offered.kept).pool) → bytes ≡ spell_file (with_settled f (settled_in f offered.kept))
    → answering (reads_two name other) (exactly (delivered f offered)) (Ok (record { text = text; store = Some (record { word = 1; name = name; bytes = bytes }) }))
delivery_means name other f offered text bytes same fits lines spells = (last f offered, delivery_is f offered same fits, λ i. Ok (record { text = lines i; store = Some (record { word = 1; name = name; bytes = spells i }) }))
