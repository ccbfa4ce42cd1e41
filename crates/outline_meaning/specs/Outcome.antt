-- What a command makes of the file values that it reads: a text to print and a file to store, or its refusal. Steps are read in their
-- order, and the first that refuses ends them.
use Rattle.std.specs.Prelude.{ℕ, ◌+◌, ◌==◌, ◌&&◌, Bool, nat_lt, not, if◌then◌else◌, List, [], ◌∷◌, ◌++◌, codes, length, filter, flat_map, slice_get, slice_index, Option, Some, None, Result, Ok, Err, bytes_eq}
use Rattle.std.specs.List.{list_any}
use Rattle.std.specs.Option.{option_map_or}
use Rattle.model.specs.Change.{Change}
use Rattle.model.specs.Base.{members}
use Rattle.model.specs.Held as held
use Rattle.model.specs.Held.{Refused, held_behind}
use Rattle.model.specs.File.{File, Kind, member_file, bundle, snapshot, kind_number}
use Rattle.model.specs.Edit as edits
use Rattle.model.specs.Edit.{Edit, WrongEdit}
use Rattle.model.specs.Command.{Unmade, nobody, wrong, clock_full, made_edit, made_acks, new_file, stored_bundle, stored_released, stored_begun}
use Rattle.model.specs.Reading.{base_in, held_in, state_in, unfit_in, vector_in, horizon_in, with_changes, settled_in, with_settled, trimmed_in, snapshot_in}
use Rattle.model.specs.View.{view}
use Rattle.model.specs.Text.{field, hex, numbers_text, show_text, holds_line, made_line, trimmed_line, log_text, report_text}
use Rattle.replica.specs.declared.head.DocRef.{DocRef}
use Rattle.replica.specs.declared.fault.MemberFault.TheVariants.{NoMember, NotHeld, Held, Nobody}
use Rattle.doc_store.specs.declared.edit.EditFault.{EditFault}
use Rattle.doc_store.specs.declared.edit.EditFault.TheVariants.{NoNode, NoIndex, Cycle, Fixed, NoChars, Empty, TooLong}
use Rattle.replica.specs.declared.fault.Misfit.{Misfit}
use Rattle.replica.specs.declared.fault.Misfit.TheVariants.{A0, A1, A2, A3, A4}
use Rattle.outline_meaning.specs.declared.status.Status.{Status}
use Rattle.outline_meaning.specs.declared.status.Status.TheVariants as s

pub record Outcome : Type 0 where
  pub text : List ℕ
  pub stored : Option File

abbrev pub printed : List ℕ → Result Outcome Status
printed text = Ok (record { text = text; stored = None })

abbrev pub storing : File → List ℕ → Result Outcome Status
storing f text = Ok (record { text = text; stored = Some f })

-- a step, and then the next one on what it gives
infixl 10 ◌>>=◌
abbrev pub ◌>>=◌ : {A B : Type 0} → Result A Status → (A → Result B Status) → Result B Status
(Ok x) >>= next = next x
(Err refusal) >>= next = Err refusal

-- goes on where the test holds
abbrev pub provided : Bool → Status → Result Unit Status
provided test refusal = if test then Ok tt else Err refusal

-- ---- refusals

-- The reasons of the definitions, as statuses name them.
abbrev pub misfit_told : held.Misfit → Misfit
misfit_told (held.lacks_cause k cause count) = A0 k cause count
misfit_told (held.not_later time last) = A1 time last
misfit_told (held.forgets k cause before) = A2 k cause before
misfit_told (held.before_cause k cause_time time) = A3 k cause_time time
misfit_told (held.refers_wrongly place id) = A4 place id

abbrev pub edit_fault_told : edits.EditFault → EditFault
edit_fault_told edits.no_node = NoNode
edit_fault_told edits.no_index = NoIndex
edit_fault_told edits.cycle = Cycle
edit_fault_told edits.fixed = Fixed
edit_fault_told edits.no_characters = NoChars
edit_fault_told edits.is_empty = Empty
edit_fault_told edits.too_long = TooLong

abbrev pub unmade_told : Unmade → Status
unmade_told nobody = s.Member Nobody
unmade_told (wrong w) = s.Edit (edit_fault_told w.fault) w.word
unmade_told (clock_full time member count) = s.ClockFull time member count

-- what was made, or why nothing was
abbrev pub told : {A : Type 0} → Result A Unmade → Result A Status
told (Ok made) = Ok made
told (Err e) = Err (unmade_told e)

-- The file, which a word names, of a kind that is taken.
abbrev pub of_kind : ℕ → List Kind → File → Result File Status
of_kind word kinds f = do
  u ← provided (list_any (λ k. kind_number k == kind_number f.kind) kinds) (s.OtherKind word (kind_number f.kind))
  Ok f

abbrev pub refused_told : ℕ → Option Refused → Result Unit Status
refused_told word None = Ok tt
refused_told word (Some r) = Err (s.Unfit word r.name.member r.name.number (misfit_told r.misfit))

-- Each kept change was ready and fits the base and the ones before it.
abbrev pub fitting : ℕ → File → Result Unit Status
fitting word f = refused_told word (unfit_in f)

abbrev pub document_ref : List ℕ → ℕ → DocRef
document_ref id n = record { id = id; n = n }

-- The document of a file, and another one.
abbrev pub same_document : File → List ℕ → ℕ → Result Unit Status
same_document f id n = provided (bytes_eq f.document id && f.members == n) (s.OtherDocument (document_ref f.document f.members) (document_ref id n))

-- a member of the document
abbrev pub member_of : ℕ → File → Result Unit Status
member_of m f = provided (nat_lt m f.members) (s.Member (NoMember m f.members))

abbrev pub holds : ℕ → File → Bool
holds m f = list_any (λ k. k == m) f.mine

-- The file holds a member.
abbrev pub held_by_some : File → Result Unit Status
held_by_some f = provided (not (length f.mine == 0)) (s.Member Nobody)

-- ---- commands

abbrev pub founded : List ℕ → ℕ → Result Outcome Status
founded document n = storing (new_file document n) (holds_line (members n))

abbrev pub with_made_lines : File → List Change → Result Outcome Status
with_made_lines f cs = storing (with_changes f cs) (flat_map made_line cs)

abbrev pub edited : Edit → File → Result Outcome Status
edited e f = do
  u ← held_by_some f
  v ← fitting 1 f
  cs ← told (made_edit f.members (held_in f) f.mine e)
  with_made_lines f cs

abbrev pub acknowledged : File → Result Outcome Status
acknowledged f = do
  cs ← told (made_acks f.members (held_behind (base_in f)) f.kept f.mine)
  with_made_lines f cs

abbrev pub shown : File → Result Outcome Status
shown f = do
  u ← fitting 1 f
  printed (show_text (view (state_in f)))

-- the heads of a file, a line each
abbrev pub status_text : File → List ℕ
status_text f =
    codes "document " ++ (hex f.document ++ (codes "\nmembers" ++ (field f.members ++ (codes "\n" ++ (holds_line f.mine
    ++ (codes "vector " ++ (numbers_text (vector_in f) ++ (codes "\nhorizon" ++ (field (base_in f).horizon ++ (codes "\nnext" ++ (field (horizon_in f)
    ++ (codes "\nkept" ++ (field (length f.kept) ++ (codes "\nwaiting" ++ (field (length f.waiting) ++ codes "\n")))))))))))))))

abbrev pub listed : File → Result Outcome Status
listed f = printed (log_text f.kept f.waiting)

-- The members whose changes in the base are more than are counted.
abbrev pub cut_off : File → List ℕ → List ℕ
cut_off f vector = filter (λ m. nat_lt (slice_index vector m) ((held_behind (base_in f) []).row m).count) (members f.members)

abbrev pub trimmed_told : File → List ℕ → Option ℕ → Result Unit Status
trimmed_told f vector None = Ok tt
trimmed_told f vector (Some m) = Err (s.Trimmed m (slice_index vector m) ((held_behind (base_in f) []).row m).count)

abbrev pub bundled : List ℕ → File → Result Outcome Status
bundled vector f = do
  u ← same_document f f.document (length vector)
  v ← trimmed_told f vector (slice_get (cut_off f vector) 0)
  let b = stored_bundle f vector
  storing b (codes "changes" ++ (field (length b.kept) ++ codes "\n"))

abbrev pub delivered : File → File → Result Outcome Status
delivered f offered = do
  u ← same_document f offered.document offered.members
  v ← fitting 1 f
  let settled = settled_in f offered.kept
  storing (with_settled f settled) (report_text settled.report (length settled.pool))

abbrev pub trimmed : File → Result Outcome Status
trimmed f = do
  u ← fitting 1 f
  storing (trimmed_in f) (trimmed_line (horizon_in f) (length (trimmed_in f).kept))

abbrev pub snapped : File → Result Outcome Status
snapped f = do
  u ← fitting 1 f
  storing (snapshot_in f) (trimmed_line (horizon_in f) (length (snapshot_in f).kept))

abbrev pub released : ℕ → File → Result Outcome Status
released m f = do
  u ← member_of m f
  v ← provided (holds m f) (s.Member (NotHeld m))
  storing (stored_released f m) (holds_line (stored_released f m).mine)

abbrev pub begun : ℕ → File → Result Outcome Status
begun m f = do
  u ← member_of m f
  v ← provided (not (holds m f)) (s.Member (Held m))
  storing (stored_begun f m) (holds_line (m ∷ []))

-- how many items a file has
abbrev pub item_count : File → ℕ
item_count f = 1 + (option_map_or (λ b. 1) f.base 0 + (length f.kept + length f.waiting))

abbrev pub valid_line : File → List ℕ
valid_line f = codes "valid kind" ++ (field (kind_number f.kind) ++ (codes " items" ++ (field (item_count f) ++ codes "\n")))

-- A bundle is looked at by itself: what its changes join isn't known.
abbrev pub fitting_by_kind : Kind → File → Result Unit Status
fitting_by_kind bundle f = Ok tt
fitting_by_kind member_file f = fitting 1 f
fitting_by_kind snapshot f = fitting 1 f

abbrev pub checked : File → Result Outcome Status
checked f = do
  u ← fitting_by_kind f.kind f
  printed (valid_line f)
