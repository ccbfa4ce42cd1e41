-- What is counted on the way through a command.
use Rattle.std.proofs.Common.{◌≡◌, ℕ, ◌+◌, ◌*◌, ◌≤◌, List, Ok, inl, inr, refl, sym, subst, ◌∙◌, arith}
use Rattle.std.specs.Prelude.{sum_by}
use Rattle.outside.specs.Work.{Work}
use Rattle.model.specs.Change.{Change}
use Rattle.model.specs.Command.{edit, show, deliver}
use Rattle.model.specs.Cost.{move_count}
use Rattle.model.specs.File.{File}
use Rattle.model.specs.Stands.{IsStored}
use Rattle.doc_store.specs.Documents.{DecodesSome}
use Rattle.member_replica.specs.Work.{operations_in, readied_in}
use Rattle.outline_words.specs.Table.{Order, command}
use Rattle.outline_meaning.specs.Meaning.{Loaded, whole, Loads, input_bytes, roles}
use Rattle.outline_cmd.specs.Tasks.{over}
use Rattle.outline_meaning.specs.Works.{AtMost, BringsFile, ReadsOne, ReadsTwo, OrderWorks}
use Rattle.outline_meaning.proofs.MeaningLaws.{read_is}

-- ---- bounds

-- Where nothing is counted, it is within any bound.
pub decodes_none : (work : Work) (most : ℕ) → DecodesSome work work most
decodes_none work most = record { moves = refl; rose = omega arith; bound = omega arith }

-- Operations are decoded, and no move is done.
pub only_decodes : (before now : Work) (decodes does : ℕ) → DecodesSome before now decodes → AtMost before now decodes does
only_decodes before now decodes does some = record { operations_rose = some.rose; operations = some.bound; moves_rose = omega arith; moves = omega arith }

-- Operations are decoded, and then moves done.
decodes_and_moves : (before mid now : Work) (decodes does : ℕ) → DecodesSome before mid decodes → mid.moves ≤ now.moves → now.moves ≤ mid.moves + does → now.decoded ≡ mid.decoded → AtMost before now decodes does
decodes_and_moves before mid now decodes does some rose bound same = record { operations_rose = omega arith; operations = omega arith; moves_rose = omega arith; moves = omega arith }

-- ---- a file that is read

-- It is built up, and that is all.
pub reads_only : (bytes : List ℕ) (second : Loaded) (f : File) (before now : Work) → IsStored bytes f → DecodesSome before now (2 * operations_in f.kept) → ReadsOne (over bytes second) before now
reads_only bytes second f before now stored some = inr (f, stored, only_decodes before now (2 * operations_in f.kept) (sum_by move_count f.kept) some)

-- It is built up, and the moves of what was built are done.
pub reads_and_moves : (bytes : List ℕ) (second : Loaded) (f built : File) (before mid now : Work) → IsStored bytes f → built ≡ f → DecodesSome before mid (2 * operations_in f.kept)
    → mid.moves ≤ now.moves → now.moves ≤ mid.moves + sum_by move_count built.kept → now.decoded ≡ mid.decoded → ReadsOne (over bytes second) before now
reads_and_moves bytes second f built before mid now stored is some rose bound same =
    let within = subst (λ (g : File). now.moves ≤ mid.moves + sum_by move_count g.kept) is bound in
    inr (f, stored, decodes_and_moves before mid now (2 * operations_in f.kept) (sum_by move_count f.kept) some rose within same)

-- It is built up but no more is read, though more may be.
pub builds_only : (f : File) (more : ℕ) (before now : Work) → DecodesSome before now (2 * operations_in f.kept) → DecodesSome before now (2 * operations_in f.kept + more)
builds_only f more before now some = let bound = some.bound in record { moves = some.moves; rose = some.rose; bound = omega arith }

-- It is built up, and what was built receives the changes of another.
pub builds_and_receives : (f built : File) (offered : List Change) (before mid now : Work) → built ≡ f → DecodesSome before mid (2 * operations_in f.kept) → DecodesSome mid now (2 * operations_in (readied_in built offered))
    → DecodesSome before now (2 * operations_in f.kept + 2 * operations_in (readied_in f offered))
builds_and_receives f built offered before mid now is some received =
    let more = subst (λ (g : File). DecodesSome mid now (2 * operations_in (readied_in g offered))) is received in
    record { moves = more.moves ∙ some.moves; rose = omega arith; bound = omega arith }

-- A load that brought bytes brings the file that they spell.
pub brings_whole : (load : Loaded) (bytes : List ℕ) (f : File) → load ≡ whole bytes → IsStored bytes f → BringsFile load f
brings_whole load bytes f is stored = subst (λ (l : Loaded). BringsFile l f) (sym is) stored

-- ---- orders

-- An order may do nothing.
pub idle : (order : Order) (loads : Loads) (work : Work) → OrderWorks order loads work work
idle (command (edit name e)) loads work = inl refl
idle (command (show name)) loads work = inl refl
idle (command (deliver name offered)) loads work = inl refl
idle _ loads work = refl

-- What is counted over the bytes of its file is what is counted where they are loaded.
pub loaded_work : (order : Order) (loads : Loads) (bytes : List ℕ) (before now : Work) → input_bytes (roles order).input loads.input ≡ Ok bytes → OrderWorks order (over bytes loads.second) before now → OrderWorks order loads before now
loaded_work (command (edit name e)) loads bytes before now reads works = subst (λ (load : Loaded). ReadsOne (record loads { input = load }) before now) (sym (read_is 1 loads.input bytes (sym reads)).0) works
loaded_work (command (show name)) loads bytes before now reads works = subst (λ (load : Loaded). ReadsOne (record loads { input = load }) before now) (sym (read_is 1 loads.input bytes (sym reads)).0) works
loaded_work (command (deliver name offered)) loads bytes before now reads works = subst (λ (load : Loaded). ReadsTwo (record loads { input = load }) before now) (sym (read_is 1 loads.input bytes (sym reads)).0) works
loaded_work _ loads bytes before now reads works = works
