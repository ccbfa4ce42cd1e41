-- What this version takes. Everything else is answered by NotBuilt, and stands here alone.
use Rattle.std.specs.Prelude.{◌≡◌, ℕ, Bool, false, not, List, [], ◌∷◌, codes, Result, Ok, Err, bytes_eq}
use Rattle.std.specs.List.{list_any}
use Rattle.model.specs.Command.{found, edit, ack, show, bundle_since, deliver, items}
use Rattle.replica.specs.Scanning.{HasOtherBase}
use Rattle.outline_words.specs.Table.{Order, command}
use Rattle.outline_meaning.specs.Outcome.{provided}
use Rattle.outline_meaning.specs.declared.status.Status.{Status}
use Rattle.outline_meaning.specs.declared.status.Status.TheVariants.{NotBuilt}

-- ---- words

-- the commands that aren't taken
abbrev pub untaken_names : List (List ℕ)
untaken_names =
    codes "status" ∷ codes "log" ∷ codes "trim" ∷ codes "snapshot" ∷ codes "release" ∷ codes "begin" ∷ codes "check" ∷ codes "play" ∷ codes "sample" ∷ []

abbrev pub is_one_of : List (List ℕ) → List ℕ → Bool
is_one_of names word = list_any (bytes_eq word) names

-- the first word is one of them, whatever follows it
abbrev pub names_untaken : List (List ℕ) → Bool
names_untaken [] = false
names_untaken (word ∷ words) = is_one_of untaken_names word

abbrev pub taken_words : List (List ℕ) → Result Unit Status
taken_words words = provided (not (names_untaken words)) (NotBuilt 0)

abbrev pub taken_order : Order → Result Unit Status
taken_order (command (found document n name)) = Ok tt
taken_order (command (edit name e)) = Ok tt
taken_order (command (ack name)) = Ok tt
taken_order (command (show name)) = Ok tt
taken_order (command (bundle_since name vector out)) = Ok tt
taken_order (command (deliver name offered)) = Ok tt
taken_order (command (items name)) = Ok tt
taken_order _ = Err (NotBuilt 0)

-- ---- files

-- An item other than the empty base, where a file has its base, isn't looked at.
abbrev pub taken_base : ℕ → List ℕ → Result Unit Status → Type 0
taken_base word bytes (Ok u) = HasOtherBase bytes → ⊥
taken_base word bytes (Err refusal) = (refusal ≡ NotBuilt word) × HasOtherBase bytes
