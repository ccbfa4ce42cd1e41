-- The lines of what was made, written note by note.
use Rattle.std.proofs.Common.{◌≡◌, ℕ, ◌≤◌, List, ◌++◌, length, map, take, ap, ◌∙◌}
use Rattle.std.specs.Prelude.{codes, flat_map}
use Rattle.std.proofs.lemmas.List.{take_all}
use Rattle.std.proofs.lemmas.List.Folds.{flat_map-map}
use Rattle.model.specs.Change.{Change}
use Rattle.model.specs.Text.{field, made_line}
use Rattle.member_replica.specs.Making.{note_of}
use Rattle.member_replica.specs.declared.made.MadeNote.{MadeNote}

-- the line of a note
abbrev pub note_line : MadeNote → List ℕ
note_line n = codes "made" ++ (field n.member ++ (field n.number ++ (field n.time ++ codes "\n")))

-- the lines of all notes of some changes
pub lines_all : (notes : List MadeNote) (cs : List Change) (i : ℕ) (text : List ℕ) → length notes ≤ i → notes ≡ map note_of cs → text ≡ flat_map note_line (take i notes) → text ≡ flat_map made_line cs
lines_all notes cs i text past are so_far = so_far ∙ ap (flat_map note_line) (take_all i notes past) ∙ ap (flat_map note_line) are ∙ flat_map-map note_line note_of cs
