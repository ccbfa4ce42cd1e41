-- Edits of files: what is shown of a file with a ledger after an edit of it.
use Rattle.std.specs.Prelude.{◌≡◌, ℕ, List, Ok, map}
use Rattle.std.specs.List.{IsDistinct}
use Rattle.op_ids.specs.Order.{id_eq}
use Rattle.model.specs.Change.{Change}
use Rattle.model.specs.Command.{made_edit}
use Rattle.model.specs.Edit.{Edit}
use Rattle.model.specs.File.{File}
use Rattle.model.specs.Held.{held}
use Rattle.model.specs.State.{replay}
use Rattle.model.specs.Stands.{Stands, IsStored}
use Rattle.model.specs.View.{ViewNode, view}
use Rattle.effect_laws.specs.Made.{OneMade}
use Rattle.effect_laws.specs.Whole.{IsWhole}

-- The state of the ledger of a stored file is whole, whatever was trimmed.
abbrev pub StoredAreWhole : Type 0
StoredAreWhole = (bytes : List ℕ) (f : File) (h : List Change) → IsStored bytes f → Stands f h → IsWhole (replay h)

-- Where an edit of such a file is made at all, it is one change, and the view of the new ledger is the old one with the edit's effect.
abbrev pub FilesShowEdits : Type 0
FilesShowEdits = (bytes : List ℕ) (f : File) (h : List Change) (e : Edit) (cs : List Change) → IsStored bytes f → Stands f h → made_edit f.members (held f.members h) f.mine e ≡ Ok cs → OneMade h e cs

-- Each node is shown once.
abbrev pub NodesShownOnce : Type 0
NodesShownOnce = (bytes : List ℕ) (f : File) (h : List Change) → IsStored bytes f → Stands f h → IsDistinct id_eq (map (λ (v : ViewNode). v.id) (view (replay h)))
