-- Parts as a file.
use Rattle.std.specs.Prelude.{◌≡◌, ◌≤◌, List, length}
use Rattle.model.specs.Change.{Change}
use Rattle.model.specs.File.{File, IsFile}
use Rattle.replica.specs.Heads.{kind_of, base_by}
use Rattle.replica.specs.declared.head.FileHead.{FileHead}
use Rattle.replica.specs.declared.parts.FileParts.TheInside.{Inside}

-- the file with this header and these changes
abbrev pub file_with : FileHead → List Change → List Change → File
file_with h kept waiting = record {
  version = 1;
  kind = kind_of h.kind;
  document = h.doc.id;
  members = h.doc.n;
  mine = h.mine;
  base = base_by h;
  kept = kept;
  waiting = waiting;
}

abbrev pub file_by : Inside → File
file_by p = file_with p.head p.kept p.waiting

-- The header counts the changes, and the file keeps the rules.
pub record ArePartsOfFile (p : Inside) : Type 0 where
  pub kind : p.head.kind ≤ 2
  pub kept : p.head.kept ≡ length p.kept
  pub waiting : p.head.waiting ≡ length p.waiting
  pub is : IsFile (file_by p)
