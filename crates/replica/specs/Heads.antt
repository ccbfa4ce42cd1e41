-- The header of a file, by its fields here.
use Rattle.std.specs.Prelude.{ℕ, ◌==◌, if◌then◌else◌, length, Option}
use Rattle.model.specs.File.{Kind, member_file, bundle, snapshot, kind_number, Header, File}
use Rattle.model.specs.Base.{Base}
use Rattle.replica.specs.Empty.{base_in}
use Rattle.replica.specs.declared.head.FileHead.{FileHead}

-- the kind of this number
abbrev pub kind_of : ℕ → Kind
kind_of number = if number == 0 then member_file else (if number == 1 then bundle else snapshot)

-- the header that says this
abbrev pub header_by : FileHead → Header
header_by h = record { version = 1; kind = kind_of h.kind; document = h.doc.id; members = h.doc.n; mine = h.mine; kept = h.kept; waiting = h.waiting }

-- what the header of a file says
abbrev pub head_of : File → FileHead
head_of f = record {
  kind = kind_number f.kind;
  doc = record { id = f.document; n = f.members };
  mine = f.mine;
  kept = length f.kept;
  waiting = length f.waiting;
}

-- the base of a file with this header that has no other than the empty one
abbrev pub base_by : FileHead → Option Base
base_by h = base_in (kind_of h.kind) h.doc.n
