-- How faults are printed: a fault's name, and its fields in order, each after a space.
use Rattle.std.specs.Prelude.{ℕ, List, ◌++◌}
use Rattle.cbor_det.specs.Notation.{hex}
use Rattle.model.specs.Text.{field}
use Rattle.replica.specs.declared.head.DocRef.{DocRef}

abbrev pub document_text : DocRef → List ℕ
document_text d = hex d.id ++ field d.n
