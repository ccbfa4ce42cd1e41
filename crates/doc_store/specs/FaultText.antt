-- Faults of edits in print.
use Rattle.std.specs.Prelude.{ℕ, List, codes}
use Rattle.doc_store.specs.declared.edit.EditFault.{EditFault}
use Rattle.doc_store.specs.declared.edit.EditFault.TheVariants.{NoNode, NoIndex, Cycle, Fixed, NoChars, Empty, TooLong}

abbrev pub edit_fault_text : EditFault → List ℕ
edit_fault_text NoNode = codes "NoNode"
edit_fault_text NoIndex = codes "NoIndex"
edit_fault_text Cycle = codes "Cycle"
edit_fault_text Fixed = codes "Fixed"
edit_fault_text NoChars = codes "NoChars"
edit_fault_text Empty = codes "Empty"
edit_fault_text TooLong = codes "TooLong"
