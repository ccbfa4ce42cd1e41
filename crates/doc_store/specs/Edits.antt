-- Edits and their faults, as the code has them, and what a plan answers.
use Rattle.std.specs.Prelude.{◌≡◌, ◌==◌, nat_lt, ℕ, Some, None, List, [], ◌∷◌, ◌++◌, Result, Ok, Err, slice_get}
use Rattle.std.specs.Str.{chars}
use Rattle.op_ids.specs.declared.OpId.{OpId}
use Rattle.op_ids.specs.declared.Side.{Side}
use Rattle.model.specs.Operation.{Anchor}
use Rattle.model.specs.State.{State}
use Rattle.model.specs.Edit as model
use Rattle.model.specs.Edit.{WrongEdit, edit_fault, faults, faulty, is_empty, plan, too_long}
use Rattle.op_grammar.specs.Operations.{anchor_of, operation_of, operations_of}
use Rattle.op_grammar.specs.Values.{value_of}
use Rattle.op_grammar.specs.declared.operation.OpRef.{OpRef}
use Rattle.doc_store.specs.declared.edit.Edit.{Edit}
use Rattle.doc_store.specs.declared.edit.Edit.TheVariants as edits
use Rattle.doc_store.specs.declared.edit.EditFault.{EditFault}
use Rattle.doc_store.specs.declared.edit.EditFault.TheVariants.{NoNode, NoIndex, Cycle, Fixed, NoChars, Empty, TooLong}
use Rattle.doc_store.specs.declared.edit.PlanFault.{PlanFault}
use Rattle.doc_store.specs.declared.edit.PlanFault.TheVariants as reasons

abbrev pub edit_of : Edit → model.Edit
edit_of (edits.New parent at) = model.new_child parent at
edit_of (edits.Move child parent at) = model.move_child child parent at
edit_of (edits.Trash child) = model.trash_child child
edit_of (edits.Put node key value) = model.put_value node key.now (value_of value)
edit_of (edits.Unset node key) = model.unset_key node key.now
edit_of (edits.TypeText node at text) = model.type_at node at (chars text.now)
edit_of (edits.Erase node at count) = model.erase_at node at count
edit_of (edits.Add node at value) = model.add_at node at (value_of value)
edit_of (edits.Shift node from to) = model.shift_to node from to
edit_of (edits.Set node at value) = model.set_at node at (value_of value)
edit_of (edits.Drop node at) = model.drop_at node at

abbrev pub fault_of : EditFault → model.EditFault
fault_of NoNode = model.no_node
fault_of NoIndex = model.no_index
fault_of Cycle = model.cycle
fault_of Fixed = model.fixed
fault_of NoChars = model.no_characters
fault_of Empty = model.is_empty
fault_of TooLong = model.too_long

-- The fault is the first of these. Memory may run out whatever they are.
abbrev pub Fails : List WrongEdit → PlanFault → Type 0
Fails wrong (reasons.Edit fault word) = slice_get wrong 0 ≡ Some (record { fault = fault_of fault; word = word })
Fails wrong reasons.NoMemory = Unit {0}

-- The operations of an edit without faults, or its first fault.
abbrev pub Plans : State → model.Edit → Result (List OpRef) PlanFault → Type 0
Plans s e (Ok p) = (operations_of p ≡ plan s e) × (edit_fault s e ≡ None)
Plans s e (Err f) = Fails (faults s e) f

-- ---- parts

-- None of these faults, or the first.
abbrev pub Checks : {T : Type 0} → List WrongEdit → Result T PlanFault → Type 0
Checks wrong (Ok x) = wrong ≡ []
Checks wrong (Err f) = Fails wrong f

-- Where a row is to hang, if there are none of these faults, or the first.
abbrev pub Places : List WrongEdit → Anchor → Result (OpId × Side) PlanFault → Type 0
Places wrong at (Ok p) = (wrong ≡ []) × (anchor_of p ≡ at)
Places wrong at (Err f) = Fails wrong f

-- What is sought, if there are none of these faults, or the first.
abbrev pub Finds : {T : Type 0} → List WrongEdit → T → Result T PlanFault → Type 0
Finds wrong x (Ok y) = (wrong ≡ []) × (y ≡ x)
Finds wrong x (Err f) = Fails wrong f

-- what is wrong with so many characters
abbrev pub wrong_count : ℕ → List WrongEdit
wrong_count count = faulty (count == 0) is_empty 4 ++ faulty (nat_lt 4096 count) too_long 4

-- The one operation of an edit without faults, or its first fault.
abbrev pub PlansOne : State → model.Edit → Result OpRef PlanFault → Type 0
PlansOne s e (Ok op) = (operation_of op ∷ [] ≡ plan s e) × (faults s e ≡ [])
PlansOne s e (Err f) = Fails (faults s e) f
