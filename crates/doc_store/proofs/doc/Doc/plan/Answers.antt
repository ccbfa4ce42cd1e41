use Rattle.std.proofs.Common.{◌≡◌, List, Result, sym, subst}
use Rattle.model.specs.Edit as model
use Rattle.model.specs.State.{State}
use Rattle.op_grammar.specs.declared.operation.OpRef.{OpRef}
use Rattle.doc_store.specs.declared.edit.Edit.{Edit}
use Rattle.doc_store.specs.declared.edit.PlanFault.{PlanFault}
use Rattle.doc_store.specs.Edits.{Plans, PlansOne, edit_of}
use Rattle.doc_store.specs.Kept.{state_of}
use Rattle.doc_store.proofs.doc.Doc.plan.Goals as goal

-- an edit of one kind, and the plan of its operation
of_kind : (s : State) (edit known : Edit) (op : Result OpRef PlanFault) (plan : Result (List OpRef) PlanFault)
    → ((s : State) (e : model.Edit) → PlansOne s e op → Plans s e plan) → PlansOne s (edit_of known) op → edit ≡ known → Plans s (edit_of edit) plan
of_kind s edit known op plan one h e = subst (λ (x : Edit). Plans s (edit_of x) plan) (sym e) (one s (edit_of known) h)

pub returns-in-New : goal.returns-in-New
returns-in-New c = of_kind (state_of c.args.self.now) _ _ _ _ c.of_one.ensures c.plan_new.ensures c.in-New.is

pub returns-in-Move : goal.returns-in-Move
returns-in-Move c = of_kind (state_of c.args.self.now) _ _ _ _ c.of_one-in-Move.ensures c.plan_move.ensures c.in-Move.is

pub returns-in-Trash : goal.returns-in-Trash
returns-in-Trash c = of_kind (state_of c.args.self.now) _ _ _ _ c.of_one-in-Trash.ensures c.plan_trash.ensures c.in-Trash.is

pub returns-in-Put : goal.returns-in-Put
returns-in-Put c = of_kind (state_of c.args.self.now) _ _ _ _ c.of_one-in-Put.ensures c.plan_put.ensures c.in-Put.is

pub returns-in-Unset : goal.returns-in-Unset
returns-in-Unset c = of_kind (state_of c.args.self.now) _ _ _ _ c.of_one-in-Unset.ensures c.plan_unset.ensures c.in-Unset.is

pub returns-in-TypeText : goal.returns-in-TypeText
returns-in-TypeText c = of_kind (state_of c.args.self.now) _ _ _ _ c.of_one-in-TypeText.ensures c.plan_typing.ensures c.in-TypeText.is

pub returns-in-Add : goal.returns-in-Add
returns-in-Add c = of_kind (state_of c.args.self.now) _ _ _ _ c.of_one-in-Add.ensures c.plan_add.ensures c.in-Add.is

pub returns-in-Shift : goal.returns-in-Shift
returns-in-Shift c = of_kind (state_of c.args.self.now) _ _ _ _ c.of_one-in-Shift.ensures c.plan_shift.ensures c.in-Shift.is

pub returns-in-Set : goal.returns-in-Set
returns-in-Set c = of_kind (state_of c.args.self.now) _ _ _ _ c.of_one-in-Set.ensures c.plan_set.ensures c.in-Set.is

pub returns-in-Drop : goal.returns-in-Drop
returns-in-Drop c = of_kind (state_of c.args.self.now) _ _ _ _ c.of_one-in-Drop.ensures c.plan_drop.ensures c.in-Drop.is
