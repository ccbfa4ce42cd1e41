use Rattle.std.proofs.Common.{◌≡◌, ◌<◌, ◌≤◌, ℕ, List, arith, length, refl, sym, subst}
use Rattle.std.proofs.lemmas.Result.{on_ok_weaker}
use Rattle.std.specs.Borrow.{Bor}
use Rattle.std.specs.Str.{chars}
use Rattle.op_grammar.specs.Operations.{anchor_of, operation_of}
use Rattle.op_grammar.specs.declared.operation.OpRef.{OpRef}
use Rattle.op_grammar.specs.declared.operation.OpRef.TheVariants as ops
use Rattle.op_grammar.specs.declared.value.Value.{Value}
use Rattle.op_grammar.specs.Values.{value_of}
use Rattle.op_ids.specs.declared.OpId.{OpId}
use Rattle.op_ids.specs.declared.Side.{Side}
use Rattle.doc_store.proofs.JoinLaws.{typed_within}
use Rattle.doc_store.specs.Documents.{IsFormed}
use Rattle.doc_store.specs.References.{HasRun, MakesRows}
use Rattle.doc_store.specs.declared.made.Made.{Made}
use Rattle.doc_store.proofs.ReferenceLaws.{drops_none, erases_none, makes_characters, makes_element, makes_node, makes_none, makes_place, makes_position, sets_none}
use Rattle.doc_store.proofs.made.Made.add.Goals as goal

pub returns-in_ok-insert-in-NewNode-2 : goal.returns-in_ok-insert-in-NewNode-2
returns-in_ok-insert-in-NewNode-2 c =
    let new : Made = record c.args.self.now { nodes = c.insert.new.self; positions = c.insert-in-NewNode.new.self } in
    subst (λ op. MakesRows c.args.self.now c.args.id (operation_of op) new) (sym c.in-NewNode.is)
    (makes_node c.args.self.now c.insert.new.self c.insert-in-NewNode.new.self c.args.id c.in-NewNode.parent (anchor_of (c.in-NewNode.anchor, c.in-NewNode.side)) c.in_ok-insert-in-NewNode.ensures.updates.0 c.in_ok-insert-in-NewNode-2.ensures.updates.0)

pub returns-in_ok-insert-in-MoveNode : goal.returns-in_ok-insert-in-MoveNode
returns-in_ok-insert-in-MoveNode c =
    let new : Made = record c.args.self.now { positions = c.insert-in-MoveNode.new.self } in
    subst (λ op. MakesRows c.args.self.now c.args.id (operation_of op) new) (sym c.in-MoveNode.is)
    (makes_position c.args.self.now c.insert-in-MoveNode.new.self c.args.id c.in-MoveNode.child c.in-MoveNode.parent (anchor_of (c.in-MoveNode.anchor, c.in-MoveNode.side)) c.in_ok-insert-in-MoveNode.ensures.updates.0)

typed : (op : OpRef) (id node anchor : OpId) (side : Side) (text : Bor (List ℕ)) → op ≡ ops.TypeText node anchor side text → IsFormed (record { id = id; operation = operation_of op }) → (id.index < 65536) × (1 ≤ id.time) × (length (chars text.now) ≤ 4096)
typed op id node anchor side text e f = typed_within id node (anchor_of (anchor, side)) (chars text.now) (subst (λ o. IsFormed (record { id = id; operation = operation_of o })) e f)

pub add_run-requires : goal.add_run-requires
add_run-requires c =
    let w = typed c.args.op c.args.id c.in-TypeText.node c.in-TypeText.anchor c.in-TypeText.side c.in-TypeText.text c.in-TypeText.is c.requires in
    let low = w.0 in let most = w.2 in let width = c.width_of.ensures in
    omega (arith, low, most, width)

pub returns-in-TypeText : goal.returns-in-TypeText
returns-in-TypeText c =
    let w = typed c.args.op c.args.id c.in-TypeText.node c.in-TypeText.anchor c.in-TypeText.side c.in-TypeText.text c.in-TypeText.is c.requires in
    let cs = chars c.in-TypeText.text.now in
    let most = w.2 in
    let width : c.width_of.result ≡ length cs = (let is = c.width_of.ensures in omega (arith, most, is)) in
    let old = c.args.self.now in
    let new : Made = record old { characters = c.add_run.new.rows } in
    on_ok_weaker c.add_run.result (λ r.
    subst (λ op. MakesRows old c.args.id (operation_of op) new) (sym c.in-TypeText.is)
    (makes_characters old c.add_run.new.rows c.args.id c.in-TypeText.node (anchor_of (c.in-TypeText.anchor, c.in-TypeText.side)) cs (subst (λ n. HasRun old.characters c.in-TypeText.node c.args.id n c.add_run.new.rows) width r)))
    c.add_run.ensures

pub returns-in_ok-insert-in-AddItem-2 : goal.returns-in_ok-insert-in-AddItem-2
returns-in_ok-insert-in-AddItem-2 c =
    let old = c.args.self.now in
    let new : Made = record old { list_positions = c.insert-in-AddItem.new.self; elements = c.insert-in-AddItem-2.new.self } in
    subst (λ op. MakesRows old c.args.id (operation_of op) new) (sym c.in-AddItem.is)
    (makes_element old c.insert-in-AddItem.new.self c.insert-in-AddItem-2.new.self c.args.id c.in-AddItem.node (anchor_of (c.in-AddItem.anchor, c.in-AddItem.side)) (value_of c.in-AddItem.value) c.in_ok-insert-in-AddItem.ensures.updates.0 c.in_ok-insert-in-AddItem-2.ensures.updates.0)

pub returns-in_ok-insert-in-ShiftItem : goal.returns-in_ok-insert-in-ShiftItem
returns-in_ok-insert-in-ShiftItem c =
    let old = c.args.self.now in
    let new : Made = record old { list_positions = c.insert-in-ShiftItem.new.self } in
    subst (λ op. MakesRows old c.args.id (operation_of op) new) (sym c.in-ShiftItem.is)
    (makes_place old c.insert-in-ShiftItem.new.self c.args.id c.in-ShiftItem.node c.in-ShiftItem.element (anchor_of (c.in-ShiftItem.anchor, c.in-ShiftItem.side)) c.in_ok-insert-in-ShiftItem.ensures.updates.0)

none_more : (old : Made) (id : OpId) (op : OpRef) → ((a b : OpId) (s : Side) → op ≡ ops.NewNode a b s → ⊥) → ((a b d : OpId) (s : Side) → op ≡ ops.MoveNode a b d s → ⊥) → ((a b : OpId) (s : Side) (t : Bor (List ℕ)) → op ≡ ops.TypeText a b s t → ⊥)
    → ((a b : OpId) (s : Side) (v : Value) → op ≡ ops.AddItem a b s v → ⊥) → ((a b d : OpId) (s : Side) → op ≡ ops.ShiftItem a b d s → ⊥) → MakesRows old id (operation_of op) old
none_more old id (ops.NewNode a b s) n m t d h = absurd (n a b s refl)
none_more old id (ops.MoveNode a b e s) n m t d h = absurd (m a b e s refl)
none_more old id (ops.PutKey node key value) n m t d h = makes_none old id node key.now (value_of value)
none_more old id (ops.TypeText a b s text) n m t d h = absurd (t a b s text refl)
none_more old id (ops.EraseText node first count) n m t d h = erases_none old id node first count
none_more old id (ops.AddItem a b s v) n m t d h = absurd (d a b s v refl)
none_more old id (ops.ShiftItem a b e s) n m t d h = absurd (h a b e s refl)
none_more old id (ops.SetItem node element value) n m t d h = sets_none old id node element (value_of value)
none_more old id (ops.DropItem node element) n m t d h = drops_none old id node element

pub returns-in_default : goal.returns-in_default
returns-in_default c = none_more c.args.self.now c.args.id c.args.op c.in_default.not-NewNode c.in_default.not-MoveNode c.in_default.not-TypeText c.in_default.not-AddItem c.in_default.not-ShiftItem
