use Rattle.std.proofs.Common.{[], ◌∷◌, ◌++◌, refl}
use Rattle.std.specs.Prelude.{Some, None}
use Rattle.op_ids.specs.declared.OpId.{OpId}
use Rattle.op_ids.specs.declared.Side.{Side}
use Rattle.op_grammar.specs.declared.value.Value.{Value}
use Rattle.cbor_det.specs.Unread.{unread}
use Rattle.model.specs.Value as model
use Rattle.model.specs.Value.{value_item, IsValue}
use Rattle.model.specs.Operation.{Anchor, add_item}
use Rattle.op_grammar.specs.declared.operation.OpRef.TheVariants as ops
use Rattle.op_grammar.specs.Values.{value_of}
use Rattle.op_grammar.specs.Operations.{id_anchor_of, id_and_anchor, AreIdAndAnchor}
use Rattle.cbor_det.proofs.RowLaws.{one, both_read, second_stops, first_stops}
use Rattle.op_grammar.proofs.KindLaws.{kind_read, kind_stops, add_item_back, add_item_forth}
use Rattle.op_grammar.proofs.kinds.read_add_item.Goals as goal

pub returns-in_err-node : goal.returns-in_err-node
returns-in_err-node c = kind_stops c.args.n 5 4 (λ (p : (OpId × (OpId × Side)) × Value). (id_anchor_of p.0, value_of p.1)) (λ (y : (OpId × Anchor) × model.Value). id_and_anchor y.0 ++ (λ (v : model.Value). value_item v ∷ []) y.1) (λ (y : (OpId × Anchor) × model.Value). (AreIdAndAnchor c.args.n) y.0 × IsValue y.1) (λ _. refl) (unread c.args.cursor.now) (unread c.read_id_and_anchor.new.cursor) (add_item_back c.args.n) c.from_residual.result (cc (c.from_residual.ensures)) (first_stops id_anchor_of id_and_anchor (AreIdAndAnchor c.args.n) 3 (λ _. refl) value_of (λ (v : model.Value). value_item v ∷ []) IsValue 1 (unread c.args.cursor.now) (unread c.read_id_and_anchor.new.cursor) (unread c.read_id_and_anchor.new.cursor) None refl c.in_err-node.ensures)

pub returns-in_err-value : goal.returns-in_err-value
returns-in_err-value c = kind_stops c.args.n 5 4 (λ (p : (OpId × (OpId × Side)) × Value). (id_anchor_of p.0, value_of p.1)) (λ (y : (OpId × Anchor) × model.Value). id_and_anchor y.0 ++ (λ (v : model.Value). value_item v ∷ []) y.1) (λ (y : (OpId × Anchor) × model.Value). (AreIdAndAnchor c.args.n) y.0 × IsValue y.1) (λ _. refl) (unread c.args.cursor.now) (unread c.read_value.new.cursor) (add_item_back c.args.n) c.from_residual-in_err-value.result (cc (c.from_residual-in_err-value.ensures)) (second_stops id_anchor_of id_and_anchor (AreIdAndAnchor c.args.n) 3 (λ _. refl) value_of (λ (v : model.Value). value_item v ∷ []) IsValue 1 (unread c.args.cursor.now) (unread c.read_id_and_anchor.new.cursor) (unread c.read_value.new.cursor) (c.in_ok-node.node, (c.in_ok-node.anchor, c.in_ok-node.side)) None refl c.in_ok-node.ensures (one value_of value_item IsValue (unread c.read_id_and_anchor.new.cursor) (unread c.read_value.new.cursor) None c.in_err-value.ensures.item tt))

pub returns : goal.returns
returns c = kind_read c.args.n 5 4 (λ (p : (OpId × (OpId × Side)) × Value). (id_anchor_of p.0, value_of p.1)) (λ (y : (OpId × Anchor) × model.Value). id_and_anchor y.0 ++ (λ (v : model.Value). value_item v ∷ []) y.1) (λ (y : (OpId × Anchor) × model.Value). (AreIdAndAnchor c.args.n) y.0 × IsValue y.1) (λ _. refl) (unread c.args.cursor.now) (unread c.read_value.new.cursor) (λ (y : (OpId × Anchor) × model.Value). add_item y.0.0 y.0.1 y.1) (add_item_forth c.args.n) ((c.in_ok-node.node, (c.in_ok-node.anchor, c.in_ok-node.side)), c.in_ok-value.value) (ops.AddItem c.in_ok-node.node c.in_ok-node.anchor c.in_ok-node.side c.in_ok-value.value) refl (both_read id_anchor_of id_and_anchor (AreIdAndAnchor c.args.n) 3 (λ _. refl) value_of (λ (v : model.Value). value_item v ∷ []) IsValue 1 (unread c.args.cursor.now) (unread c.read_id_and_anchor.new.cursor) (unread c.read_value.new.cursor) (c.in_ok-node.node, (c.in_ok-node.anchor, c.in_ok-node.side)) c.in_ok-value.value c.in_ok-node.ensures (one value_of value_item IsValue (unread c.read_id_and_anchor.new.cursor) (unread c.read_value.new.cursor) (Some c.in_ok-value.value) c.in_ok-value.ensures.item c.in_ok-value.ensures.found))
