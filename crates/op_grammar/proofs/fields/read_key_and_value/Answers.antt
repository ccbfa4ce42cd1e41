use Rattle.std.specs.Borrow.{Bor}
use Rattle.std.proofs.Common.{ℕ, List, [], ◌∷◌, refl}
use Rattle.std.specs.Prelude.{Some, None}
use Rattle.cbor_det.specs.Item.{Item}
use Rattle.cbor_det.specs.Unread.{unread}
use Rattle.model.specs.Value as model
use Rattle.model.specs.Value.{value_item, IsValue}
use Rattle.model.specs.Operation.{IsKey}
use Rattle.op_grammar.specs.Values.{value_of}
use Rattle.cbor_det.proofs.RowLaws.{one, both_read, second_stops, first_stops}
use Rattle.op_grammar.proofs.fields.read_key_and_value.Goals as goal

pub returns-in_err-key : goal.returns-in_err-key
returns-in_err-key c = first_stops (λ (t : Bor (List ℕ)). t.now) (λ (t : List ℕ). Item.text t ∷ []) IsKey 1 (λ _. refl) value_of (λ (v : model.Value). value_item v ∷ []) IsValue 1 (unread c.args.cursor.now) (unread c.read_key.new.cursor) (unread c.read_key.new.cursor) c.from_residual.result (cc (c.from_residual.ensures)) (one (λ (t : Bor (List ℕ)). t.now) Item.text IsKey (unread c.args.cursor.now) (unread c.read_key.new.cursor) None c.in_err-key.ensures.item tt)

pub returns-in_err-value : goal.returns-in_err-value
returns-in_err-value c = second_stops (λ (t : Bor (List ℕ)). t.now) (λ (t : List ℕ). Item.text t ∷ []) IsKey 1 (λ _. refl) value_of (λ (v : model.Value). value_item v ∷ []) IsValue 1 (unread c.args.cursor.now) (unread c.read_key.new.cursor) (unread c.read_value.new.cursor) c.in_ok-key.key c.from_residual-in_err-value.result (cc (c.from_residual-in_err-value.ensures)) (one (λ (t : Bor (List ℕ)). t.now) Item.text IsKey (unread c.args.cursor.now) (unread c.read_key.new.cursor) (Some c.in_ok-key.key) c.in_ok-key.ensures.item c.in_ok-key.ensures.found) (one value_of value_item IsValue (unread c.read_key.new.cursor) (unread c.read_value.new.cursor) None c.in_err-value.ensures.item tt)

pub returns : goal.returns
returns c = both_read (λ (t : Bor (List ℕ)). t.now) (λ (t : List ℕ). Item.text t ∷ []) IsKey 1 (λ _. refl) value_of (λ (v : model.Value). value_item v ∷ []) IsValue 1 (unread c.args.cursor.now) (unread c.read_key.new.cursor) (unread c.read_value.new.cursor) c.in_ok-key.key c.in_ok-value.value (one (λ (t : Bor (List ℕ)). t.now) Item.text IsKey (unread c.args.cursor.now) (unread c.read_key.new.cursor) (Some c.in_ok-key.key) c.in_ok-key.ensures.item c.in_ok-key.ensures.found) (one value_of value_item IsValue (unread c.read_key.new.cursor) (unread c.read_value.new.cursor) (Some c.in_ok-value.value) c.in_ok-value.ensures.item c.in_ok-value.ensures.found)
