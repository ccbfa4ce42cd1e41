use Rattle.std.proofs.Common.{ℕ, List, [], ◌∷◌, refl}
use Rattle.std.specs.Prelude.{Some, None}
use Rattle.cbor_det.specs.Item.{unsigned}
use Rattle.cbor_det.specs.Unread.{unread}
use Rattle.cbor_det.proofs.RowLaws.{one, both_read, second_stops, first_stops}
use Rattle.op_grammar.specs.Parts.{width_body_of, width_and_body}
use Rattle.op_grammar.proofs.parts.read_rest.Goals as goal

pub returns-in_err-count-clause-item : goal.returns-in_err-count-clause-item
returns-in_err-count-clause-item c = first_stops (λ (m : ℕ). m) (λ (m : ℕ). unsigned m ∷ []) (λ (m : ℕ). Unit {0}) 1 (λ _. refl) width_body_of width_and_body (λ (p : ℕ × List ℕ). Unit {0} × Unit {0}) 2 (unread c.args.cursor.now) (unread c.read_number.new.cursor) (unread c.read_number.new.cursor) c.from_residual.result (cc (c.from_residual.ensures)) (one (λ (m : ℕ). m) unsigned (λ (m : ℕ). Unit {0}) (unread c.args.cursor.now) (unread c.read_number.new.cursor) None c.in_err-count.ensures.item tt)

pub returns-in_err-rest-clause-item : goal.returns-in_err-rest-clause-item
returns-in_err-rest-clause-item c = second_stops (λ (m : ℕ). m) (λ (m : ℕ). unsigned m ∷ []) (λ (m : ℕ). Unit {0}) 1 (λ _. refl) width_body_of width_and_body (λ (p : ℕ × List ℕ). Unit {0} × Unit {0}) 2 (unread c.args.cursor.now) (unread c.read_number.new.cursor) (unread c.read_width_and_body.new.cursor) c.in_ok-count.count c.from_residual-in_err-rest.result (cc (c.from_residual-in_err-rest.ensures)) (one (λ (m : ℕ). m) unsigned (λ (m : ℕ). Unit {0}) (unread c.args.cursor.now) (unread c.read_number.new.cursor) (Some c.in_ok-count.count) c.in_ok-count.ensures.item (tt, c.in_ok-count.ensures.took)) c.in_err-rest.ensures.item

pub returns-clause-item : goal.returns-clause-item
returns-clause-item c = both_read (λ (m : ℕ). m) (λ (m : ℕ). unsigned m ∷ []) (λ (m : ℕ). Unit {0}) 1 (λ _. refl) width_body_of width_and_body (λ (p : ℕ × List ℕ). Unit {0} × Unit {0}) 2 (unread c.args.cursor.now) (unread c.read_number.new.cursor) (unread c.read_width_and_body.new.cursor) c.in_ok-count.count c.in_ok-rest.rest (one (λ (m : ℕ). m) unsigned (λ (m : ℕ). Unit {0}) (unread c.args.cursor.now) (unread c.read_number.new.cursor) (Some c.in_ok-count.count) c.in_ok-count.ensures.item (tt, c.in_ok-count.ensures.took)) c.in_ok-rest.ensures.item
