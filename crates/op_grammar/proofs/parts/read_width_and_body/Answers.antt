use Rattle.std.proofs.Common.{ℕ, List, [], ◌∷◌, Bor, refl}
use Rattle.std.specs.Prelude.{Some, None}
use Rattle.cbor_det.specs.Item.{unsigned, bytes}
use Rattle.cbor_det.specs.Unread.{unread}
use Rattle.cbor_det.proofs.RowLaws.{one, both_read, second_stops, first_stops}
use Rattle.op_grammar.proofs.parts.read_width_and_body.Goals as goal

pub returns-in_err-width-clause-item : goal.returns-in_err-width-clause-item
returns-in_err-width-clause-item c = first_stops (λ (m : ℕ). m) (λ (m : ℕ). unsigned m ∷ []) (λ (m : ℕ). Unit {0}) 1 (λ _. refl) (λ (b : Bor (List ℕ)). b.now) (λ (b : List ℕ). bytes b ∷ []) (λ (b : List ℕ). Unit {0}) 1 (unread c.args.cursor.now) (unread c.read_number.new.cursor) (unread c.read_number.new.cursor) c.from_residual.result (cc (c.from_residual.ensures)) (one (λ (m : ℕ). m) unsigned (λ (m : ℕ). Unit {0}) (unread c.args.cursor.now) (unread c.read_number.new.cursor) None c.in_err-width.ensures.item tt)

pub returns-in_err-body-clause-item : goal.returns-in_err-body-clause-item
returns-in_err-body-clause-item c = second_stops (λ (m : ℕ). m) (λ (m : ℕ). unsigned m ∷ []) (λ (m : ℕ). Unit {0}) 1 (λ _. refl) (λ (b : Bor (List ℕ)). b.now) (λ (b : List ℕ). bytes b ∷ []) (λ (b : List ℕ). Unit {0}) 1 (unread c.args.cursor.now) (unread c.read_number.new.cursor) (unread c.read_bytes.new.cursor) c.in_ok-width.width c.from_residual-in_err-body.result (cc (c.from_residual-in_err-body.ensures)) (one (λ (m : ℕ). m) unsigned (λ (m : ℕ). Unit {0}) (unread c.args.cursor.now) (unread c.read_number.new.cursor) (Some c.in_ok-width.width) c.in_ok-width.ensures.item (tt, c.in_ok-width.ensures.took)) (one (λ (b : Bor (List ℕ)). b.now) bytes (λ (b : List ℕ). Unit {0}) (unread c.read_number.new.cursor) (unread c.read_bytes.new.cursor) None c.in_err-body.ensures.item tt)

pub returns-clause-item : goal.returns-clause-item
returns-clause-item c = both_read (λ (m : ℕ). m) (λ (m : ℕ). unsigned m ∷ []) (λ (m : ℕ). Unit {0}) 1 (λ _. refl) (λ (b : Bor (List ℕ)). b.now) (λ (b : List ℕ). bytes b ∷ []) (λ (b : List ℕ). Unit {0}) 1 (unread c.args.cursor.now) (unread c.read_number.new.cursor) (unread c.read_bytes.new.cursor) c.in_ok-width.width c.in_ok-body.body (one (λ (m : ℕ). m) unsigned (λ (m : ℕ). Unit {0}) (unread c.args.cursor.now) (unread c.read_number.new.cursor) (Some c.in_ok-width.width) c.in_ok-width.ensures.item (tt, c.in_ok-width.ensures.took)) (one (λ (b : Bor (List ℕ)). b.now) bytes (λ (b : List ℕ). Unit {0}) (unread c.read_number.new.cursor) (unread c.read_bytes.new.cursor) (Some c.in_ok-body.body) c.in_ok-body.ensures.item (tt, c.in_ok-body.ensures.took))
