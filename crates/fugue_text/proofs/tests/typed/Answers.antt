use Rattle.std.proofs.Common.{ap, sym, subst, ℕ, zero, suc, length, arith}
use Rattle.std.specs.Str.{chars}
use Rattle.std.proofs.lemmas.Str.{encodes-chars, length-le-encodes}
use Rattle.std.specs.FinMap.{empty, get-empty}
use Rattle.op_ids.specs.declared.OpId.{OpId}
use Rattle.op_ids.specs.Order.{id_plus}
use Rattle.model.specs.State.{row_cmp}
use Rattle.fugue_text.specs.Texts.{AreNew, Table}
use Rattle.fugue_text.proofs.tests.typed.Goals as goal

all_new : (node f : OpId) (n : ℕ) → AreNew empty node f n
all_new node f zero = tt
all_new node f (suc n) = (get-empty row_cmp (node, f), all_new node (id_plus f 1) n)

pub type_run-requires-clause-new : goal.type_run-requires-clause-new
type_run-requires-clause-new c = subst (λ (t : Table). AreNew t _ _ (length (chars c.args.text.now))) (sym c.new-texts.ensures) (all_new _ _ _)

pub type_run-requires-clause-in_range : goal.type_run-requires-clause-in_range
type_run-requires-clause-in_range c =
    let bytes = length-le-encodes (chars c.args.text.now) in
    let same = ap length (encodes-chars c.args.text.now c.utf8.text) in
    omega (arith, bytes, same, c.if-text-lt1000.true)
