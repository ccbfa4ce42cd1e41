-- Values without where they lie in memory.
use Rattle.std.specs.Prelude.{IsUtf8}
use Rattle.cbor_det.specs.Head.{IsBytes}
use Rattle.model.specs.Value as model
use Rattle.op_grammar.specs.declared.value.Value.{Value}
use Rattle.op_grammar.specs.declared.value.Value.TheVariants as lent
use Rattle.op_grammar.specs.declared.value.OwnValue.{OwnValue}
use Rattle.op_grammar.specs.declared.value.OwnValue.TheVariants as own

abbrev pub value_of : Value → model.Value
value_of lent.Null = model.null
value_of (lent.Bool b) = model.truth b
value_of (lent.Int n) = model.integer n
value_of (lent.Text t) = model.text t.now
value_of (lent.Bytes b) = model.bytes b.now

abbrev pub own_value_of : OwnValue → model.Value
own_value_of own.Null = model.null
own_value_of (own.Bool b) = model.truth b
own_value_of (own.Int n) = model.integer n
own_value_of (own.Text t) = model.text t
own_value_of (own.Bytes b) = model.bytes b

-- a value but for its length
abbrev pub IsSaid : model.Value → Type 0
IsSaid (model.integer n) = model.IsValue (model.integer n)
IsSaid (model.text t) = IsUtf8 t
IsSaid (model.bytes b) = IsBytes b
IsSaid _ = Unit {0}
