-- Writes that come in any order.
use Rattle.std.specs.Prelude.{◌≡◌, ◌≢◌}
use Rattle.op_ids.specs.declared.OpId.{OpId}
use Rattle.model.specs.Operation.{Operation}
use Rattle.model_laws.specs.Arrival.{late_register}
use Rattle.lww_map.specs.Keys.{Table}

-- Of two operations with different ids it doesn't matter which comes first.
abbrev pub WritesComeInAnyOrder : Type 0
WritesComeInAnyOrder = (m : Table) (i j : OpId) (p q : Operation) → i ≢ j → late_register (late_register m i p) j q ≡ late_register (late_register m j q) i p
