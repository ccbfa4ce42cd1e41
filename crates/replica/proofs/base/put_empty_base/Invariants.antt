use Rattle.std.proofs.Common.{◌≡◌, ◌++◌, flat_map, replicate}
use Rattle.cbor_det.specs.Item as cbor
use Rattle.replica.specs.Empty.{empty_row_item}
use Rattle.replica.proofs.base.put_empty_base.Given as goal

abbrev pub invariant-rows : goal.invariant-rows
invariant-rows l = l.out.items ≡ l.initial.out.items ++ flat_map cbor.spell (replicate l.counter (empty_row_item l.n))
