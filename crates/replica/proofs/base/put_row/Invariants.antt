use Rattle.std.proofs.Common.{◌≡◌, ◌++◌, flat_map, replicate}
use Rattle.cbor_det.specs.Head.{head}
use Rattle.replica.proofs.base.put_row.Given as goal

abbrev pub invariant-zeros : goal.invariant-zeros
invariant-zeros l = l.out.items ≡ l.initial.out.items ++ flat_map (head 0) (replicate l.counter 0)
