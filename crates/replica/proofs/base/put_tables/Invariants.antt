use Rattle.std.proofs.Common.{◌≡◌, ◌++◌, flat_map, replicate}
use Rattle.cbor_det.specs.Head.{head}
use Rattle.replica.proofs.base.put_tables.Given as goal

abbrev pub invariant-tables : goal.invariant-tables
invariant-tables l = l.out.items ≡ l.initial.out.items ++ flat_map (head 4) (replicate l.counter 0)
