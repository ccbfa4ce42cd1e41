-- The operations of a block that are left.
use Rattle.std.specs.Prelude.{◌≡◌, ◌+◌, ◌-◌, ◌≤◌, List, length, drop, sum_by}
use Rattle.model.specs.Operation.{Operation, width_of}
use Rattle.model.specs.Change.{IsChange, body}
use Rattle.model.specs.State.{Atom, by_ids}
use Rattle.lazy_blocks.specs.declared.ops.Ops.TheInside.{Inside}

-- the last operations of the block, so many
abbrev pub operations_left : Inside → List Operation
operations_left o = drop (length o.block.now.operations - o.count) o.block.now.operations

abbrev pub atoms_left : Inside → List Atom
atoms_left o = by_ids o.block.now.time o.block.now.member o.index (operations_left o)

pub record AreLeft (o : Inside) : Type 0 where
  pub is : IsChange (length o.block.now.causes) o.block.now
  pub few : o.count ≤ length o.block.now.operations
  pub rest : o.rest.now ≡ body (operations_left o)
  pub within : o.index + sum_by width_of (operations_left o) ≤ 65536
