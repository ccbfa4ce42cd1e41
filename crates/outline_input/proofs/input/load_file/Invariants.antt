use Rattle.std.proofs.Common.{◌≡◌, ◌<◌, ◌-◌, ◌+◌, Some, length, vec_len}
use Rattle.outside.specs.Files.{Files, file_at}
use Rattle.outside.specs.Keeper.{OnlyLoaded}
use Rattle.model.specs.File.{file_limit}
use Rattle.outline_input.specs.Input.{IsFrontOf}
use Rattle.outline_input.proofs.input.load_file.Given as goal

abbrev pub invariant-loop-keeper : goal.invariant-loop-keeper
invariant-loop-keeper g l = record {
  room : 0 < length l.room.items;
  told : (files : Files) → g.K.Keeper.files l.initial.keeper ≡ Some files → IsFrontOf (file_at files l.name) l.bytes.items;
  loads : OnlyLoaded g.K.Keeper.files g.K.Keeper.load_faults g.K.Keeper.store_faults l.initial.keeper l.keeper;
  failed : g.K.Keeper.failed l.keeper ≡ g.K.Keeper.failed l.initial.keeper;
}

abbrev pub decreases-loop-keeper : goal.decreases-loop-keeper
decreases-loop-keeper g l = (file_limit + 1) - vec_len l.bytes
