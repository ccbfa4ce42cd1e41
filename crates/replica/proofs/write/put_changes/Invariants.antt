use Rattle.std.proofs.Common.{◌≡◌, ◌++◌, take}
use Rattle.model.specs.File.{spell_changes}
use Rattle.replica.proofs.write.put_changes.Given as goal

abbrev pub invariant-changes : goal.invariant-changes
invariant-changes l = l.out.items ≡ l.initial.out.items ++ spell_changes (take l.i l.shelf)
