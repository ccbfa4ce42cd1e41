-- Ledgers as they lie in memory.
use Rattle.std.specs.Prelude.{◌≡◌, List, map}
use Rattle.std.specs.List.{AllByRecursion}
use Rattle.model.specs.Change.{Change, change_stamp}
use Rattle.member_replica.specs.declared.ledger.Ledger.TheInside.{Inside}

abbrev pub changes_in : Inside → List Change
changes_in l = map (λ e. e.1) l.blocks.entries

-- each block stands at its stamp
abbrev pub IsStamped : Inside → Type 0
IsStamped l = AllByRecursion (λ e. e.0 ≡ change_stamp e.1) l.blocks.entries
