-- What may join a ledger.
use Rattle.std.specs.Prelude.{◌≡◌, ◌+◌, ℕ, List, [], None}
use Rattle.model.specs.Base.{base_of}
use Rattle.model.specs.Change.{Change, IsChange}
use Rattle.model.specs.Held.{held_behind, unfit}
use Rattle.model.specs.Ledger.{Joins, Sound}
use Rattle.holding.specs.Holds.{MayJoin}

-- A change that joins a ledger may join what is held of it behind the base of no changes.
abbrev pub LedgersMayGrow : Type 0
LedgersMayGrow = (n : ℕ) (h : List Change) (c : Change) → Sound n h → IsChange n c → Joins n h c → MayJoin n (base_of n [] 0) h c

-- The next change of its member joins the ledger if it isn't unfit there.
abbrev pub FitChangesJoin : Type 0
FitChangesJoin =
    (n : ℕ) (h : List Change) (c : Change) → Sound n h → IsChange n c → c.number ≡ ((held_behind (base_of n [] 0) h).row c.member).count + 1
    → unfit n (held_behind (base_of n [] 0) h) c ≡ None → Joins n h c
