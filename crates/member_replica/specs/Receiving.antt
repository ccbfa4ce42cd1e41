-- Receiving on shelves of changes. Private contracts alone cite this.
use Rattle.std.specs.Prelude.{◌≡◌, ℕ, ◌+◌, ◌<◌, ◌^◌, List, [], length}
use Rattle.std.specs.List.{AllByRecursion}
use Rattle.model.specs.Base.{base_of}
use Rattle.model.specs.Change.{Change, EachAfter, IsChange}
use Rattle.model.specs.File.{IsNextName}
use Rattle.model.specs.Held.{Held, held_behind}
use Rattle.model.specs.Ledger.{Sound}
use Rattle.model.specs.Settle.{Report, Settling}
use Rattle.causal_inbox.specs.Offers.{after_offer}
use Rattle.causal_inbox.specs.Orders.{Holds as IsSorted}
use Rattle.causal_inbox.specs.declared.inbox.Offered.{Offered}
use Rattle.holding.specs.Holds.{Holds}
use Rattle.holding.specs.declared.holding.Holding.{Holding}
use Rattle.member_replica.specs.Reports.{IsReport}
use Rattle.member_replica.specs.declared.settle.Judging.{Judging}
use Rattle.member_replica.specs.declared.settle.Settled.{Settled as SettledStruct}

-- The kept changes are a ledger, which is what is held; those that wait stand in the order of their names; and all are changes of n members,
-- fewer than can be counted.
pub record MaySettle (n : ℕ) (h : Holding) (ledger waits offers : List Change) : Type 0 where
  pub holds : Holds h n (base_of n [] 0) ledger
  pub sound : Sound n ledger
  pub kept : AllByRecursion (IsChange n) ledger
  pub waiting : AllByRecursion (IsChange n) waits
  pub offered : AllByRecursion (IsChange n) offers
  pub by_name : EachAfter IsNextName [] waits
  pub few : length ledger + (length waits + length offers) < 2 ^ 32

-- This is what settling came to.
pub record IsSettled (s : Settling) (r : SettledStruct) : Type 0 where
  pub kept : r.kept ≡ s.held
  pub waiting : r.waiting ≡ s.pool
  pub report : IsReport r.report s

-- ---- on the way there

-- what is held of a ledger, read behind a base without changes
abbrev pub reading : ℕ → List Change → Held
reading n h = held_behind (base_of n [] 0) h

-- the report with a change that is offered
abbrev pub told : Report → Change → Offered → Report
told r c o = (after_offer (record { held = []; pool = []; report = r }) c o).report

-- Settling has come so far: this is held, this is the report, and these are the pool by their names.
pub record IsSoFar (held sorted : List Change) (r : Report) (s : Settling) : Type 0 where
  pub pool : IsSorted sorted s.pool
  pub is : s ≡ record { held = held; pool = s.pool; report = r }

-- A ledger is what is held, and the changes that may join it are changes of its members.
pub record IsJudging (j : Judging) : Type 0 where
  pub holds : Holds j.holding j.inbox.members (base_of j.inbox.members [] 0) j.ledger
  pub sound : Sound j.inbox.members j.ledger
  pub pooled : AllByRecursion (IsChange j.inbox.members) j.inbox.pool
