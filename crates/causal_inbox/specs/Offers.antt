-- What a change that is offered becomes.
use Rattle.std.specs.Prelude.{◌≡◌, ℕ, ◌+◌, List, [], ◌∷◌, ◌++◌, Option, Some, None}
use Rattle.model.specs.Change.{Change, in_order}
use Rattle.model.specs.Held.{Held}
use Rattle.model.specs.Settle.{Settling, offered_one, forked_too, name_before, rest, without}
use Rattle.causal_inbox.specs.Names.{names_of}
use Rattle.causal_inbox.specs.Kept.{Marks, AreMarks}
use Rattle.causal_inbox.specs.declared.inbox.Offered.{Offered}
use Rattle.causal_inbox.specs.declared.inbox.Offered.TheVariants.{Known, Same, Forked, Joined}

-- the changes that wait for others, by their names; and what the kept changes spell, once one of them was asked for
pub record Waiting : Type 0 where
  pub members : ℕ
  pub pool : List Change
  pub kept : Option Marks

-- Wherever kept changes were asked for, they were these.
abbrev pub Compares : Waiting → List Change → Type 0
Compares w kept = AreMarksOf w.kept
  where
    AreMarksOf : Option Marks → Type 0
    AreMarksOf None = Unit {0}
    AreMarksOf (Some marks) = AreMarks marks kept

-- the second step, where it answers so
abbrev pub after_offer : Settling → Change → Offered → Settling
after_offer s c Known = record s { report = record s.report { known = s.report.known + 1 } }
after_offer s c Same = record s { report = record s.report { same = s.report.same + 1 } }
after_offer s c Forked = record s { report = forked_too s.report c }
after_offer s c Joined = record s { pool = s.pool ++ c ∷ [] }

-- The second step answers so, whatever was reported before.
abbrev pub IsOffered : Held → List Change → List Change → Change → Offered → Type 0
IsOffered past kept pool c o = (s : Settling) → s.pool ≡ pool → offered_one past kept s c ≡ after_offer s c o

-- the pool then
abbrev pub pool_after : List Change → Change → Offered → List Change
pool_after pool c Joined = in_order name_before (pool ++ c ∷ [])
pool_after pool c _ = pool

-- The fourth step leaves these to wait, and for those there is no room.
abbrev pub IsRest : List Change → List Change → List (ℕ × ℕ) → Type 0
IsRest pool waiting full = (s : Settling) → s.pool ≡ pool → ((rest s).pool ≡ waiting) × ((rest s).report.full ≡ names_of full)

-- what is left where one of them is taken out
abbrev pub taken_out : List Change → Option Change → List Change
taken_out pool None = pool
taken_out pool (Some c) = without c pool
