-- The model's pool stands in the order in which changes joined it, and an inbox has them by their names. Receiving makes the same of both.
use Rattle.std.specs.Prelude.{◌≡◌, ℕ, false, List, [], ◌∷◌, ◌++◌, Option}
use Rattle.std.specs.List.{AllByRecursion}
use Rattle.model.specs.Change.{Change, name_of, has_name, in_order}
use Rattle.model.specs.Held.{Held}
use Rattle.model.specs.Settle.{name_before, least_ready}
use Rattle.causal_inbox.specs.Offers.{IsOffered, IsRest, pool_after, taken_out}
use Rattle.causal_inbox.specs.declared.inbox.Offered.{Offered}
use Rattle.causal_inbox.specs.declared.inbox.Offered.TheVariants.{Joined}

-- No two have one name.
abbrev pub AreApart : List Change → Type 0
AreApart [] = Unit {0}
AreApart (c ∷ cs) = AllByRecursion (λ d. has_name (name_of c) d ≡ false) cs × AreApart cs

-- By their names these are the sorted ones.
pub record Holds (sorted pool : List Change) : Type 0 where
  pub apart : AreApart pool
  pub order : in_order name_before pool ≡ sorted

-- the pool after an offer, in the order of joining
abbrev pub pool_joined : List Change → Change → Offered → List Change
pool_joined pool c Joined = pool ++ c ∷ []
pool_joined pool c _ = pool

-- Each step answers the same, and leaves the same.
pub record SameSteps (sorted pool : List Change) : Type 0 where
  pub offers : (past : Held) (kept : List Change) (c : Change) (o : Offered) → IsOffered past kept sorted c o → IsOffered past kept pool c o × Holds (pool_after sorted c o) (pool_joined pool c o)
  pub ready : (n : ℕ) (past : Held) → least_ready n past pool ≡ least_ready n past sorted
  pub taken : (o : Option Change) → Holds (taken_out sorted o) (taken_out pool o)
  pub rest : (waiting : List Change) (full : List (ℕ × ℕ)) → IsRest sorted waiting full → IsRest pool waiting full

abbrev pub AnyOrder : Type 0
AnyOrder = (sorted pool : List Change) → Holds sorted pool → SameSteps sorted pool
