-- Changes by their names: member, and then number.
use Rattle.std.specs.Prelude.{◌≡◌, ℕ, true, List, [], ◌∷◌, map, filter, not}
use Rattle.std.specs.List.{AllByRecursion}
use Rattle.std.specs.Ordering.{ordering_then, nat_cmp}
use Rattle.std.specs.declared.cmp.Ordering.{Ordering}
use Rattle.model.specs.Change.{Change, Name, has_name}
use Rattle.model.specs.Settle.{name_before}

abbrev pub key_of : Change → ℕ × ℕ
key_of c = (c.member, c.number)

abbrev pub name_by : ℕ × ℕ → Name
name_by k = record { member = k.0; number = k.1 }

-- the order of keys
abbrev pub key_cmp : ℕ × ℕ → ℕ × ℕ → Ordering
key_cmp a b = ordering_then (nat_cmp a.0 b.0) (nat_cmp a.1 b.1)

abbrev pub names_of : List (ℕ × ℕ) → List Name
names_of ks = map name_by ks

-- Each change comes before those behind it, by its name.
abbrev pub NamesRise : List Change → Type 0
NamesRise [] = Unit {0}
NamesRise (c ∷ cs) = AllByRecursion (λ d. name_before c d ≡ true) cs × NamesRise cs

-- the changes of other names
abbrev pub others : ℕ × ℕ → List Change → List Change
others k cs = filter (λ d. not (has_name (name_by k) d)) cs
