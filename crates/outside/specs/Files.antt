-- Files by their names, a name being the bytes of its text.
use Rattle.std.specs.Prelude.{ℕ, List, Option}
use Rattle.std.specs.Ordering.{nat_cmp}
use Rattle.std.specs.Cmp.Lexicographic.{slice_cmp}
use Rattle.std.specs.FinMap.{FinMap, get, insert}

-- each name's bytes
abbrev pub Files : Type 0
Files = FinMap (slice_cmp nat_cmp) (List ℕ)

-- the bytes of the file with this name
abbrev pub file_at : Files → List ℕ → Option (List ℕ)
file_at files name = get files name

-- the files with this one in the place of the one with its name, or beside the others
abbrev pub stored : Files → List ℕ → List ℕ → Files
stored files name bytes = insert files name bytes
