-- Files that a command reads, as the code has them. Private contracts alone cite this.
use Rattle.std.specs.Prelude.{◌≡◌, ◌≢◌, ℕ, List, map}
use Rattle.model.specs.File.{File, Kind, bundle, kind_number}
use Rattle.model.specs.Stands.{IsStored}
use Rattle.replica.specs.Scanning.{HasEmptyBase}

-- these numbers are those of the kinds
abbrev pub AreKinds : List ℕ → List Kind → Type 0
AreKinds numbers kinds = numbers ≡ map kind_number kinds

-- The bytes spell the file, and its base is empty if its kind has one.
pub record IsScanned (bytes : List ℕ) (f : File) : Type 0 where
  pub stored : IsStored bytes f
  pub base : HasEmptyBase f

-- A stored file that has a base, the empty one: nothing was trimmed from it.
pub record IsUntrimmed (f : File) : Type 0 where
  pub bytes : List ℕ
  pub scanned : IsScanned bytes f
  pub kind : f.kind ≢ bundle
