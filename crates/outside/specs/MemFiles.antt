-- The files that a map from names to bytes holds.
use Rattle.std.specs.Prelude.{ℕ, List, map, String, Vec}
use Rattle.std.specs.String.{string_bytes}
use Rattle.std.specs.FinMap as fin
use Rattle.outside.specs.Files.{Files}

-- a file's name and bytes
abbrev pub file_entry : {A B : Type 0} → String A × Vec ℕ B → List ℕ × List ℕ
file_entry e = (string_bytes e.0, e.1.items)

-- the entries of a map in memory, as files
abbrev pub files_of : {A B : Type 0} → List (String A × Vec ℕ B) → Files
files_of entries = fin.from_entries (map file_entry entries)
