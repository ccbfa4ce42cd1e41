-- What a sink holds.
use Rattle.std.specs.Prelude.{ℕ, List, ◌++◌, take, Option, Result, Ok, Err}
use Rattle.std.specs.Option.{option_map}
use Rattle.outside.specs.declared.sink.SinkFailed.{SinkFailed}

-- what is known to be written, with more at its end
abbrev pub appended : Option (List ℕ) → List ℕ → Option (List ℕ)
appended told bytes = option_map (λ written. written ++ bytes) told

-- what is written after a put
abbrev pub written_after : Option (List ℕ) → List ℕ → Result ℕ SinkFailed → Option (List ℕ)
written_after told piece (Ok n) = appended told (take n piece)
written_after told piece (Err fault) = told
