-- The change that some bytes spell.
use Rattle.std.specs.Prelude.{ℕ, List}
use Rattle.model.specs.Change.{Change}
use Rattle.lazy_blocks.specs.Deciding.{spelled_or_not, found}

-- the change of n members that the bytes spell, or one of nobody where they spell none
unfoldable pub change_in : ℕ → List ℕ → Change
change_in n bytes = found n bytes (spelled_or_not n bytes)
