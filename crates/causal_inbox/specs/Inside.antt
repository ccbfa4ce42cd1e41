-- What lies in memory, as contracts see it.
use Rattle.std.specs.Prelude.{◌≡◌, List, map}
use Rattle.std.specs.List.{AllByRecursion}
use Rattle.model.specs.Change.{Change}
use Rattle.causal_inbox.specs.Names.{key_of}
use Rattle.causal_inbox.specs.Kept.{Marks, mark_seen}
use Rattle.causal_inbox.specs.declared.pool.Pool.TheInside as pool
use Rattle.causal_inbox.specs.declared.index.Index.TheInside as index

abbrev pub changes_in : pool.Inside → List Change
changes_in p = map (λ e. e.1) p.blocks.entries

-- each block stands at its name
abbrev pub IsKeyed : pool.Inside → Type 0
IsKeyed p = AllByRecursion (λ e. e.0 ≡ key_of e.1) p.blocks.entries

abbrev pub marks_in : index.Inside → Marks
marks_in i = map (λ e. (e.0, mark_seen e.1)) i.marks.entries
