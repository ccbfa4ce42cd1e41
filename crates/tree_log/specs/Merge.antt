-- Two rising lists of moves merged into one, a move at a time.
use Rattle.std.specs.Prelude.{◌≡◌, ℕ, true, cond, List, [], ◌∷◌, ◌++◌, ◌+◌, ◌<◌, length, drop, slice_index_or}
use Rattle.std.specs.List.{AllByRecursion}
use Rattle.std.specs.FinSet.{FinSet, contains}
use Rattle.op_ids.specs.Order.{id_cmp, id_lt}
use Rattle.model_laws.specs.Tree.{Places}
use Rattle.tree_log.specs.declared.moves.TreeMove.{TreeMove}
use Rattle.tree_log.specs.declared.moves.Held.{Held}
use Rattle.tree_log.specs.Moves.{Rises, has_place}
use Rattle.tree_log.specs.Log.{AreMovesIn, IsLog, steps}

-- a move before the first one that doesn't come before it
abbrev pub put_in : TreeMove → List TreeMove → List TreeMove
put_in x [] = x ∷ []
put_in x (t ∷ ts) = cond (id_lt t.id x.id) (t ∷ put_in x ts) (x ∷ t ∷ ts)

abbrev pub merged : List TreeMove → List TreeMove → List TreeMove
merged ts [] = ts
merged ts (x ∷ xs) = merged (put_in x ts) xs

-- the next of two rising lists, from their indexes on, is the one of ts
abbrev pub NextOld : List TreeMove → List TreeMove → ℕ → ℕ → TreeMove → Type 0
NextOld ts xs i j d = (i < length ts) × (merged (drop i ts) (drop j xs) ≡ slice_index_or ts i d ∷ merged (drop (i + 1) ts) (drop j xs))

-- or the one of xs
abbrev pub NextNew : List TreeMove → List TreeMove → ℕ → ℕ → TreeMove → Type 0
NextNew ts xs i j d = (j < length xs) × (merged (drop i ts) (drop j xs) ≡ slice_index_or xs j d ∷ merged (drop i ts) (drop (j + 1) xs))

-- hs were done over base to give now, rest is still to do, and total is all
pub record Redo (base : Places) (hs : List Held) (now : Places) (rest total : List TreeMove) (admitted : FinSet id_cmp) : Type 0 where
  pub log : IsLog base hs now
  pub fits : AreMovesIn (has_place now) rest
  pub all : steps hs ++ rest ≡ total
  pub rises : Rises total
  pub admitted_all : AllByRecursion (λ (t : TreeMove). contains admitted t.child ≡ true) rest
