-- How many moves are done and undone when changes arrive late.
use Rattle.std.specs.Prelude.{ℕ, ◌+◌, ◌*◌, List, [], ◌∷◌, filter, sum_by, count_by, Bool, true, false}
use Rattle.model.specs.Operation.{Operation, new_node, move_node}
use Rattle.model.specs.Change.{Change, is_before}
use Rattle.model.specs.Ledger.{add}

-- it makes a node or moves one
abbrev pub is_move : Operation → Bool
is_move (new_node parent at) = true
is_move (move_node child parent at) = true
is_move _ = false

abbrev pub move_count : Change → ℕ
move_count c = count_by is_move c.operations

-- the changes of a ledger that come after this one
abbrev pub later_than : List Change → Change → List Change
later_than h c = filter (is_before c) h

-- A change costs its own moves, and twice those of the changes after it: each is undone and done again.
abbrev pub cost : List Change → Change → ℕ
cost h c = 2 * sum_by move_count (later_than h c) + move_count c

-- of changes that are added one after the other
abbrev pub cost_of : List Change → List Change → ℕ
cost_of h [] = 0
cost_of h (c ∷ cs) = cost h c + cost_of (add h c) cs
