-- How many operations are read, and of which changes.
use Rattle.std.specs.Prelude.{ℕ, zero, suc, List, [], fold, length, sum_by}
use Rattle.std.specs.List.{cons_option}
use Rattle.model.specs.Change.{Change}
use Rattle.model.specs.File.{File}
use Rattle.model.specs.Held.{Held, held_behind}
use Rattle.model.specs.Reading.{base_in}
use Rattle.model.specs.Settle.{Settling, begun, least_ready, next_judged, offered_one}

-- how many operations changes have
abbrev pub operations_in : List Change → ℕ
operations_in changes = sum_by (λ c. length c.operations) changes

-- the changes that are ready when their turn comes, of so many turns
abbrev pub ready_in : ℕ → ℕ → (List Change → Held) → Settling → List Change
ready_in zero n reading s = []
ready_in (suc turns) n reading s = cons_option (least_ready n (reading s.held) s.pool) (ready_in turns n reading (next_judged n reading s))

-- those of a delivery: each is judged, and so accepted or refused
abbrev pub readied : ℕ → (List Change → Held) → List Change → List Change → List Change → List Change → List Change
readied n reading h kept waiting offered =
    let pooled = fold (offered_one (reading h) kept) (begun (reading h) h waiting) offered in
    ready_in (length pooled.pool) n reading pooled

abbrev pub readied_in : File → List Change → List Change
readied_in f offered = readied f.members (held_behind (base_in f)) f.kept f.kept f.waiting offered
