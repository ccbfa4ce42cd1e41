-- What a file tells by itself, from its base and the changes that it keeps, whether or not it stands for a ledger.
use Rattle.std.specs.Prelude.{ℕ, List, [], map, filter, Option, Some, unwrap_or}
use Rattle.model.specs.Change.{Change}
use Rattle.model.specs.State.{State, after, atoms}
use Rattle.model.specs.Base.{Base, base_of, members, up_to, past}
use Rattle.model.specs.Held.{Held, Refused, held_behind, row_behind, waits, first_unfit}
use Rattle.model.specs.Stability.{horizon_among}
use Rattle.model.specs.Settle.{Settling, settle}
use Rattle.model.specs.File.{File, snapshot}
use Rattle.model.specs.Command.{with_made}

-- Its base. A bundle is read as if it had the empty one.
abbrev pub base_in : File → Base
base_in f = unwrap_or f.base (base_of f.members [] 0)

abbrev pub held_in : File → Held
held_in f = held_behind (base_in f) f.kept

-- its document: the base's state, with the kept changes done
abbrev pub state_in : File → State
state_in f = (held_in f).state

-- the first kept change that isn't ready or doesn't fit
abbrev pub unfit_in : File → Option Refused
unfit_in f = first_unfit f.members (base_in f) [] f.kept

-- how many changes are known of each member
abbrev pub vector_in : File → List ℕ
vector_in f = map (λ m. ((held_in f).row m).count) (members f.members)

-- how far it may be trimmed
abbrev pub horizon_in : File → ℕ
horizon_in f = horizon_among f.members (held_in f) f.kept

-- ---- what is stored of it

-- With changes that its members made. Of the waiting changes those stay that still wait.
abbrev pub with_changes : File → List Change → File
with_changes f made =
    let kept = with_made f.kept made in
    record f { kept = kept; waiting = filter (waits f.members (held_behind (base_in f) kept)) f.waiting }

abbrev pub settled_in : File → List Change → Settling
settled_in f offered = settle f.members (held_behind (base_in f)) f.kept f.kept f.waiting offered

abbrev pub with_settled : File → Settling → File
with_settled f s = record f { kept = s.held; waiting = s.pool }

-- a base with the changes behind it up to a time
abbrev pub advanced : ℕ → Base → List Change → ℕ → Base
advanced n b kept time = record { horizon = time; rows = map (row_behind b (up_to time kept)) (members n); state = after b.state (atoms (up_to time kept)) }

-- trimmed as far as it may be
abbrev pub trimmed_in : File → File
trimmed_in f = record f { base = Some (advanced f.members (base_in f) f.kept (horizon_in f)); kept = past (horizon_in f) f.kept }

abbrev pub snapshot_in : File → File
snapshot_in f = record (trimmed_in f) { kind = snapshot; mine = []; waiting = [] }
