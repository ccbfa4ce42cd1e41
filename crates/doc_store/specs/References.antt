-- Operations that refer wrongly.
use Rattle.std.specs.Prelude.{◌≡◌, ℕ, ◌^◌, ◌-◌, ◌||◌, ◌&&◌, not, min, Bool, Option, Some, None, Result, Ok, Err, is_some, List, [], map, filter, slice_get}
use Rattle.std.specs.List.{list_any}
use Rattle.std.specs.FinMap.{FinMap, get}
use Rattle.std.specs.BTreeSet.{BTreeSet, contains}
use Rattle.std.specs.Ordering.{eq_by_cmp}
use Rattle.op_ids.specs.declared.OpId.{OpId}
use Rattle.op_ids.specs.Order.{id_cmp, id_lt}
use Rattle.model.specs.Held.{refers_wrongly, wrong_references, wrong_ids}
use Rattle.model.specs.Operation.{Operation}
use Rattle.model.specs.State.{State, Atom, RowKey, row_cmp, after, apart, run_of}
use Rattle.op_grammar.specs.Operations.{operation_of}
use Rattle.op_grammar.specs.declared.operation.OpRef.{OpRef}
use Rattle.doc_store.specs.declared.references.BadRef.{BadRef}
use Rattle.doc_store.specs.Documents.{Joins}
use Rattle.doc_store.specs.Kept.{Drafted, Kept, document_of, state_of}
use Rattle.doc_store.specs.declared.made.Made.{Made}
use Rattle.doc_store.specs.declared.references.TakeFault.{TakeFault}
use Rattle.doc_store.specs.declared.references.TakeFault.TheVariants.{NoMemory, Wrong}

-- The first wrong reference of the operations, each after those before it, or none. 2^32 - 1 stands for any greater place.
abbrev pub IsFirstWrong : State → List Atom → Option BadRef → Type 0
IsFirstWrong s ops None = wrong_references s 0 ops ≡ []
IsFirstWrong s ops (Some b) = (place : ℕ) × (slice_get (wrong_references s 0 ops) 0 ≡ Some (refers_wrongly place b.id)) × (b.op ≡ min place (2 ^ 32 - 1))

-- the first of these ids, each with whether it is there, that isn't there or isn't smaller than the operation's
abbrev pub first_wrong_of : OpId → List (OpId × Bool) → Option OpId
first_wrong_of id names = slice_get (map (λ n. n.0) (filter (λ n. not (n.1 && id_lt n.0 id)) names)) 0

-- Operations that come to a document and refer right go to their places. Otherwise the first wrong reference is told.
abbrev pub TakesRight : Kept → List Atom → Result Drafted TakeFault → Type 0
TakesRight d ops (Ok now) = (wrong_references (state_of d) 0 ops ≡ []) × Joins d ops (document_of now)
TakesRight d ops (Err (Wrong b)) = IsFirstWrong (state_of d) ops (Some b)
TakesRight d ops (Err NoMemory) = Unit {0}

-- ---- rows that operations make

-- A row of a table is there if it was there before, or was made since.
abbrev pub RowsMade : {X : Type 0} → FinMap row_cmp X → BTreeSet RowKey → FinMap row_cmp X → Type 0
RowsMade before made now = (owner q : OpId) → is_some (get now (owner, q)) ≡ (is_some (get before (owner, q)) || contains row_cmp made (owner, q))

-- What is there in the second state is what is there in the first, and the rows that were made since.
pub record HasMade (s : State) (made : Made) (u : State) : Type 0 where
  pub nodes : (q : OpId) → is_some (get u.nodes q) ≡ (is_some (get s.nodes q) || contains id_cmp made.nodes q)
  pub positions : RowsMade s.positions made.positions u.positions
  pub characters : RowsMade s.texts made.characters u.texts
  pub list_positions : RowsMade s.list_positions made.list_positions u.list_positions
  pub elements : RowsMade s.elements made.elements u.elements

-- No rows are made yet.
abbrev pub MakesNone : Made → Type 0
MakesNone made = (s : State) → HasMade s made s

-- Over every state, what is there after an operation that refers right is known.
abbrev pub MakesRows : Made → OpId → Operation → Made → Type 0
MakesRows old id o new = (s u : State) → HasMade s old u → wrong_ids u id o ≡ [] → HasMade s new (after u (apart id o))

-- What the operation makes is added, if there is one.
abbrev pub AddsLast : Made → Option (OpId × OpRef) → Made → Type 0
AddsLast old None new = new ≡ old
AddsLast old (Some p) new = MakesRows old p.0 (operation_of p.1) new

-- whether the key is of this owner and one of so many ids, from the first on
abbrev pub is_in_run : OpId → OpId → ℕ → RowKey → Bool
is_in_run owner first count q = list_any (λ k. eq_by_cmp row_cmp q (owner, k)) (run_of first count)

-- The second set has the keys of the first, and those of a run.
abbrev pub HasRun : BTreeSet RowKey → OpId → OpId → ℕ → BTreeSet RowKey → Type 0
HasRun old owner first count new = (q : RowKey) → contains row_cmp new q ≡ (contains row_cmp old q || is_in_run owner first count q)
