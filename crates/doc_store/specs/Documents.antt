-- A document: a state and the operations since, by rising ids, whatever the order in which they came.
use Rattle.std.specs.Prelude.{◌≡◌, ℕ, ◌+◌, ◌<◌, ◌≤◌, ◌^◌, None, List, [], ◌∷◌, length, filter, nat_le, nat_lt, flat_map, fold, Result, OnOk}
use Rattle.std.specs.List.{AllByRecursion}
use Rattle.std.specs.FinMap.{get}
use Rattle.op_ids.specs.declared.OpId.{OpId}
use Rattle.outside.specs.Faults.{raised}
use Rattle.outside.specs.Work.{Work}
use Rattle.model.specs.Operation.{IsOperation}
use Rattle.model.specs.State.{State, Atom, after, apart}
use Rattle.model_laws.specs.Arrival.{AreBelow, Contents, IsFresh, IsMadeOf, all_placed, late}
use Rattle.model_laws.specs.Tree.{IsTree}
use Rattle.tree_log.specs.Steps.{moves_of}
use Rattle.doc_store.specs.Kept.{Kept, state_of, MayBeDone}

-- It is the state before the operations and these since: its tables are those after them, and its log has their moves. The state's
-- nodes are a tree, and all its ids are less than the operations'.
pub record IsDocument (d : Kept) (s : State) (list : List Atom) : Type 0 where
  pub tree : IsTree s.nodes
  pub made_of : IsMadeOf s list
  pub timed : AllByRecursion (λ a. 1 ≤ a.id.time) list
  pub state : state_of d ≡ after s list
  pub base : d.log.base ≡ s.nodes
  pub moves : d.log.moves ≡ moves_of list

-- ---- operations that come

-- the ids that operations take, each with what it does
abbrev pub parts_of : List Atom → List Atom
parts_of ops = flat_map (λ a. apart a.id a.operation) ops

-- an id of a change
pub record IsOwnId (id : OpId) : Type 0 where
  pub some : 1 ≤ id.time
  pub time : id.time < 2 ^ 48
  pub member : id.member < 32
  pub index : id.index < 65536

-- an operation with the form and the bounds of one, and ids of a change
pub record IsFormed (a : Atom) : Type 0 where
  pub operation : IsOperation 32 a.operation
  pub ids : AllByRecursion (λ b. IsOwnId b.id) (apart a.id a.operation)

-- No row of the document has this id.
pub record HasNoRow (s : State) (id : OpId) : Type 0 where
  pub nodes : get s.nodes id ≡ None
  pub positions : (owner : OpId) → get s.positions (owner, id) ≡ None
  pub texts : (owner : OpId) → get s.texts (owner, id) ≡ None
  pub list_positions : (owner : OpId) → get s.list_positions (owner, id) ≡ None
  pub elements : (owner : OpId) → get s.elements (owner, id) ≡ None

-- Operations come to a document, and each goes to its place.
abbrev pub Joins : Kept → List Atom → Kept → Type 0
Joins d ops now =
    (s : State) (list : List Atom) → IsDocument d s list → AllByRecursion (λ a. AreBelow s a.id) (parts_of ops) → AllByRecursion (λ a. IsFresh list a.id) (parts_of ops)
    → IsDocument now s (all_placed (parts_of ops) list)

-- The operations with a time of at most this become part of the state.
abbrev pub Forgets : Kept → ℕ → Kept → Type 0
Forgets d time now =
    (s : State) (list : List Atom) → IsDocument d s list → IsDocument now (after s (filter (λ a. nat_le a.id.time time) list)) (filter (λ a. nat_lt time a.id.time) list)

-- ---- one after the other

-- the tables after all of these, each as it comes
abbrev pub all_late : Contents → List Atom → Contents
all_late c list = fold late c list

abbrev pub AllMayBeDone : Contents → List Atom → Type 0
AllMayBeDone c [] = Unit {0}
AllMayBeDone c (a ∷ ops) = MayBeDone c a.id a.operation × AllMayBeDone (all_late c (apart a.id a.operation)) ops

-- ---- work

-- a count of decoded operations after these
abbrev pub decoded_by : List Atom → ℕ → ℕ
decoded_by [] n = n
decoded_by (a ∷ ops) n = decoded_by ops (raised n)

-- All operations were decoded where the call succeeds, and at most all where it is refused.
pub record DecodesAll {T E : Type 0} (old new : Work) (ops : List Atom) (result : Result T E) : Type 0 where
  pub done : OnOk result (new.decoded ≡ decoded_by ops old.decoded)
  pub rose : old.decoded ≤ new.decoded
  pub bound : new.decoded ≤ old.decoded + length ops

-- At most so many operations were decoded, and no move was made.
pub record DecodesSome (old new : Work) (most : ℕ) : Type 0 where
  pub moves : new.moves ≡ old.moves
  pub rose : old.decoded ≤ new.decoded
  pub bound : new.decoded ≤ old.decoded + most

-- ---- a law

-- An id that is greater than those of the state and isn't an operation's is no row's.
abbrev pub FreshIdsHaveNoRow : Type 0
FreshIdsHaveNoRow = (s : State) (list : List Atom) (id : OpId) → IsMadeOf s list → AreBelow s id → IsFresh list id → HasNoRow (after s list) id
