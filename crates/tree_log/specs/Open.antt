-- Moves that were taken in and are still to be done.
use Rattle.std.specs.Prelude.{◌≡◌, Bool, ◌&&◌, List, map, refl}
use Rattle.std.specs.List.{AllByRecursion, list_any}
use Rattle.std.specs.Coded.{Coded, code_by, coded×, coded_list}
use Rattle.op_ids.specs.declared.OpId.{OpId}
use Rattle.op_ids.specs.Order.{id_eq}
use Rattle.tree_log.specs.declared.moves.TreeMove.{TreeMove}
use Rattle.tree_log.specs.Moves.{Log, log_code, move_code, AllReferBack, IsFresh, Rises, has_place, inserted, places_now}

-- a log, and by their ids the moves that are still to be done
pub record Open : Type 0 where
  pub log : Log
  pub late : List TreeMove

-- the log with all of them in their places
abbrev pub whole : Open → Log
whole o = record { base = o.log.base; moves = inserted o.log.moves o.late }

-- the move makes the node: its child has its own id
abbrev pub makes : OpId → TreeMove → Bool
makes node t = id_eq node t.id && id_eq node t.child

-- one of the moves has it as its child
abbrev pub is_child : OpId → List TreeMove → Bool
is_child node moves = list_any (λ t. id_eq node t.child) moves

abbrev pub open_code : Coded Open
open_code = code_by (Log × List TreeMove) (coded× log_code (coded_list move_code)) (λ o. (o.log, o.late)) (λ p. record { log = p.0; late = p.1 }) (λ _. refl)

-- ---- how they are kept: each at its id

abbrev pub late_in : List (OpId × TreeMove) → List TreeMove
late_in entries = map (λ e. e.1) entries

abbrev pub open_of : Log → List (OpId × TreeMove) → Open
open_of log entries = record { log = log; late = late_in entries }

-- They can be done: none has the id of a move that was done, and each refers back.
pub record IsOpen (log : Log) (entries : List (OpId × TreeMove)) : Type 0 where
  pub at_ids : AllByRecursion (λ e. e.0 ≡ e.1.id) entries
  pub rises : Rises (late_in entries)
  pub fresh : AllByRecursion (λ t. IsFresh log.moves t.id) (late_in entries)
  pub refer : AllReferBack (has_place (places_now log)) (late_in entries)
