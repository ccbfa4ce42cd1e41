-- How many moves changes have.
use Rattle.std.proofs.Common.{◌≡◌, ℕ, ◌+◌, cond, List, [], ◌∷◌, length, refl, sym, ap, ◌∙◌, arith}
use Rattle.std.specs.Prelude.{count_by, sum_by}
use Rattle.std.specs.List.{cons_option}
use Rattle.std.proofs.lemmas.List.{length-append}
use Rattle.std.proofs.lemmas.List.Elements.{filter_map-append}
use Rattle.std.proofs.lemmas.List.Sums.{sum_by-cons}
use Rattle.op_ids.specs.declared.OpId.{OpId}
use Rattle.model.specs.Change.{Change}
use Rattle.model.specs.Cost.{is_move, move_count}
use Rattle.model.specs.Operation.{Operation, new_node, move_node, put_key, type_text, erase_text, add_item, shift_item, set_item, drop_item, width_of}
use Rattle.model.specs.State.{Atom, atoms, by_ids, change_atoms}
use Rattle.tree_log.specs.Steps.{move_by, moves_of}
use Rattle.tree_log.specs.declared.moves.TreeMove.{TreeMove}
use Rattle.doc_store.proofs.MoveLaws.{moves_of-parts}

one_counted : (id : OpId) (o : Operation) (ts : List TreeMove) → length (cons_option (move_by id o) ts) ≡ cond (is_move o) 1 0 + length ts
one_counted id (new_node parent at) ts = omega arith
one_counted id (move_node child parent at) ts = omega arith
one_counted id (put_key node key value) ts = omega arith
one_counted id (type_text node at characters) ts = omega arith
one_counted id (erase_text node first count) ts = omega arith
one_counted id (add_item node at value) ts = omega arith
one_counted id (shift_item node element at) ts = omega arith
one_counted id (set_item node element value) ts = omega arith
one_counted id (drop_item node element) ts = omega arith

moves_counted : (time member index : ℕ) (os : List Operation) → length (moves_of (by_ids time member index os)) ≡ count_by is_move os
moves_counted time member index [] = refl
moves_counted time member index (o ∷ os) =
    one_counted (record { time = time; member = member; index = index }) o (moves_of (by_ids time member (index + width_of o) os)) ∙ ap (λ n. cond (is_move o) 1 0 + n) (moves_counted time member (index + width_of o) os)
    ∙ sym (sum_by-cons (λ o. cond (is_move o) 1 0) o os)

-- as many as the operations that make or move nodes
pub all_counted : (kept : List Change) → length (moves_of (atoms kept)) ≡ sum_by move_count kept
all_counted [] = refl
all_counted (c ∷ kept) =
    ap (λ (ts : List TreeMove). length ts) (filter_map-append (λ (a : Atom). move_by a.id a.operation) (change_atoms c) (atoms kept)) ∙ length-append (moves_of (change_atoms c)) (moves_of (atoms kept))
    ∙ (λ i. (ap (λ (ts : List TreeMove). length ts) (moves_of-parts (by_ids c.time c.member 0 c.operations)) ∙ moves_counted c.time c.member 0 c.operations) i + all_counted kept i) ∙ sym (sum_by-cons move_count c kept)
