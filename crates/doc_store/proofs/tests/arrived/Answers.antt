use Rattle.std.proofs.Common.{◌≡◌, ◌||◌, ◌∙◌, Bool, true, false, Some, List, [], ◌∷◌, ◌++◌, take, refl, sym, ap, subst, slice_index_or}
use Rattle.std.proofs.lemmas.List.{take_more}
use Rattle.std.proofs.lemmas.List.Folds.{list_any-append}
use Rattle.std.specs.List.{AllByRecursion, list_any, filter}
use Rattle.op_ids.specs.declared.OpId.{OpId}
use Rattle.op_ids.specs.Order.{id_eq, root_id}
use Rattle.model.specs.Change.{placed}
use Rattle.model.specs.Operation.{Operation, new_node, move_node}
use Rattle.model.specs.State.{Atom, apart, empty_state}
use Rattle.model_laws.specs.Arrival.{AreBelow, IsFresh, Rises, all_placed, atom_before}
use Rattle.model_laws.proofs.ListLaws.{all_append, all_of_any}
use Rattle.arrival_laws.proofs.AddLaws.{all_kept}
use Rattle.arrival_laws.proofs.DocumentLaws.{empty_below}
use Rattle.op_grammar.specs.Operations.{operation_of}
use Rattle.tree_log.specs.declared.moves.TreeMove.{TreeMove}
use Rattle.tree_log.specs.Steps.{move_by}
use Rattle.doc_store.specs.Documents.{HasNoRow, IsDocument, Joins, parts_of}
use Rattle.doc_store.specs.Kept.{Drafted, document_of, state_of}
use Rattle.doc_store.proofs.FreshLaws.{free_in}
use Rattle.doc_store.proofs.ReferenceLaws.{none_wrong}
use Rattle.doc_store.proofs.tests.arrived.Invariants.{Stands}
use Rattle.doc_store.proofs.tests.arrived.Goals as goal

abbrev no_move : TreeMove
no_move = record { id = root_id; child = root_id; parent = root_id }

-- a move takes one id
one_id : (id : OpId) (o : Operation) (t : TreeMove) → move_by id o ≡ Some t → apart id o ≡ record { id = id; operation = o } ∷ []
one_id id (new_node parent at) t m = refl
one_id id (move_node child parent at) t m = refl
one_id id _ t m = cc

both_false : (a b : Bool) → (a || b) ≡ false → (a ≡ false) × (b ≡ false)
both_false true b e = cc
both_false false b e = (refl, e)

fresh_placed : (a : Atom) (list : List Atom) (q : OpId) → id_eq a.id q ≡ false → IsFresh list q → IsFresh (placed atom_before a list) q
fresh_placed a list q e f =
    let Other = λ (b : Atom). id_eq b.id q ≡ false in
    all_append Other (filter (λ b. atom_before b a) list) (a ∷ filter (λ b. atom_before a b) list) (all_kept Other (λ b. atom_before b a) list f) (e, all_kept Other (λ b. atom_before a b) list f)

module _ (was mid : Drafted) (before : List TreeMove) (t : TreeMove) (o : Operation) (s : Stands was before) (same : document_of mid ≡ document_of was) (no : list_any (λ (u : TreeMove). id_eq u.id t.id) before ≡ false) (m : move_by t.id o ≡ Some t) where
  abbrev a : Atom
  a = record { id = t.id; operation = o }

  parts : parts_of (a ∷ []) ≡ a ∷ []
  parts = ap (λ l. l ++ []) (one_id t.id o t m)

  stood : IsDocument (document_of mid) empty_state s.list
  stood = subst (λ k. IsDocument k empty_state s.list) (sym same) s.is

  parts_fresh : AllByRecursion (λ b. IsFresh s.list b.id) (parts_of (a ∷ []))
  parts_fresh = subst (AllByRecursion (λ b. IsFresh s.list b.id)) (sym parts) (s.fresh t.id no, tt)

  rises : Rises (parts_of (a ∷ []))
  rises = subst Rises (sym parts) (tt, tt)

  free : AllByRecursion (λ b. HasNoRow (state_of (document_of mid)) b.id) (parts_of (a ∷ []))
  free = free_in (document_of mid) s.list (parts_of (a ∷ [])) stood parts_fresh

  stands : (now : Drafted) → Joins (document_of mid) (a ∷ []) (document_of now) → Stands now (before ++ t ∷ [])
  stands now joins = record {
    list = all_placed (parts_of (a ∷ [])) s.list;
    is = joins empty_state s.list stood (all_of_any (λ b. AreBelow empty_state b.id) (λ b. empty_below b.id) (parts_of (a ∷ []))) parts_fresh;
    fresh = λ q e.
        let each = both_false (list_any (λ u. id_eq u.id q) before) (list_any (λ u. id_eq u.id q) (t ∷ [])) (sym (list_any-append (λ (u : TreeMove). id_eq u.id q) before (t ∷ [])) ∙ e) in
        subst (λ xs. IsFresh (all_placed xs s.list) q) (sym parts) (fresh_placed a s.list q (both_false (id_eq t.id q) false each.1).0 (s.fresh q each.0));
  }

pub loop-place-init : goal.loop-place-init
loop-place-init c = record { list = []; is = subst (λ k. IsDocument k empty_state []) (sym (ap document_of c.of-draft.ensures)) c.new.ensures; fresh = λ q e. tt }

pub apply-requires : goal.apply-requires
apply-requires c κs =
    let t = slice_index_or c.args.moves.now c.loop-place.place no_move in
    let d = c.in_ok-draft.draft in
    let before = take c.loop-place.place c.args.moves.now in
    let no : list_any (λ u. id_eq u.id t.id) before ≡ false = sym c.has_id.ensures ∙ c.if-has_id.false in
    let o = operation_of c.in-Some.op in
    let refer = none_wrong (state_of (document_of d)) (record { id = t.id; operation = o } ∷ []) c.in_ok-refs_known.field-0 (sym c.is_some.ensures ∙ c.if-is_some.false) c.in_ok-refs_known.ensures.first in
    let late_rises = rises c.loop-place.draft d before t o c.loop-place.invariant c.in_ok-draft.ensures no c.in-Some.ensures.moves in
    let late_free = free c.loop-place.draft d before t o c.loop-place.invariant c.in_ok-draft.ensures no c.in-Some.ensures.moves in
    ((refl, tt), ((c.in-Some.ensures.formed, tt), (refer, (late_rises, late_free))))

pub loop-place-preserved : goal.loop-place-preserved
loop-place-preserved c =
    let t = slice_index_or c.args.moves.now c.loop-place.place no_move in
    let before = take c.loop-place.place c.args.moves.now in
    let no : list_any (λ u. id_eq u.id t.id) before ≡ false = sym c.has_id.ensures ∙ c.if-has_id.false in
    subst (Stands c.in_ok-draft-2.draft) (sym (take_more c.args.moves.now c.loop-place.place no_move c.loop-place-test.true))
    (stands c.loop-place.draft c.in_ok-draft.draft before t (operation_of c.in-Some.op) c.loop-place.invariant c.in_ok-draft.ensures no c.in-Some.ensures.moves c.in_ok-draft-2.draft c.in_ok-draft-2.ensures.joins)
