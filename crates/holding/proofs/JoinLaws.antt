-- What is held without changes, with one more, and what is unfit there.
use Rattle.std.proofs.Common.{◌≡◌, ℕ, ◌-◌, ◌<◌, ◌≤◌, Bool, true, false, cond, List, [], ◌∷◌, ◌++◌, map, replicate, length, Option, Some, None, refl, sym, ap, subst, ◌∙◌, append_assoc}
use Rattle.std.specs.Prelude.{nat_lt, slice_get, slice_index_or, slice_set}
use Rattle.std.proofs.lemmas.List.{get_or-replicate, length-replicate, length-set}
use Rattle.std.proofs.lemmas.List.Sorted.{length_permutation}
use Rattle.std.specs.List.{AllByRecursion}
use Rattle.std.specs.Option.{option_map, option_or}
use Rattle.model.specs.Base.{Base, base_of}
use Rattle.model.specs.Change.{Change, IsChange, Name}
use Rattle.model.specs.Held as model
use Rattle.model.specs.Held.{Held, held_behind, refers_wrongly, row_behind, unfit, wrong_references}
use Rattle.model.specs.Ledger.{add}
use Rattle.model.specs.State.{State, atoms, by_ids, change_atoms, empty_state}
use Rattle.model_laws.proofs.ListLaws.{nil_from_append, nil_from_none}
use Rattle.arrival_laws.proofs.AddLaws.{to_order}
use Rattle.arrival_laws.proofs.StableLaws.{late_time_none, nil_second}
use Rattle.tree_log.specs.Moves.{Log, Rises, inserted, IsFresh}
use Rattle.tree_log.specs.Steps.{moves_of}
use Rattle.tree_log.specs.declared.moves.TreeMove.{TreeMove}
use Rattle.tree_log.proofs.SortLaws.{insertion_sorts}
use Rattle.op_grammar.specs.Changes.{head_of}
use Rattle.op_grammar.specs.declared.head.Head.{Head}
use Rattle.doc_store.specs.Documents.{IsDocument, Joins}
use Rattle.doc_store.specs.Kept.{document_of, state_of}
use Rattle.doc_store.specs.References.{IsFirstWrong}
use Rattle.doc_store.specs.declared.references.BadRef.{BadRef}
use Rattle.replica.specs.FaultText.{misfit_of}
use Rattle.replica.specs.declared.fault.Misfit.{Misfit}
use Rattle.stability.specs.Rows.{row_of, taken}
use Rattle.stability.proofs.HeldLaws.{added_makes_row}
use Rattle.holding.specs.Holds.{Holds, MayJoin}
use Rattle.holding.specs.Times.{back, time_at}
use Rattle.holding.specs.Misfits.{forgotten_causes, late_causes, late_times, missing_causes, of_head}
use Rattle.holding.specs.declared.holding.Holding.{Holding}
use Rattle.holding.proofs.FirstLaws.{first_of_two}
use Rattle.holding.proofs.HoldLaws.{silent, silent_rows_are}
use Rattle.holding.proofs.OperationLaws.{below_in_turn, fresh_in_turn, place_told}
use Rattle.holding.proofs.PlacedLaws.{ComesNext, added_counted, added_in_order, times_added}

-- ---- no changes

of_none : (t : Bool) (k : ℕ) → cond t 0 (back [] k) ≡ 0
of_none true k = refl
of_none false k = refl

none_known : (n : ℕ) (times : List (List ℕ)) (last : ℕ) → times ≡ replicate n [] → (name : Name) → name.member < n → time_at (slice_index_or times name.member []) last name.number ≡ 0
none_known n times last none name within =
    let empty : slice_index_or times name.member [] ≡ [] = ap (λ (l : List (List ℕ)). slice_index_or l name.member []) none ∙ get_or-replicate n name.member [] [] within in
    ap (λ (l : List ℕ). time_at l last name.number) empty ∙ of_none (nat_lt last name.number) (last - name.number)

pub holds_none : (h : Holding) (n : ℕ) → n ≤ 32 → h.fronts ≡ map row_of (replicate n (silent n)) → h.times ≡ replicate n [] → IsDocument (document_of h.document) empty_state [] → h.document.moves.log.moves ≡ [] → Holds h n (base_of n [] 0) []
holds_none h n few rows none document undone = record {
  few = few;
  rows = rows ∙ silent_rows_are n;
  timed = ap (λ (times : List (List ℕ)). length times) none ∙ length-replicate n [];
  times = λ name. none_known n h.times (row_behind (base_of n [] 0) [] name.member).count none name;
  document = document;
  undone = undone;
  in_order = to_order [] tt;
  counted = tt;
}

-- ---- one more

pub holds_added : (h now : Holding) (n : ℕ) (b : Base) (kept : List Change) (c : Change) (head : Head) → Holds h n b kept → MayJoin n b kept c → head ≡ head_of c
    → now.fronts ≡ taken h.fronts head → Joins (document_of h.document) (by_ids c.time c.member 0 c.operations) (document_of now.document) → now.document.moves.log ≡ h.document.moves.log
    → now.times ≡ slice_set h.times head.member (slice_index_or h.times head.member [] ++ head.time ∷ []) → Holds now n b (add kept c)
holds_added h now n b kept c head holds may same rows joins undone written =
    let next : ComesNext b kept c = record { in_order = holds.in_order; counted = holds.counted; next = may.next; later = may.later } in
    let below = below_in_turn b.state (atoms kept) (change_atoms c) may.comes.in_turn in
    let fresh = fresh_in_turn b.state (atoms kept) (change_atoms c) may.comes.in_turn in
    let times : now.times ≡ slice_set h.times c.member (slice_index_or h.times c.member [] ++ c.time ∷ []) = written ∙ ap (λ (x : Head). slice_set h.times x.member (slice_index_or h.times x.member [] ++ x.time ∷ [])) same in
    record {
      few = holds.few;
      rows = rows ∙ (λ i. taken (holds.rows i) (same i)) ∙ sym (added_makes_row n b kept c holds.in_order may.later);
      timed = ap (λ (times : List (List ℕ)). length times) times ∙ length-set h.times c.member (slice_index_or h.times c.member [] ++ c.time ∷ []) ∙ holds.timed;
      times = λ name within.
          ap (λ (l : List (List ℕ)). time_at (slice_index_or l name.member []) (row_behind b (add kept c) name.member).count name.number) times
          ∙ times_added n b kept c h.times next may.is_change.member holds.timed holds.times name within;
      document = subst (IsDocument (document_of now.document) b.state) may.comes.placed (joins b.state (atoms kept) holds.document below fresh);
      undone = ap (λ (l : Log). l.moves) undone ∙ holds.undone;
      in_order = added_in_order b kept c next;
      counted = added_counted b kept c next;
    }

fresh_in_none : (ts : List TreeMove) → AllByRecursion (λ t. IsFresh [] t.id) ts
fresh_in_none [] = tt
fresh_in_none (t ∷ ts) = (tt, fresh_in_none ts)

-- all its moves are still to be done
pub moves_left : (h : Holding) (n : ℕ) (b : Base) (kept : List Change) → Holds h n b kept → Rises h.document.moves.late → length h.document.moves.late ≡ length (moves_of (atoms kept))
moves_left h n b kept holds rises =
    let late = h.document.moves.late in
    let sorted = insertion_sorts [] late tt rises (fresh_in_none late) in
    sym (length_permutation late (inserted [] late) sorted.all) ∙ ap (λ (ms : List TreeMove). length (inserted ms late)) (sym holds.undone) ∙ ap (λ (ms : List TreeMove). length ms) holds.document.moves

-- ---- what is unfit

-- what is told of two kinds of misfits, of the first or else of the second
pub told_of_two : (m l : Option Misfit) (xs ys : List model.Misfit) → option_map misfit_of m ≡ slice_get xs 0 → option_map misfit_of l ≡ slice_get ys 0 → option_map misfit_of (option_or m l) ≡ slice_get (xs ++ ys) 0
told_of_two None l xs ys first second = second ∙ ap (λ o. option_or o (slice_get ys 0)) first ∙ sym (first_of_two xs ys)
told_of_two (Some m) l xs ys first second = ap (λ o. option_or o (slice_get ys 0)) first ∙ sym (first_of_two xs ys)

-- The first misfit is the first that the head tells, or else the first wrong reference.
in_two : (n : ℕ) (past : Held) (c : Change) → unfit n past c ≡ option_or (slice_get (of_head n past c) 0) (slice_get (wrong_references past.state 0 (by_ids c.time c.member 0 c.operations)) 0)
in_two n past c =
    let missing = missing_causes n past c in
    let late = late_times n past c in
    let forgotten = forgotten_causes n past c in
    let causes = late_causes n past c in
    let wrong = wrong_references past.state 0 (by_ids c.time c.member 0 c.operations) in
    ap (λ (ms : List model.Misfit). slice_get ms 0)
    (sym (append_assoc missing late (forgotten ++ (causes ++ wrong))) ∙ sym (append_assoc (missing ++ late) forgotten (causes ++ wrong)) ∙ sym (append_assoc (missing ++ late ++ forgotten) causes wrong))
    ∙ first_of_two (of_head n past c) wrong

pub told_by_head : (n : ℕ) (past : Held) (c : Change) (m : Misfit) → Some (misfit_of m) ≡ slice_get (of_head n past c) 0 → Some (misfit_of m) ≡ unfit n past c
told_by_head n past c m is = ap (λ o. option_or o (slice_get (wrong_references past.state 0 (by_ids c.time c.member 0 c.operations)) 0)) is ∙ sym (in_two n past c)

told_else : (n : ℕ) (past : Held) (c : Change) (o : Option model.Misfit) → None ≡ slice_get (of_head n past c) 0 → o ≡ slice_get (wrong_references past.state 0 (by_ids c.time c.member 0 c.operations)) 0 → o ≡ unfit n past c
told_else n past c o none is =
    let wrong = slice_get (wrong_references past.state 0 (by_ids c.time c.member 0 c.operations)) 0 in
    is ∙ ap (λ (p : Option model.Misfit). option_or p wrong) none ∙ sym (in_two n past c)

pub told_by_refs : (h : Holding) (n : ℕ) (b : Base) (kept : List Change) (c : Change) (w : BadRef) → Holds h n b kept → IsChange n c → None ≡ slice_get (of_head n (held_behind b kept) c) 0
    → IsFirstWrong (state_of (document_of h.document)) (by_ids c.time c.member 0 c.operations) (Some w) → Some (refers_wrongly w.op w.id) ≡ unfit n (held_behind b kept) c
told_by_refs h n b kept c w holds is none wrong =
    let ops = by_ids c.time c.member 0 c.operations in
    told_else n (held_behind b kept) c (Some (refers_wrongly w.op w.id)) none
    (place_told n (state_of (document_of h.document)) c w is wrong ∙ ap (λ (s : State). slice_get (wrong_references s 0 ops) 0) holds.document.state)

pub none_told : (h : Holding) (n : ℕ) (b : Base) (kept : List Change) (c : Change) → Holds h n b kept → None ≡ slice_get (of_head n (held_behind b kept) c) 0
    → wrong_references (state_of (document_of h.document)) 0 (by_ids c.time c.member 0 c.operations) ≡ [] → None ≡ unfit n (held_behind b kept) c
none_told h n b kept c holds none right =
    let ops = by_ids c.time c.member 0 c.operations in
    told_else n (held_behind b kept) c None none (sym (ap (λ (s : State). slice_get (wrong_references s 0 ops) 0) (sym holds.document.state) ∙ ap (λ (ms : List model.Misfit). slice_get ms 0) right))

-- A change that its head tells nothing against is later than its member's last.
pub later_by_head : (n : ℕ) (past : Held) (c : Change) → None ≡ slice_get (of_head n past c) 0 → (past.row c.member).last < c.time
later_by_head n past c none =
    let missing = missing_causes n past c in
    let late = late_times n past c in
    let forgotten = forgotten_causes n past c in
    let nil = nil_from_append (missing ++ late ++ forgotten) (late_causes n past c) (nil_from_none (of_head n past c) (sym none)) in
    late_time_none past c (nil_second missing late (nil_from_append (missing ++ late) forgotten nil))
