use Rattle.std.proofs.Common.{◌≡◌, [], List, refl, sym, ap, subst, ◌∙◌, arith}
use Rattle.std.proofs.lemmas.Result.{IfOk-weaker}
use Rattle.std.specs.List.{AllByRecursion}
use Rattle.model.specs.Held.{wrong_references}
use Rattle.model.specs.State.{Atom, State, atoms, by_ids, change_atoms}
use Rattle.model_laws.specs.Arrival.{Rises}
use Rattle.doc_store.specs.Documents.{HasNoRow, IsFormed, Joins, parts_of}
use Rattle.doc_store.specs.Kept.{document_of, state_of}
use Rattle.model.specs.Ledger.{add}
use Rattle.holding.specs.Holds.{Holds}
use Rattle.holding.specs.Takes.{with_change}
use Rattle.op_grammar.specs.declared.head.Head.{Head}
use Rattle.holding.proofs.HoldLaws.{many_causes, many_rows, within_rows, within_times}
use Rattle.holding.proofs.JoinLaws.{holds_added}
use Rattle.holding.proofs.OperationLaws.{formed_of, no_row_in_turn, rises_within}
use Rattle.holding.proofs.holding.Holding.join.Goals as goal

pub apply-requires : goal.apply-requires
apply-requires c κs =
    let (n, b, kept, holds, may) = c.requires in
    let change = c.args.block.now in
    let ops = sym c.ops.ensures in
    let document = holds.document in
    let state = sym document.state in (
      (refl, tt),
      (
        subst (AllByRecursion IsFormed) ops (formed_of n change holds.few may.is_change),
        (
          subst (λ (l : List Atom). wrong_references (state_of (document_of c.args.self.document)) 0 l ≡ []) ops (subst (λ (s : State). wrong_references s 0 (by_ids change.time change.member 0 change.operations) ≡ []) state may.refers),
          (
            subst (λ (l : List Atom). Rises (parts_of l)) ops (rises_within change),
            subst (λ (l : List Atom). AllByRecursion (λ (a : Atom). HasNoRow (state_of (document_of c.args.self.document)) a.id) (parts_of l)) ops
                (subst (λ (s : State). AllByRecursion (λ (a : Atom). HasNoRow s a.id) (change_atoms change)) state (no_row_in_turn b.state (atoms kept) (change_atoms change) document.made_of may.comes.in_turn)),
          ),
        ),
      ),
    )

pub with_change-requires-clause-row : goal.with_change-requires-clause-row
with_change-requires-clause-row c = let (n, b, kept, holds, may) = c.requires in within_rows c.args.self n b kept c.args.block.now c.head.result.now holds may.is_change c.head.ensures

pub with_change-requires-clause-causes : goal.with_change-requires-clause-causes
with_change-requires-clause-causes c = let (n, b, kept, holds, may) = c.requires in many_causes n c.args.block.now c.head.result.now may.is_change c.head.ensures ∙ sym (many_rows c.args.self n b kept holds)

pub with_change-requires-clause-list : goal.with_change-requires-clause-list
with_change-requires-clause-list c = let (n, b, kept, holds, may) = c.requires in within_times c.args.self n b kept c.head.result.now.member holds (omega (arith, may.is_change.member, ap (λ (x : Head). x.member) c.head.ensures))

pub returns-clause-joins : goal.returns-clause-joins
returns-clause-joins c = λ n b kept holds may.
    let change = c.args.block.now in
    let now = with_change c.in_ok-document.document c.args.self.fronts c.args.self.times c.head.result.now in
    IfOk-weaker c.with_change.result (λ h. h ≡ now) (λ h. Holds h n b (add kept change))
    (λ h is. subst (λ x. Holds x n b (add kept change)) (sym is)
    (holds_added c.args.self now n b kept change c.head.result.now holds may c.head.ensures refl
    (subst (λ (l : List Atom). Joins (document_of c.args.self.document) l (document_of c.in_ok-document.document)) c.ops.ensures c.in_ok-document.ensures.joins) c.in_ok-document.ensures.undone refl))
    c.with_change.ensures
