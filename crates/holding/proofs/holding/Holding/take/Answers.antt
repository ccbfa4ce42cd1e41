use Rattle.std.proofs.Common.{List, Ok, Err, length, refl, sym, ap, subst, ◌∙◌, arith}
use Rattle.std.proofs.lemmas.Result.{err_from_is_err_and}
use Rattle.std.specs.List.{AllByRecursion}
use Rattle.model.specs.Held.{held_behind}
use Rattle.model.specs.Ledger.{add}
use Rattle.model.specs.State.{Atom, State, change_atoms}
use Rattle.model_laws.specs.Arrival.{Rises}
use Rattle.doc_store.specs.Documents.{DecodesSome, HasNoRow, IsFormed, parts_of}
use Rattle.doc_store.specs.Kept.{document_of, state_of}
use Rattle.doc_store.specs.References.{TakesRight}
use Rattle.holding.specs.Holds.{Holds}
use Rattle.holding.specs.Takes.{Takes, with_change}
use Rattle.op_grammar.specs.declared.head.Head.{Head}
use Rattle.holding.proofs.HoldLaws.{many_causes, many_rows, within_rows, within_times}
use Rattle.holding.proofs.JoinLaws.{holds_added, later_by_head, told_by_head}
use Rattle.holding.proofs.OperationLaws.{formed_of, length-by_ids, rises_within}
use Rattle.holding.proofs.TakeLaws.{refused_by_document, taken_in}
use Rattle.holding.proofs.holding.Holding.take.Goals as goal

pub returns-in-Some-clause-takes : goal.returns-in-Some-clause-takes
returns-in-Some-clause-takes c = λ n b kept holds next. sym (told_by_head n (held_behind b kept) c.args.block.now c.in-Some.misfit (c.in-Some.ensures n b kept holds next.is_change))

pub take-requires : goal.take-requires
take-requires c κs =
    let (n, b, kept, holds, next) = c.requires in
    let change = c.args.block.now in
    let ops = sym c.ops.ensures in
    let fresh = next.fresh (later_by_head n (held_behind b kept) change (c.in_default.ensures n b kept holds next.is_change)) in (
      (refl, tt),
      (
        subst (AllByRecursion IsFormed) ops (formed_of n change holds.few next.is_change),
        (
          subst (λ (l : List Atom). Rises (parts_of l)) ops (rises_within change),
          subst (λ (l : List Atom). AllByRecursion (λ (a : Atom). HasNoRow (state_of (document_of c.args.self.document)) a.id) (parts_of l)) ops
              (subst (λ (s : State). AllByRecursion (λ (a : Atom). HasNoRow s a.id) (change_atoms change)) (sym holds.document.state) fresh),
        ),
      ),
    )

pub returns-in_err-document-clause-takes : goal.returns-in_err-document-clause-takes
returns-in_err-document-clause-takes c = λ n b kept holds next.
    let change = c.args.block.now in
    let fault = c.in_err-document.field-0.0 in
    let (told, is, by) = err_from_is_err_and c.from_residual.result c.from_residual.ensures.1 in
    subst (Takes n b kept change) (sym (is ∙ ap Err by))
    (refused_by_document c.args.self n b kept change fault holds next.is_change (c.in_default.ensures n b kept holds next.is_change)
    (subst (λ (l : List Atom). TakesRight (document_of c.args.self.document) l (Err fault)) c.ops.ensures c.in_err-document.ensures.takes))

pub returns-in_err-document-clause-tally : goal.returns-in_err-document-clause-tally
returns-in_err-document-clause-tally c =
    let change = c.args.block.now in
    subst (DecodesSome c.args.tally.now c.take.new.tally) (ap (λ (l : List Atom). length l) c.ops.ensures ∙ length-by_ids change.time change.member 0 change.operations) c.in_err-document.ensures.tally

pub with_change-requires-clause-row : goal.with_change-requires-clause-row
with_change-requires-clause-row c = let (n, b, kept, holds, next) = c.requires in within_rows c.args.self n b kept c.args.block.now c.head.result.now holds next.is_change c.head.ensures

pub with_change-requires-clause-causes : goal.with_change-requires-clause-causes
with_change-requires-clause-causes c = let (n, b, kept, holds, next) = c.requires in many_causes n c.args.block.now c.head.result.now next.is_change c.head.ensures ∙ sym (many_rows c.args.self n b kept holds)

pub with_change-requires-clause-list : goal.with_change-requires-clause-list
with_change-requires-clause-list c = let (n, b, kept, holds, next) = c.requires in within_times c.args.self n b kept c.head.result.now.member holds (omega (arith, next.is_change.member, ap (λ (x : Head). x.member) c.head.ensures))

pub returns-in_err-with_change-clause-tally : goal.returns-in_err-with_change-clause-tally
returns-in_err-with_change-clause-tally c =
    let change = c.args.block.now in
    subst (DecodesSome c.args.tally.now c.take.new.tally) (ap (λ (l : List Atom). length l) c.ops.ensures ∙ length-by_ids change.time change.member 0 change.operations) c.in_ok-document.ensures.tally

pub returns-clause-tally : goal.returns-clause-tally
returns-clause-tally c =
    let change = c.args.block.now in
    subst (DecodesSome c.args.tally.now c.take.new.tally) (ap (λ (l : List Atom). length l) c.ops.ensures ∙ length-by_ids change.time change.member 0 change.operations) c.in_ok-document.ensures.tally

pub returns-clause-takes : goal.returns-clause-takes
returns-clause-takes c = λ n b kept holds next.
    let change = c.args.block.now in
    let document = c.in_ok-document.document in
    let taken = subst (λ (l : List Atom). TakesRight (document_of c.args.self.document) l (Ok document)) c.ops.ensures c.in_ok-document.ensures.takes in
    let fit = taken_in c.args.self n b kept change holds (c.in_default.ensures n b kept holds next.is_change) taken.0 in
    let now = with_change document c.args.self.fronts c.args.self.times c.head.result.now in (
      fit,
      subst (λ h. Holds h n b (add kept change)) (sym c.in_ok-with_change.ensures)
          (holds_added c.args.self now n b kept change c.head.result.now holds (next.joins fit) c.head.ensures refl taken.1 c.in_ok-document.ensures.undone refl),
    )
