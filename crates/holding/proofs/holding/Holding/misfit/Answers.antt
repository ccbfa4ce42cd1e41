use Rattle.std.proofs.Common.{List, Some, None, length, refl, sym, ap, subst, ◌∙◌}
use Rattle.std.specs.List.{AllByRecursion}
use Rattle.model.specs.Held.{held_behind}
use Rattle.model.specs.State.{Atom}
use Rattle.doc_store.specs.Documents.{DecodesSome, IsFormed}
use Rattle.doc_store.specs.Kept.{document_of, state_of}
use Rattle.doc_store.specs.References.{IsFirstWrong}
use Rattle.holding.proofs.JoinLaws.{none_told, told_by_head, told_by_refs}
use Rattle.holding.proofs.OperationLaws.{formed_of, length-by_ids}
use Rattle.holding.proofs.holding.Holding.misfit.Goals as goal

pub refs_known-requires : goal.refs_known-requires
refs_known-requires c κs =
    let (n, b, kept, holds, is) = c.requires in
    ((refl, (refl, tt)), subst (AllByRecursion IsFormed) (sym c.ops.ensures) (formed_of n c.args.block.now holds.few is))

pub returns-in-Some-clause-first : goal.returns-in-Some-clause-first
returns-in-Some-clause-first c = λ n b kept holds is. told_by_head n (held_behind b kept) c.args.block.now c.in-Some.misfit (c.in-Some.ensures n b kept holds is)

pub returns-in_err-wrong-clause-tally : goal.returns-in_err-wrong-clause-tally
returns-in_err-wrong-clause-tally c =
    let change = c.args.block.now in
    subst (DecodesSome c.args.tally.now c.refs_known.new.tally) (ap (λ (l : List Atom). length l) c.ops.ensures ∙ length-by_ids change.time change.member 0 change.operations) c.in_err-wrong.ensures.tally

pub returns-in-Some-2-clause-first : goal.returns-in-Some-2-clause-first
returns-in-Some-2-clause-first c = λ n b kept holds is.
    let known = state_of (document_of c.args.self.now.document) in
    let found = subst (IsFirstWrong known c.ops.result) c.in-Some-2.is c.in_ok-wrong.ensures.first in
    told_by_refs c.args.self.now n b kept c.args.block.now c.in-Some-2.wrong holds is (c.in_default.ensures n b kept holds is) (subst (λ (l : List Atom). IsFirstWrong known l (Some c.in-Some-2.wrong)) c.ops.ensures found)

pub returns-in-Some-2-clause-tally : goal.returns-in-Some-2-clause-tally
returns-in-Some-2-clause-tally c =
    let change = c.args.block.now in
    subst (DecodesSome c.args.tally.now c.refs_known.new.tally) (ap (λ (l : List Atom). length l) c.ops.ensures ∙ length-by_ids change.time change.member 0 change.operations) c.in_ok-wrong.ensures.tally

pub returns-in-None-clause-first : goal.returns-in-None-clause-first
returns-in-None-clause-first c = λ n b kept holds is.
    let known = state_of (document_of c.args.self.now.document) in
    let right = subst (IsFirstWrong known c.ops.result) c.in-None.is c.in_ok-wrong.ensures.first in
    none_told c.args.self.now n b kept c.args.block.now holds (c.in_default.ensures n b kept holds is) (subst (λ (l : List Atom). IsFirstWrong known l None) c.ops.ensures right)

pub returns-in-None-clause-tally : goal.returns-in-None-clause-tally
returns-in-None-clause-tally c =
    let change = c.args.block.now in
    subst (DecodesSome c.args.tally.now c.refs_known.new.tally) (ap (λ (l : List Atom). length l) c.ops.ensures ∙ length-by_ids change.time change.member 0 change.operations) c.in_ok-wrong.ensures.tally
