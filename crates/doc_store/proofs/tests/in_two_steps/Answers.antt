use Rattle.std.proofs.Common.{◌∙◌, map, refl, sym, ap, subst, []}
use Rattle.model.specs.State.{empty_state}
use Rattle.model_laws.specs.Arrival.{AreBelow, IsFresh, all_placed}
use Rattle.model_laws.proofs.ListLaws.{all_of_any}
use Rattle.op_grammar.specs.Sources.{atom_of}
use Rattle.arrival_laws.proofs.DocumentLaws.{empty_below}
use Rattle.doc_store.specs.Documents.{IsDocument, parts_of}
use Rattle.doc_store.specs.Kept.{document_of, state_of}
use Rattle.doc_store.proofs.FreshLaws.{free_in}
use Rattle.doc_store.proofs.ReferenceLaws.{none_wrong}
use Rattle.doc_store.proofs.tests.in_two_steps.Goals as goal

pub refs_known-requires : goal.refs_known-requires
refs_known-requires c κs = ((refl, (refl, tt)), c.requires.formed)

pub apply-requires : goal.apply-requires
apply-requires c κs =
    let ops = map atom_of c.args.ops.now in
    let d = document_of c.of-draft.result in
    let is : IsDocument d empty_state [] = subst (λ k. IsDocument k empty_state []) (sym (ap document_of c.of-draft.ensures)) c.new.ensures in
    let refer = none_wrong (state_of d) ops c.in_ok-refs_known.field-0 (sym c.is_some.ensures ∙ c.if-is_some.false) c.in_ok-refs_known.ensures.first in
    ((refl, tt), (c.requires.formed, (refer, (c.requires.rise, free_in d [] (parts_of ops) is (all_of_any (λ a. IsFresh [] a.id) (λ a. tt) (parts_of ops))))))

pub refs_known-requires-2 : goal.refs_known-requires-2
refs_known-requires-2 c κs = ((refl, (refl, tt)), c.requires.others_formed)

pub apply-requires-2 : goal.apply-requires-2
apply-requires-2 c κs =
    let ops = map atom_of c.args.ops.now in
    let others = map atom_of c.args.others.now in
    let d = document_of c.in_ok-draft.draft in
    let refer = none_wrong (state_of d) others c.in_ok-refs_known-2.field-0 (sym c.is_some-2.ensures ∙ c.if-is_some-2.false) c.in_ok-refs_known-2.ensures.first in
    let first : IsDocument (document_of c.of-draft.result) empty_state [] = subst (λ k. IsDocument k empty_state []) (sym (ap document_of c.of-draft.ensures)) c.new.ensures in
    let is : IsDocument d empty_state (all_placed (parts_of ops) []) =
    c.in_ok-draft.ensures.joins empty_state [] first (all_of_any (λ a. AreBelow empty_state a.id) (λ a. empty_below a.id) (parts_of ops)) (all_of_any (λ a. IsFresh [] a.id) (λ a. tt) (parts_of ops)) in
    ((refl, tt), (c.requires.others_formed, (refer, (c.requires.others_rise, free_in d (all_placed (parts_of ops) []) (parts_of others) is c.requires.fresh))))
