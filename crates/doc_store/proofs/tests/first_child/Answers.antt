use Rattle.std.proofs.Common.{refl, sym, ap, subst, inl, lit<, lit≤, [], ◌∷◌}
use Rattle.op_ids.specs.Order.{root_id}
use Rattle.op_ids.specs.declared.OpId.{OpId}
use Rattle.model.specs.Operation.{new_node}
use Rattle.model.specs.Value.{IsOpId}
use Rattle.model.specs.State.{empty_state, right_of}
use Rattle.doc_store.specs.Documents.{IsDocument, IsFormed}
use Rattle.doc_store.specs.Kept.{document_of}
use Rattle.doc_store.proofs.FreshLaws.{free_in}
use Rattle.doc_store.proofs.tests.first_child.Goals as goal

abbrev first : OpId
first = record { time = 1; member = 0; index = 0 }

root_is_id : IsOpId 32 root_id
root_is_id = record { time = lit< tt; member = lit< tt; index = lit< tt; fixed = λ e. inl refl }

formed : IsFormed (record { id = first; operation = new_node root_id (right_of root_id) })
formed = record {
  operation = (root_is_id, record { on = root_is_id; head = λ e. refl });
  ids = (record { some = lit≤ tt; time = lit< tt; member = lit< tt; index = lit< tt }, tt);
}

pub apply-requires : goal.apply-requires
apply-requires c =
    let d = document_of c.of.result in
    let is : IsDocument d empty_state [] = subst (λ k. IsDocument k empty_state []) (sym (ap document_of c.of.ensures)) c.new.ensures in
    let unused = free_in d [] (record { id = first; operation = new_node root_id (right_of root_id) } ∷ []) is (tt, tt) in
    λ k. ((refl, tt), ((formed, tt), (refl, ((tt, tt), unused))))
