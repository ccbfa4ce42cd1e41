use Rattle.std.proofs.Common.{◌≡◌, ◌∙◌, ◌∷◌, ap, sym, ℕ, List, [], ◌++◌, length, nat_le, slice_get, unwrap_or}
use Rattle.op_ids.specs.declared.OpId.{OpId}
use Rattle.op_ids.specs.Order.{root_id}
use Rattle.model.specs.Edit.{element_place, element_there, faulty, no_index, others}
use Rattle.model.specs.Operation.{shift_item}
use Rattle.model.specs.View.{live_elements}
use Rattle.doc_store.specs.Kept.{state_of}
use Rattle.doc_store.proofs.doc.Doc.plan_shift.Goals as goal

pub returns : goal.returns
returns c =
    let s = state_of c.args.self.now in
    let node = c.args.node in
    let from = c.args.from in
    let ids : c.in_ok-elements.elements.items ≡ live_elements s node = c.in_ok-elements.ensures in
    let given : c.deref.result.now ≡ live_elements s node = c.deref.ensures.value ∙ ids in
    let found = c.in_ok-element.ensures in
    let element : c.in_ok-element.element ≡ element_there s node from = found.1 ∙ ap (λ (l : List OpId). unwrap_or (slice_get l from) root_id) given in
    let among : c.deref-2.result.now ≡ others (element_there s node from) (live_elements s node) = c.deref-2.ensures.value ∙ c.others_of-others.ensures ∙ (λ i. others (element i) (ids i)) in
    let at = c.place_element-side.ensures ∙ ap (λ (l : List OpId). element_place s node l c.args.to) among in
    let within = ap (λ (l : List OpId). faulty (nat_le (length l) from) no_index 3) (sym given) ∙ found.0 in
    let count : c.len.result ≡ length (live_elements s node) = c.len.ensures ∙ sym c.deref.ensures.len ∙ ap length given in
    let back = ap (λ (n : ℕ). faulty (nat_le n c.args.to) no_index 4) (sym count) ∙ c.in_ok-refuse_if.ensures in
    ((λ i. shift_item node (element i) (at i) ∷ []), (λ i. c.in_ok-check_in_view.ensures i ++ (within i ++ back i)))
