-- No row has an id that no operation has.
use Rattle.std.specs.Prelude.{◌≡◌, true, false, None, Option, is_some, List, [], ◌∷◌, ◌++◌}
use Rattle.std.proofs.Common.{sym, ◌∙◌, ap, subst, inl, inr}
use Rattle.std.specs.List.{AllByRecursion}
use Rattle.std.specs.FinMap.{FinMap, get}
use Rattle.op_ids.specs.declared.OpId.{OpId}
use Rattle.op_ids.specs.Order.{id_eq}
use Rattle.op_ids.proofs.OrderLaws.{id_eq-itself, lt_apart, lt_itself}
use Rattle.model.specs.State.{State, Atom, empty_state, names_what_is_there, row_cmp, node_step, position_step, text_step, list_position_step, element_step}
use Rattle.model_laws.specs.Arrival.{AreBelow, IsFresh, IsSingle, Rises, atom_before}
use Rattle.model_laws.proofs.ArrivalLaws.{GoodAlong, after_done, all_done, done_one, good_along}
use Rattle.model_laws.proofs.ListLaws.{all_both, all_more}
use Rattle.model_laws.proofs.Presence.{NewOrThere, child_there, element_new, list_new, node_new, position_new, text_new}
use Rattle.model_laws.proofs.Tables.{bool_cases, is_none}
use Rattle.arrival_laws.proofs.DocumentLaws.{empty_below}
use Rattle.arrival_laws.proofs.ReferLaws.{AllSingle, RightAlong}
use Rattle.doc_store.specs.Documents.{FreshIdsHaveNoRow, HasNoRow, IsDocument}
use Rattle.doc_store.specs.Kept.{Kept, state_of}

none_from : {X : Type 0} (o : Option X) → (is_some o ≡ true → true ≡ false) → o ≡ None
none_from o h = elim (bool_cases (is_some o)) as (λ _. o ≡ None) [ inl e ↦ (let no : true ≡ false = h e in absurd (let d : true ≡ false = no in cc)) | inr e ↦ is_none o e ]

-- a row under an id that was under none is under none after an operation with another id
still_unused : {X : Type 0} (f : FinMap row_cmp X → FinMap row_cmp X) (m : FinMap row_cmp X) (i q : OpId) → NewOrThere f m i → id_eq i q ≡ false → ((owner : OpId) → get m (owner, q) ≡ None) → (owner : OpId) → get (f m) (owner, q) ≡ None
still_unused f m i q new ne u owner =
    none_from (get (f m) (owner, q)) (λ e.
    elim (new owner q e) as (λ _. true ≡ false) [
      | inl was ↦ sym was ∙ ap is_some (u owner)
      | inr here ↦ sym (id_eq-itself i) ∙ ap (id_eq i) (sym here.0) ∙ ne
    ])

pub next_unused : (u : State) (a : Atom) (q : OpId) → names_what_is_there u a.operation ≡ true → IsSingle a.operation → id_eq a.id q ≡ false → HasNoRow u q → HasNoRow (done_one u a) q
next_unused u a q names single ne h = record {
  nodes = none_from (get (node_step u.nodes a.id a.operation) q) (λ e.
      elim (node_new u.nodes a.id a.operation (child_there u a.operation names) q e) as (λ _. true ≡ false) [ inl was ↦ sym was ∙ ap is_some h.nodes | inr here ↦ sym (id_eq-itself a.id) ∙ ap (id_eq a.id) (sym here.0) ∙ ne ]);
  positions = still_unused (λ t. position_step t a.id a.operation) u.positions a.id q (position_new u.positions a.id a.operation) ne h.positions;
  texts = still_unused (λ t. text_step t a.id a.operation) u.texts a.id q (text_new u.texts a.id a.operation single) ne h.texts;
  list_positions = still_unused (λ t. list_position_step t a.id a.operation) u.list_positions a.id q (list_new u.list_positions a.id a.operation) ne h.list_positions;
  elements = still_unused (λ t. element_step t a.id a.operation) u.elements a.id q (element_new u.elements a.id a.operation) ne h.elements;
}

-- ids behind those of some operations are unused after these, where they were before
pub unused_behind : (u : State) (front back : List Atom) → RightAlong u front → AllSingle front → Rises (front ++ back) → AllByRecursion (λ b. HasNoRow u b.id) (front ++ back) → AllByRecursion (λ b. HasNoRow (all_done u front) b.id) back
unused_behind u [] back r s l h = h
unused_behind u (a ∷ front) back r s l h =
    unused_behind (done_one u a) front back r.1 s.1 l.1
    (all_more (λ b. (atom_before a b ≡ true) × HasNoRow u b.id) (λ b. HasNoRow (done_one u a) b.id) (λ b k. next_unused u a b.id r.0.there s.0 (lt_apart a.id b.id k.0) k.1) (front ++ back)
    (all_both (λ b. atom_before a b ≡ true) (λ b. HasNoRow u b.id) (front ++ back) l.0 h.1))

unused_along : (u : State) (list : List Atom) (q : OpId) → GoodAlong u list → IsFresh list q → HasNoRow u q → HasNoRow (all_done u list) q
unused_along u [] q g f h = h
unused_along u (a ∷ list) q g f h = unused_along (done_one u a) list q g.1 f.1 (next_unused u a q g.0.names g.0.single f.0 h)

no_row_below : (s : State) (q : OpId) → AreBelow s q → HasNoRow s q
no_row_below s q b = record {
  nodes = none_from (get s.nodes q) (λ e. sym (b.nodes q e) ∙ lt_itself q);
  positions = λ o. none_from (get s.positions (o, q)) (λ e. sym (b.positions o q e) ∙ lt_itself q);
  texts = λ o. none_from (get s.texts (o, q)) (λ e. sym (b.texts o q e) ∙ lt_itself q);
  list_positions = λ o. none_from (get s.list_positions (o, q)) (λ e. sym (b.list_positions o q e) ∙ lt_itself q);
  elements = λ o. none_from (get s.elements (o, q)) (λ e. sym (b.elements o q e) ∙ lt_itself q);
}

pub fresh_ids_have_no_row : FreshIdsHaveNoRow
fresh_ids_have_no_row s list id m b f =
    let good = good_along s list m in
    subst (λ u. HasNoRow u id) (sym (after_done s list good)) (unused_along s list id good f (no_row_below s id b))

-- ids that aren't of a document's operations are no row's of it
pub free_in : (d : Kept) (list xs : List Atom) → IsDocument d empty_state list → AllByRecursion (λ a. IsFresh list a.id) xs → AllByRecursion (λ a. HasNoRow (state_of d) a.id) xs
free_in d list xs is f =
    all_more (λ a. IsFresh list a.id) (λ a. HasNoRow (state_of d) a.id) (λ a k. subst (λ u. HasNoRow u a.id) (sym is.state) (fresh_ids_have_no_row empty_state list a.id is.made_of (empty_below a.id) k)) xs f
