-- A change that is judged and taken in at once.
use Rattle.std.proofs.Common.{◌≡◌, ◌<◌, ℕ, false, List, [], ◌∷◌, None, sym, ap, subst, ◌∙◌, arith, inl, inr}
use Rattle.std.specs.Prelude.{slice_get}
use Rattle.std.specs.List.{AllByRecursion}
use Rattle.op_ids.specs.declared.OpId.{OpId}
use Rattle.op_ids.specs.declared.Stamp.{Stamp}
use Rattle.op_ids.specs.Order.{id_eq}
use Rattle.op_ids.proofs.OrderLaws.{same_or_apart}
use Rattle.model.specs.Base.{Base, base_of}
use Rattle.model.specs.Change.{Change, IsChange, change_stamp}
use Rattle.model.specs.Held.{held_behind, row_behind, unfit, wrong_references}
use Rattle.model.specs.State.{Atom, after, atoms, by_ids, change_atoms}
use Rattle.model_laws.specs.Arrival.{IsFresh}
use Rattle.model_laws.proofs.ListLaws.{all_append, all_more}
use Rattle.model_laws.proofs.Rising.{IsFrom, all_from}
use Rattle.arrival_laws.proofs.AddLaws.{IsLast}
use Rattle.doc_store.specs.Documents.{HasNoRow}
use Rattle.doc_store.specs.Kept.{document_of, state_of}
use Rattle.doc_store.proofs.FreshLaws.{free_in}
use Rattle.doc_store.specs.References.{TakesRight}
use Rattle.doc_store.specs.declared.references.TakeFault.{TakeFault}
use Rattle.doc_store.specs.declared.references.TakeFault.TheVariants as draft
use Rattle.std.specs.Prelude.{Err}
use Rattle.holding.specs.Holds.{Holds}
use Rattle.holding.specs.Misfits.{of_head}
use Rattle.holding.specs.Takes.{Takes, fault_by}
use Rattle.holding.specs.declared.holding.Holding.{Holding}
use Rattle.holding.proofs.JoinLaws.{none_told, told_by_refs}
use Rattle.holding.proofs.PlacedLaws.{later_is_last}

-- The document's fault tells what is wrong with the change.
pub refused_by_document : (h : Holding) (n : ℕ) (b : Base) (kept : List Change) (c : Change) (fault : TakeFault) → Holds h n b kept → IsChange n c → None ≡ slice_get (of_head n (held_behind b kept) c) 0
    → TakesRight (document_of h.document) (by_ids c.time c.member 0 c.operations) (Err fault) → Takes n b kept c (Err (fault_by fault))
refused_by_document h n b kept c (draft.Wrong wrong) holds is none first = sym (told_by_refs h n b kept c wrong holds is none first)
refused_by_document h n b kept c draft.NoMemory holds is none first = tt

-- Where it was taken in nothing is unfit.
pub taken_in : (h : Holding) (n : ℕ) (b : Base) (kept : List Change) (c : Change) → Holds h n b kept → None ≡ slice_get (of_head n (held_behind b kept) c) 0
    → wrong_references (state_of (document_of h.document)) 0 (by_ids c.time c.member 0 c.operations) ≡ [] → unfit n (held_behind b kept) c ≡ None
taken_in h n b kept c holds none right = sym (none_told h n b kept c holds none right)

-- ---- its ids

other_id : (d c : Change) (y x : Atom) → (d.member ≡ c.member → d.time < c.time) → IsFrom (change_stamp d) 0 y → IsFrom (change_stamp c) 0 x → id_eq y.id x.id ≡ false
other_id d c y x before at from =
    elim (same_or_apart y.id x.id) as (λ _. id_eq y.id x.id ≡ false) [
      | inl e ↦
          let time : d.time ≡ c.time = sym (ap (λ (s : Stamp). s.time) at.stamp) ∙ ap (λ (i : OpId). i.time) e ∙ ap (λ (s : Stamp). s.time) from.stamp in
          let member : d.member ≡ c.member = sym (ap (λ (s : Stamp). s.member) at.stamp) ∙ ap (λ (i : OpId). i.member) e ∙ ap (λ (s : Stamp). s.member) from.stamp in
          let less = before member in
          absurd (omega (arith, less, time))
      | inr ne ↦ ne
    ]

ids_apart : (kept : List Change) (c : Change) (x : Atom) → IsLast kept c → IsFrom (change_stamp c) 0 x → IsFresh (atoms kept) x.id
ids_apart [] c x last from = tt
ids_apart (d ∷ kept) c x last from =
    all_append (λ y. id_eq y.id x.id ≡ false) (change_atoms d) (atoms kept)
    (all_more (IsFrom (change_stamp d) 0) (λ y. id_eq y.id x.id ≡ false) (λ y at. other_id d c y x last.0 at from) (change_atoms d) (all_from d.time d.member 0 d.operations)) (ids_apart kept c x last.1 from)

-- Behind the base of no changes, a change that is later than its member's last has ids that no row has.
pub later_ids_are_free : (h : Holding) (n : ℕ) (kept : List Change) (c : Change) → Holds h n (base_of n [] 0) kept → (row_behind (base_of n [] 0) kept c.member).last < c.time
    → AllByRecursion (λ a. HasNoRow (after (base_of n [] 0).state (atoms kept)) a.id) (change_atoms c)
later_ids_are_free h n kept c holds later =
    let last = later_is_last (base_of n [] 0) kept c holds.in_order later in
    let fresh = all_more (IsFrom (change_stamp c) 0) (λ x. IsFresh (atoms kept) x.id) (λ x from. ids_apart kept c x last from) (change_atoms c) (all_from c.time c.member 0 c.operations) in
    subst (λ s. AllByRecursion (λ a. HasNoRow s a.id) (change_atoms c)) holds.document.state (free_in (document_of h.document) (atoms kept) (change_atoms c) holds.document fresh)
