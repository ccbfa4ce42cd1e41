-- A text that is typed character by character.
use Rattle.std.specs.Prelude.{◌≡◌, ◌||◌, Bool, true, false, cond, ℕ, Option, Some, is_some, List, [], ◌∷◌, length, refl}
use Rattle.std.proofs.Common.{◌∙◌, ap}
use Rattle.std.specs.FinMap.{FinMap, get, insert, get-insert}
use Rattle.op_ids.specs.declared.OpId.{OpId}
use Rattle.op_ids.specs.Order.{id_plus}
use Rattle.model.specs.Operation.{Anchor, type_text}
use Rattle.model.specs.State.{State, Character, RowKey, row_cmp, characters_apart, done, right_of, typed}
use Rattle.model_laws.specs.Arrival.{Contents, late}
use Rattle.model_laws.proofs.ArrivalLaws.{all_done}
use Rattle.model_laws.proofs.Tables.{row_eq, row_total}
use Rattle.doc_store.specs.Documents.{all_late}
use Rattle.doc_store.specs.References.{is_in_run}

pub done_typed : (u : State) (node id : OpId) (at : Anchor) (cs : List ℕ) → all_done u (characters_apart node id at cs) ≡ record u { texts = typed u.texts node id at cs }
done_typed u node id at [] = refl
done_typed u node id at (c ∷ cs) = done_typed (done id (type_text node at (c ∷ [])) u) node (id_plus id 1) (right_of id) cs

pub late_typed : (c : Contents) (node id : OpId) (at : Anchor) (cs : List ℕ) → all_late c (characters_apart node id at cs) ≡ record c { texts = typed c.texts node id at cs }
late_typed c node id at [] = refl
late_typed c node id at (x ∷ cs) = late_typed (late c (record { id = id; operation = type_text node at (x ∷ []) })) node (id_plus id 1) (right_of id) cs

-- ---- which characters are there

or_none : (b : Bool) → b ≡ (b || false)
or_none true = refl
or_none false = refl

true_last : (b : Bool) → true ≡ (b || true)
true_last true = refl
true_last false = refl

one_first : (e r : Bool) (x : Character) (o : Option Character) → (is_some (cond e (Some x) o) || r) ≡ (is_some o || (e || r))
one_first true r x o = true_last (is_some o)
one_first false r x o = refl

pub typed_are : (t : FinMap row_cmp Character) (node id : OpId) (at : Anchor) (cs : List ℕ) (q : RowKey) → is_some (get (typed t node id at cs) q) ≡ (is_some (get t q) || is_in_run node id (length cs) q)
typed_are t node id at [] q = or_none (is_some (get t q))
typed_are t node id at (c ∷ cs) q =
    let x : Character = record { at = at; character = c; dead = false } in
    typed_are (insert t (node, id) x) node (id_plus id 1) (right_of id) cs q
    ∙ ap (λ o. is_some o || is_in_run node (id_plus id 1) (length cs) q) (get-insert row_total t (node, id) x q)
    ∙ one_first (row_eq q (node, id)) (is_in_run node (id_plus id 1) (length cs) q) x (get t q)
