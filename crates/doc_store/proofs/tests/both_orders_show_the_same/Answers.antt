use Rattle.std.proofs.Common.{ℕ, ◌<◌, List, [], ◌∷◌, refl, inl, lit<, lit≤, arith, true}
use Rattle.std.specs.Prelude.{pos}
use Rattle.std.specs.List.{AllByRecursion}
use Rattle.std.specs.Str.{chars}
use Rattle.std.proofs.lemmas.Int.{ints}
use Rattle.op_ids.specs.Order.{root_id}
use Rattle.op_ids.specs.declared.OpId.{OpId}
use Rattle.model.specs.Operation.{IsAnchor, Operation, add_item, drop_item, erase_text, set_item, shift_item, type_text}
use Rattle.model.specs.Value.{IsOpId, integer, null, truth}
use Rattle.model.specs.State.{Atom, right_of}
use Rattle.model_laws.specs.Arrival.{IsFresh, Rises, all_placed}
use Rattle.doc_store.specs.Documents.{IsFormed, IsOwnId, parts_of}
use Rattle.doc_store.proofs.tests.both_orders_show_the_same.Goals as goal

abbrev own : ℕ → ℕ → OpId
own time index = record { time = time; member = 0; index = index }

root_is_id : IsOpId 32 root_id
root_is_id = record { time = lit< tt; member = lit< tt; index = lit< tt; fixed = λ e. inl refl }

head : IsAnchor 32 (right_of root_id)
head = record { on = root_is_id; head = λ e. refl }

own_id : (index : ℕ) → index < 65536 → IsOpId 32 (own 2 index)
own_id index few = record { time = lit< tt; member = lit< tt; index = few; fixed = λ e. absurd (cc) }

early_id : (index : ℕ) → index < 65536 → IsOwnId (own 1 index)
early_id index few = record { some = lit≤ tt; time = lit< tt; member = lit< tt; index = few }

late_id : (index : ℕ) → index < 65536 → IsOwnId (own 2 index)
late_id index few = record { some = lit≤ tt; time = lit< tt; member = lit< tt; index = few }

abbrev early : List Atom
early = record { id = own 1 0; operation = type_text root_id (right_of root_id) (97 ∷ 98 ∷ []) } ∷ record { id = own 1 2; operation = add_item root_id (right_of root_id) (truth true) } ∷ []

abbrev late : ℕ → Operation → Atom
late index o = record { id = own 2 index; operation = o }

abbrev lates : List Atom
lates =
    late 0 (type_text root_id (right_of root_id) (120 ∷ 121 ∷ [])) ∷ late 2 (erase_text root_id (own 2 0) 1) ∷ late 3 (add_item root_id (right_of root_id) null) ∷ late 4 (set_item root_id (own 2 3) (integer (pos 7)))
    ∷ late 5 (shift_item root_id (own 2 3) (right_of root_id)) ∷ late 6 (add_item root_id (right_of root_id) null) ∷ late 7 (drop_item root_id (own 2 6)) ∷ []

early_formed : AllByRecursion IsFormed early
early_formed = (
  record { operation = (root_is_id, head, record { each = (refl, (refl, tt)); some = lit≤ tt; most = lit≤ tt }); ids = (early_id 0 (lit< tt), (early_id 1 (lit< tt), tt)) },
  (record { operation = (root_is_id, head, tt); ids = (early_id 2 (lit< tt), tt) }, tt),
)

lates_formed : AllByRecursion IsFormed lates
lates_formed = (
  record { operation = (root_is_id, head, record { each = (refl, (refl, tt)); some = lit≤ tt; most = lit≤ tt }); ids = (late_id 0 (lit< tt), (late_id 1 (lit< tt), tt)) },
  (
    record { operation = (root_is_id, own_id 0 (lit< tt), record { some = lit≤ tt; most = lit≤ tt; inside = lit≤ tt }); ids = (late_id 2 (lit< tt), tt) },
    (
      record { operation = (root_is_id, head, tt); ids = (late_id 3 (lit< tt), tt) },
      (
        record { operation = (root_is_id, own_id 3 (lit< tt), (omega (arith, ints), omega (arith, ints))); ids = (late_id 4 (lit< tt), tt) },
        (
          record { operation = (root_is_id, own_id 3 (lit< tt), head); ids = (late_id 5 (lit< tt), tt) },
          (record { operation = (root_is_id, head, tt); ids = (late_id 6 (lit< tt), tt) }, (record { operation = (root_is_id, own_id 6 (lit< tt)); ids = (late_id 7 (lit< tt), tt) }, tt)),
        ),
      ),
    ),
  ),
)

early_rise : Rises (parts_of early)
early_rise = ((refl, (refl, tt)), ((refl, tt), (tt, tt)))

lates_rise : Rises (parts_of lates)
lates_rise = ((refl, (refl, (refl, (refl, (refl, (refl, (refl, tt))))))), ((refl, (refl, (refl, (refl, (refl, (refl, tt)))))), ((refl, (refl, (refl, (refl, (refl, tt))))), ((refl, (refl, (refl, (refl, tt)))), ((refl, (refl, (refl, tt))), ((refl, (refl, tt)), ((refl, tt), (tt, tt))))))))

-- the ids of the one don't stand among those of the other
lates_fresh : AllByRecursion (λ a. IsFresh (all_placed (parts_of early) []) a.id) (parts_of lates)
lates_fresh = ((refl, (refl, (refl, tt))), ((refl, (refl, (refl, tt))), ((refl, (refl, (refl, tt))), ((refl, (refl, (refl, tt))), ((refl, (refl, (refl, tt))), ((refl, (refl, (refl, tt))), ((refl, (refl, (refl, tt))), ((refl, (refl, (refl, tt))), tt))))))))

early_fresh : AllByRecursion (λ a. IsFresh (all_placed (parts_of lates) []) a.id) (parts_of early)
early_fresh = ((refl, (refl, (refl, (refl, (refl, (refl, (refl, (refl, tt)))))))), ((refl, (refl, (refl, (refl, (refl, (refl, (refl, (refl, tt)))))))), ((refl, (refl, (refl, (refl, (refl, (refl, (refl, (refl, tt)))))))), tt)))

pub in_two_steps-requires : goal.in_two_steps-requires
unfolding chars
in_two_steps-requires c k = record { formed = early_formed; others_formed = lates_formed; rise = early_rise; others_rise = lates_rise; fresh = lates_fresh }

pub in_two_steps-requires-2 : goal.in_two_steps-requires-2
unfolding chars
in_two_steps-requires-2 c k = record { formed = lates_formed; others_formed = early_formed; rise = lates_rise; others_rise = early_rise; fresh = early_fresh }
