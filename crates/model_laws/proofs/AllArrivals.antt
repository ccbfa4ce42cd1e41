-- Several operations arrive, one after the other; and the greatest id wins each register.
use Rattle.std.proofs.Common.{◌≡◌, ℕ, zero, suc, ◌<◌, true, false, cond, get_or, List, [], ◌∷◌, ◌++◌, length, refl, sym, ap, subst, ◌∙◌, arith, inl, inr}
use Rattle.std.specs.Prelude.{Some, fold, Contains}
use Rattle.std.specs.List.{AllByRecursion}
use Rattle.std.specs.Ordering.{eq_by_cmp}
use Rattle.std.specs.FinMap.{get, get-insert}
use Rattle.op_ids.specs.declared.OpId.{OpId}
use Rattle.op_ids.specs.Order.{id_lt}
use Rattle.model.specs.Value.{Value}
use Rattle.model.specs.Operation.{Operation, new_node, move_node, put_key, type_text, erase_text, add_item, shift_item, set_item, drop_item}
use Rattle.model.specs.Change.{placed}
use Rattle.model.specs.State.{State, Atom, register_cmp, register_step, after}
use Rattle.model_laws.specs.Arrival.{contents, late, nodes_moved, with_nodes, atom_before, Rises, AnyOrderOfAll, Writes, GreatestIdWins}
use Rattle.model_laws.proofs.ArrivalLaws.{after_done, all_done, any_order, done_both, done_one, good_along, nodes_done}
use Rattle.model_laws.proofs.ListLaws.{all_back}
use Rattle.model_laws.proofs.Tables.{key_cases, key_itself, register_exact, register_total}

-- ---- several operations

pub any_order_of_all : AnyOrderOfAll
any_order_of_all s list [] m c =
    let nodes : (after s list).nodes ≡ nodes_moved s.nodes list = ap (λ v. v.nodes) (after_done s list (good_along s list m)) ∙ nodes_done s list in
    record { made_of = m; contents_late = refl; nodes_anew = nodes; whole = λ i. with_nodes (nodes i) (contents (after s list)) }
any_order_of_all s list (x ∷ xs) m c =
    let first = any_order s list x m c.0 in
    let rest = any_order_of_all s (placed atom_before x list) xs first.made_of c.1 in
    let tables = rest.contents_late ∙ ap (λ t. fold late t xs) first.contents_late in
    record { made_of = rest.made_of; contents_late = tables; nodes_anew = rest.nodes_anew; whole = λ i. with_nodes (rest.nodes_anew i) (tables i) }

-- ---- registers

module _ (node : OpId) (key : List ℕ) where
  abbrev Silent : Atom → Type 0
  Silent b = Writes b node key → ⊥

  -- an operation that doesn't write there leaves the register
  left_alone : (u : State) (id : OpId) (o : Operation) → ((value : Value) → o ≡ put_key node key value → ⊥) → get (register_step u.registers id o) (node, key) ≡ get u.registers (node, key)
  left_alone u id (put_key other at value) silent =
      get-insert register_total u.registers (other, at) (record { writer = id; value = value }) (node, key)
      ∙ elim (key_cases register_exact (node, key) (other, at)) as (λ _. cond (eq_by_cmp register_cmp (node, key) (other, at)) (Some (record { writer = id; value = value })) (get u.registers (node, key)) ≡ get u.registers (node, key)) [
        | inl e ↦ absurd (silent value (λ i. put_key (sym e i).0 (sym e i).1 value))
        | inr ne ↦ rw ne refl
      ]
  left_alone u id (new_node parent at) silent = refl
  left_alone u id (move_node child parent at) silent = refl
  left_alone u id (type_text owner at cs) silent = refl
  left_alone u id (erase_text owner first count) silent = refl
  left_alone u id (add_item owner at value) silent = refl
  left_alone u id (shift_item owner element at) silent = refl
  left_alone u id (set_item owner element value) silent = refl
  left_alone u id (drop_item owner element) silent = refl

  all_silent : (u : State) (list : List Atom) → AllByRecursion Silent list → get (all_done u list).registers (node, key) ≡ get u.registers (node, key)
  all_silent u [] h = refl
  all_silent u (b ∷ list) h = all_silent (done_one u b) list h.1 ∙ left_alone u b.id b.operation (λ value e. h.0 (value, e))

  -- an element of a list stands between two parts of it
  in_parts : (list : List Atom) (a : Atom) → Contains list a → (front : List Atom) × (back : List Atom) × (list ≡ front ++ a ∷ back)
  in_parts [] a c = absurd (let l : c.0 < 0 = c.1 in omega arith)
  in_parts (b ∷ list) a c =
      elim c.0 as (λ k. k < suc (length list) → get_or (b ∷ list) k a ≡ a → (front : List Atom) × (back : List Atom) × (b ∷ list ≡ front ++ a ∷ back)) [
        | zero ↦ λ l e. ([], list, ap (λ x. x ∷ list) e)
        | suc k ↦ λ l e. (let r = in_parts list a (k, (omega arith), e) in (b ∷ r.0, r.1, ap (λ t. b ∷ t) r.2))
      ] c.1 c.2

  rises_behind : (front : List Atom) (a : Atom) (back : List Atom) → Rises (front ++ a ∷ back) → AllByRecursion (λ b. id_lt a.id b.id ≡ true) back
  rises_behind [] a back r = r.0
  rises_behind (b ∷ front) a back r = rises_behind front a back r.1

  silent_behind : (a : Atom) (back : List Atom) → AllByRecursion (λ b. id_lt a.id b.id ≡ true) back → AllByRecursion (λ b. Writes b node key → id_lt a.id b.id ≡ false) back → AllByRecursion Silent back
  silent_behind a [] l g = tt
  silent_behind a (b ∷ back) l g = (λ w. (let bad : true ≡ false = sym l.0 ∙ g.0 w in cc), silent_behind a back l.1 g.1)

  last_write : (s : State) (front back : List Atom) (a : Atom) (value : Value) → a.operation ≡ put_key node key value → AllByRecursion Silent back
      → get (all_done s (front ++ a ∷ back)).registers (node, key) ≡ Some (record { writer = a.id; value = value })
  last_write s front back a value e silent =
      let u = all_done s front in
      let own : eq_by_cmp register_cmp (node, key) (node, key) ≡ true = key_itself register_total (node, key) (node, key) refl in
      let here : get (register_step u.registers a.id (put_key node key value)) (node, key) ≡ Some (record { writer = a.id; value = value }) =
      get-insert register_total u.registers (node, key) (record { writer = a.id; value = value }) (node, key) ∙ ap (λ b. cond b (Some (record { writer = a.id; value = value })) (get u.registers (node, key))) own in
      ap (λ v. get v.registers (node, key)) (done_both s front (a ∷ back)) ∙ all_silent (done_one u a) back silent ∙ ap (λ o. get (register_step u.registers a.id o) (node, key)) e ∙ here

pub greatest_id_wins : GreatestIdWins
greatest_id_wins s list node key m =
    let same = after_done s list (good_along s list m) in record {
      written = λ a value w.
          let p = in_parts node key list a w.there in
          let rises = subst Rises p.2 m.rises in
          let greatest = all_back (λ b. Writes b node key → id_lt a.id b.id ≡ false) p.0 (a ∷ p.1) (subst (AllByRecursion (λ b. Writes b node key → id_lt a.id b.id ≡ false)) p.2 w.greatest) in
          ap (λ v. get v.registers (node, key)) same ∙ ap (λ l. get (all_done s l).registers (node, key)) p.2
          ∙ last_write node key s p.0 p.1 a value w.writes (silent_behind node key a p.1 (rises_behind node key p.0 a p.1 rises) greatest.1);
      unwritten = λ silent. ap (λ v. get v.registers (node, key)) same ∙ all_silent node key s list silent;
    }
