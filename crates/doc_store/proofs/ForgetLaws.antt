-- Operations that are forgotten become part of the state.
use Rattle.std.specs.Prelude.{◌≡◌, ℕ, ◌≤◌, ◌<◌, Bool, true, false, cond, None, List, [], ◌∷◌, ◌++◌, filter, nat_le, nat_lt, refl}
use Rattle.std.proofs.Common.{sym, ◌∙◌, ap, subst, arith, inl, inr}
use Rattle.std.proofs.lemmas.Bool.Decides.{nat_tests}
use Rattle.std.specs.List.{AllByRecursion, cons_option}
use Rattle.std.specs.FinMap.{get}
use Rattle.op_ids.specs.declared.OpId.{OpId}
use Rattle.op_ids.specs.Order.{id_lt}
use Rattle.model.specs.Operation.{Operation, new_node, move_node, put_key, type_text, erase_text, add_item, shift_item, set_item, drop_item}
use Rattle.model.specs.State.{State, Atom, after, is_fixed, step}
use Rattle.model_laws.specs.Arrival.{AreBelow, IsMadeOf, IsSingle, ReferInTurn, Rises, atom_before, with_nodes}
use Rattle.model_laws.specs.Tree.{IsTree}
use Rattle.model_laws.proofs.ArrivalLaws.{GoodAlong, after_done, all_done, below_next, done_one, good_along, good_back, good_front, nodes_done, refer_from}
use Rattle.model_laws.proofs.ListLaws.{all_back, all_both, all_front, all_more, filter_all, filter_none}
use Rattle.model_laws.proofs.NodeLaws.{keeps_tree}
use Rattle.model_laws.proofs.Tables.{bool_cases, is_none}
use Rattle.arrival_laws.proofs.ChangeArrival.{rises_front}
use Rattle.arrival_laws.proofs.DocumentLaws.{rises_back}
use Rattle.tree_log.specs.Moves.{after_moves, has_place, places_now}
use Rattle.tree_log.specs.Steps.{move_by, moves_of}
use Rattle.tree_log.specs.declared.moves.TreeMove.{TreeMove}
use Rattle.tree_log.proofs.StepLaws.{node_steps_are_moves}
use Rattle.doc_store.specs.Kept.{Kept}
use Rattle.doc_store.specs.Documents.{IsDocument}
use Rattle.doc_store.proofs.JoinLaws.{own_not_fixed}
use Rattle.doc_store.proofs.MoveLaws.{moves_in, nodes_new, not_there}

-- ---- the moves of those with some ids

either : (b : Bool) (us : List TreeMove) → us ≡ cond b us us
either true us = refl
either false us = refl

kept_kind : (p : OpId → Bool) (id : OpId) (o : Operation) (ts : List TreeMove) → filter (λ t. p t.id) (cons_option (move_by id o) ts) ≡ cond (p id) (cons_option (move_by id o) (filter (λ t. p t.id) ts)) (filter (λ t. p t.id) ts)
kept_kind p id (new_node parent at) ts = refl
kept_kind p id (move_node child parent at) ts = refl
kept_kind p id (put_key node key value) ts = either (p id) (filter (λ t. p t.id) ts)
kept_kind p id (type_text node at characters) ts = either (p id) (filter (λ t. p t.id) ts)
kept_kind p id (erase_text node first count) ts = either (p id) (filter (λ t. p t.id) ts)
kept_kind p id (add_item node at value) ts = either (p id) (filter (λ t. p t.id) ts)
kept_kind p id (shift_item node element at) ts = either (p id) (filter (λ t. p t.id) ts)
kept_kind p id (set_item node element value) ts = either (p id) (filter (λ t. p t.id) ts)
kept_kind p id (drop_item node element) ts = either (p id) (filter (λ t. p t.id) ts)

moves_filtered : (p : OpId → Bool) (list : List Atom) → filter (λ t. p t.id) (moves_of list) ≡ moves_of (filter (λ a. p a.id) list)
moves_filtered p [] = refl
moves_filtered p (a ∷ list) =
    kept_kind p a.id a.operation (moves_of list) ∙ ap (λ us. cond (p a.id) (cons_option (move_by a.id a.operation) us) us) (moves_filtered p list)
    ∙ elim (p a.id) as (λ b. cond b (cons_option (move_by a.id a.operation) (moves_of (filter (λ a. p a.id) list))) (moves_of (filter (λ a. p a.id) list)) ≡ moves_of (cond b (a ∷ filter (λ a. p a.id) list) (filter (λ a. p a.id) list))) [ true ↦ refl | false ↦ refl ]

-- ---- the split by time

abbrev pub gone : ℕ → List Atom → List Atom
gone time list = filter (λ a. nat_le a.id.time time) list

abbrev pub left : ℕ → List Atom → List Atom
left time list = filter (λ a. nat_lt time a.id.time) list

-- ids that rise have times that do not fall
id_times : (a b : OpId) → id_lt a b ≡ true → a.time ≤ b.time
id_times a b l = grind (arith, nat_tests, l)

split_time : (time : ℕ) (list : List Atom) → Rises list → list ≡ gone time list ++ left time list
split_time time [] r = refl
split_time time (a ∷ list) r =
    elim (bool_cases (nat_le a.id.time time)) as (λ _. a ∷ list ≡ gone time (a ∷ list) ++ left time (a ∷ list)) [
      | inl e ↦ (let n : nat_lt time a.id.time ≡ false = grind (arith, nat_tests) in rw (e, n) (ap (λ l. a ∷ l) (split_time time list r.1)))
      | inr e ↦
          let later : nat_lt time a.id.time ≡ true = grind (arith, nat_tests) in
          let more : AllByRecursion (λ b. time < b.id.time) list = all_more (λ b. atom_before a b ≡ true) (λ b. time < b.id.time) (λ b l. let t = id_times a.id b.id l in grind (arith, nat_tests)) list r.0 in
          let none : gone time list ≡ [] = filter_none (λ b. nat_le b.id.time time) list (all_more (λ b. time < b.id.time) (λ b. nat_le b.id.time time ≡ false) (λ b l. grind (arith, nat_tests)) list more) in
          let all : left time list ≡ list = filter_all (λ b. nat_lt time b.id.time) list (all_more (λ b. time < b.id.time) (λ b. nat_lt time b.id.time ≡ true) (λ b l. grind (arith, nat_tests)) list more) in
          rw (e, later, none, all) refl
    ]

-- ---- the rest, over the state after those that are gone

after_both : (u : State) (front back : List Atom) → after u (front ++ back) ≡ after (after u front) back
after_both u [] back = refl
after_both u (a ∷ front) back = after_both (step u a) front back

below_along : (u : State) (front back : List Atom) → Rises (front ++ back) → GoodAlong u front → AllByRecursion (λ b. AreBelow u b.id) (front ++ back) → AllByRecursion (λ b. AreBelow (all_done u front) b.id) back
below_along u [] back r g b = b
below_along u (a ∷ front) back r g b = below_along (done_one u a) front back r.1 g.1 (below_next u a (front ++ back) g.0 r.0 b.1)

module _ (s : State) (front back : List Atom) (m : IsMadeOf s (front ++ back)) where
  good : GoodAlong s front
  good = good_front s front back (good_along s (front ++ back) m)

  same : after s front ≡ all_done s front
  same = after_done s front good

  pub rest_made : IsMadeOf (after s front) back
  rest_made = record {
    rises = rises_back front back m.rises;
    single = all_back (λ a. IsSingle a.operation) front back m.single;
    below = subst (λ u. AllByRecursion (λ b. AreBelow u b.id) back) (sym same) (below_along s front back m.rises good m.below);
    refer = subst (λ u. ReferInTurn u back) (sym same) (refer_from (all_done s front) back (good_back s front back (good_along s (front ++ back) m)));
  }

  pub front_nodes : IsTree s.nodes → AllByRecursion (λ a. 1 ≤ a.id.time) front → after_moves s.nodes (moves_of front) ≡ (after s front).nodes
  front_nodes t o =
      sym (node_steps_are_moves s.nodes front t (moves_in front o s (has_place s.nodes) (λ q h. h) t good) (nodes_new s front good))
      ∙ sym (nodes_done s front) ∙ ap (λ (u : State). u.nodes) (sym same)

  pub front_tree : IsTree s.nodes → AllByRecursion (λ a. 1 ≤ a.id.time) front → IsTree (after s front).nodes
  front_tree t o =
      keeps_tree s front t (rises_front front back m.rises)
      (all_more (λ a. AreBelow s a.id × (1 ≤ a.id.time)) (λ a. (get s.nodes a.id ≡ None) × (is_fixed a.id ≡ false)) (λ a k. (is_none (get s.nodes a.id) (not_there s a.id k.0), own_not_fixed a.id k.1)) front
      (all_both (λ a. AreBelow s a.id) (λ a. 1 ≤ a.id.time) front (all_front (λ a. AreBelow s a.id) front back m.below) o))

pub forgets : (d now : Kept) (time : ℕ) → now.contents ≡ d.contents → now.log.base ≡ after_moves d.log.base (filter (λ t. nat_le t.id.time time) d.log.moves) → now.log.moves ≡ filter (λ t. nat_lt time t.id.time) d.log.moves
    → places_now now.log ≡ places_now d.log → (s : State) (list : List Atom) → IsDocument d s list → IsDocument now (after s (gone time list)) (left time list)
forgets d now time rows base moves places s list is =
    let front = gone time list in
    let back = left time list in
    let two : list ≡ front ++ back = split_time time list is.made_of.rises in
    let m : IsMadeOf s (front ++ back) = subst (IsMadeOf s) two is.made_of in
    let timed : AllByRecursion (λ a. 1 ≤ a.id.time) (front ++ back) = subst (AllByRecursion (λ a. 1 ≤ a.id.time)) two is.timed in
    let early = all_front (λ a. 1 ≤ a.id.time) front back timed in
    record {
      tree = front_tree s front back m is.tree early;
      made_of = rest_made s front back m;
      timed = all_back (λ a. 1 ≤ a.id.time) front back timed;
      state = ap (λ n. with_nodes n now.contents) places ∙ ap (with_nodes (places_now d.log)) rows ∙ is.state ∙ ap (after s) two ∙ after_both s front back;
      base = base ∙ ap (λ b. after_moves b (filter (λ t. nat_le t.id.time time) d.log.moves)) is.base ∙ ap (λ ts. after_moves s.nodes (filter (λ t. nat_le t.id.time time) ts)) is.moves
          ∙ ap (after_moves s.nodes) (moves_filtered (λ i. nat_le i.time time) list) ∙ front_nodes s front back m is.tree early;
      moves = moves ∙ ap (filter (λ t. nat_lt time t.id.time)) is.moves ∙ moves_filtered (λ i. nat_lt time i.time) list;
    }
