-- Operations in form leave the rows of a document in form, and no id past a time.
use Rattle.std.proofs.Common.{◌≡◌, ◌≢◌, ℕ, ◌≤◌, true, false, cond, List, [], ◌∷◌, refl, sym, ap, subst, ◌∙◌, arith, inl, inr}
use Rattle.std.specs.Prelude.{Some, None, is_some, fold}
use Rattle.std.specs.List.{AllByRecursion}
use Rattle.std.specs.Ordering.{eq_by_cmp}
use Rattle.std.specs.Cmp.{IsTotalOrder}
use Rattle.std.specs.FinMap.{FinMap, get, insert, get-insert, IsAntisymmetric}
use Rattle.std.specs.declared.cmp.Ordering.{Ordering}
use Rattle.std.proofs.lemmas.Bool.{cases_lt}
use Rattle.op_ids.specs.declared.OpId.{OpId}
use Rattle.op_ids.specs.Order.{id_eq, id_lt, root_id, trash_id, stamp_of}
use Rattle.op_ids.proofs.OrderLaws.{id_cmp_total, id_cmp_exact, less_from_is_lt, stamp_lt_cases, stamps_from_lt}
use Rattle.model.specs.Value.{IsOpId}
use Rattle.model.specs.Operation.{Anchor, Operation, IsAnchor, IsOperation, new_node, move_node, put_key, type_text, erase_text, add_item, shift_item, set_item, drop_item}
use Rattle.model.specs.State.{State, Atom, Place, Written, Character, Element, RowKey, Register, row_cmp, has_anchor, is_above, edit_row, killed, run_of, named, names_what_is_there, done}
use Rattle.model.specs.BaseItem.{IsTimed, IsRowAnchor, IsNodeRow, IsPositionRow, IsRegisterRow, IsCharacterRow, IsElementRow, AreBy}
use Rattle.model_laws.specs.Arrival.{IsSingle}
use Rattle.model_laws.proofs.ArrivalLaws.{all_done, done_one, GoodAlong}
use Rattle.model_laws.proofs.ChangeLaws.{stamp_times}
use Rattle.model_laws.proofs.Presence.{AllNamed, Before}
use Rattle.model_laws.proofs.Tables.{both_true, edited_row, key_cases, key_itself, register_exact, register_total, row_exact, row_total}

-- ---- ids

-- a smaller id is no later
pub no_later : (q i : OpId) → id_lt q i ≡ true → q.time ≤ i.time
no_later q i l =
    elim (stamp_lt_cases (stamp_of q) (stamp_of i)) as (λ _. q.time ≤ i.time) [
      | inl less ↦ stamp_times (stamp_of q) (stamp_of i) (less_from_is_lt _ less)
      | inr (inl e) ↦ (let t = ap (λ s. s.time) e in omega arith)
      | inr (inr more) ↦ absurd (let c : true ≡ false = sym more ∙ stamps_from_lt q i l in cc)
    ]

not_root : (id : OpId) → 1 ≤ id.time → id ≢ root_id
not_root id l e = let t = ap (λ (x : OpId). x.time) e in absurd (omega arith)

not_trash : (id : OpId) → 1 ≤ id.time → id ≢ trash_id
not_trash id l e = let t = ap (λ (x : OpId). x.time) e in absurd (omega arith)

-- an id that is neither root nor trash
loose : (n : ℕ) (id : OpId) → IsOpId n id → id ≢ root_id → id ≢ trash_id → IsTimed n id
loose n id is r t =
    elim (cases_lt 0 id.time) as (λ _. IsTimed n id) [
      | inl some ↦ (is, some)
      | inr none ↦ elim (is.fixed (omega arith)) as (λ _. IsTimed n id) [ inl e ↦ absurd (r e) | inr e ↦ absurd (t e) ]
    ]

-- ---- what holds of each row

module _ {K X : Type 0} {R : K → K → Ordering} where
  abbrev pub EachRow : (K × X → Type 0) → FinMap R X → Type 0
  EachRow P table = (k : K) (x : X) → get table k ≡ Some x → P (k, x)

  pub each_insert : IsTotalOrder R → IsAntisymmetric R → (P : K × X → Type 0) (table : FinMap R X) (k : K) (x : X) → EachRow P table → P (k, x) → EachRow P (insert table k x)
  each_insert o exact P table k x h p q y e =
      let g : cond (eq_by_cmp R q k) (Some x) (get table q) ≡ Some y = sym (get-insert o table k x q) ∙ e in
      elim (key_cases exact q k) as (λ _. P (q, y)) [
        | inl same ↦
            let t : eq_by_cmp R q k ≡ true = key_itself o q k same in
            let v : Some x ≡ Some y = rw t at g in
            let w : x ≡ y = cc in
            subst P (λ i. (sym same i, w i)) p
        | inr other ↦ (let v : get table q ≡ Some y = rw other at g in h q y v)
      ]

pub each_edit : {X : Type 0} (P : RowKey × X → Type 0) (table : FinMap row_cmp X) (k : RowKey) (f : X → X) → ((q : RowKey) (x : X) → P (q, x) → P (q, f x)) → EachRow P table → EachRow P (edit_row table k f)
each_edit P table k f keeps h q y e =
    let r = edited_row table k f q y e in
    elim r.2 as (λ _. P (q, y)) [ inl s ↦ subst (λ z. P (q, z)) (sym s) (keeps q r.0 (h q r.0 r.1)) | inr s ↦ subst (λ z. P (q, z)) (sym s) (h q r.0 r.1) ]

-- ---- rows in form, with no id past a time

abbrev pub NodeIs : ℕ → ℕ → OpId × Place → Type 0
NodeIs n T e = IsNodeRow n e × AreBy T (e.0 ∷ e.1.parent ∷ e.1.position ∷ [])

abbrev pub PositionIs : ℕ → ℕ → RowKey × Anchor → Type 0
PositionIs n T e = IsPositionRow n e × AreBy T (e.0.0 ∷ e.0.1 ∷ e.1.on ∷ [])

abbrev pub RegisterIs : ℕ → ℕ → Register × Written → Type 0
RegisterIs n T e = IsRegisterRow n e × AreBy T (e.0.0 ∷ e.1.writer ∷ [])

abbrev pub CharacterIs : ℕ → ℕ → RowKey × Character → Type 0
CharacterIs n T e = IsCharacterRow n e × AreBy T (e.0.0 ∷ e.0.1 ∷ e.1.at.on ∷ [])

abbrev pub ElementIs : ℕ → ℕ → RowKey × Element → Type 0
ElementIs n T e = IsElementRow n e × AreBy T (e.0.0 ∷ e.0.1 ∷ e.1.position ∷ e.1.writer ∷ [])

pub record Formed (n T : ℕ) (s : State) : Type 0 where
  pub nodes : EachRow (NodeIs n T) s.nodes
  pub positions : EachRow (PositionIs n T) s.positions
  pub registers : EachRow (RegisterIs n T) s.registers
  pub texts : EachRow (CharacterIs n T) s.texts
  pub list_positions : EachRow (PositionIs n T) s.list_positions
  pub elements : EachRow (ElementIs n T) s.elements

-- an operation in form, by an id that is no later
pub record AtomIs (n T : ℕ) (a : Atom) : Type 0 where
  pub timed : IsTimed n a.id
  pub by : a.id.time ≤ T
  pub operation : IsOperation n a.operation

-- ---- one operation

module _ (n T : ℕ) (id : OpId) (timed : IsTimed n id) (by : id.time ≤ T) where
  named_by : (q : OpId) → id_lt q id ≡ true → q.time ≤ T
  named_by q l = let k = no_later q id l in omega arith

  -- the head, or a row of the owner, is not the trash
  row_anchor : {X : Type 0} (table : FinMap row_cmp X) (owner : OpId) (at : Anchor) → ((q : OpId) (x : X) → get table (owner, q) ≡ Some x → 1 ≤ q.time) → has_anchor table owner at.on ≡ true → IsAnchor n at → IsRowAnchor n at
  row_anchor {X} table owner at rows there is = (
    is,
    λ e.
        let off : id_eq at.on root_id ≡ false = ap (λ q. id_eq q root_id) e in
        let row : is_some (get table (owner, at.on)) ≡ true = rw off at there in
        let late : 1 ≤ at.on.time =
        elim (get table (owner, at.on)) as (λ o. get table (owner, at.on) ≡ o → is_some o ≡ true → 1 ≤ at.on.time) [ None ↦ λ _ bad. absurd cc | Some x ↦ λ g _. rows at.on x g ] refl row in
        not_trash at.on late e,
  )

  position_row : (table : FinMap row_cmp Anchor) (owner : OpId) (at : Anchor) → EachRow (PositionIs n T) table → IsOpId n owner → IsAnchor n at → id_lt owner id ≡ true → id_lt at.on id ≡ true → has_anchor table owner at.on ≡ true → EachRow (PositionIs n T) (insert table (owner, id) at)
  position_row table owner at rows o a less on there =
      each_insert row_total row_exact (PositionIs n T) table (owner, id) at rows
      ((o, timed, row_anchor table owner at (λ q x g. (rows (owner, q) x g).0.1.1) there a), (named_by owner less, (by, (named_by at.on on, tt))))

  killed_rows : (node : OpId) (ids : List OpId) (table : FinMap row_cmp Character) → EachRow (CharacterIs n T) table → EachRow (CharacterIs n T) (fold (λ rows k. edit_row rows (node, k) killed) table ids)
  killed_rows node [] table rows = rows
  killed_rows node (k ∷ ids) table rows = killed_rows node ids (edit_row table (node, k) killed) (each_edit (CharacterIs n T) table (node, k) killed (λ q x p. p) rows)

  formed_done : (u : State) (o : Operation) → IsSingle o → IsOperation n o → names_what_is_there u o ≡ true → AllNamed (Before id) (named u o) → Formed n T u → Formed n T (done id o u)
  formed_done u (new_node parent at) one is there less f =
      let b = both_true _ _ there in let c = both_true _ _ b.1 in record {
        nodes = each_insert id_cmp_total id_cmp_exact (NodeIs n T) u.nodes id (record { parent = parent; position = id }) f.nodes ((timed, is.0, timed), (by, (named_by parent less.0, (by, tt))));
        positions = position_row u.positions parent at f.positions is.0 is.1 less.0 less.1.0 c.0;
        registers = f.registers;
        texts = f.texts;
        list_positions = f.list_positions;
        elements = f.elements;
      }
  formed_done u (move_node child parent at) one is there less f =
      let a = both_true _ _ there in let b = both_true _ _ a.1 in let c = both_true _ _ b.1 in
      let place : Place = record { parent = parent; position = id } in record {
        nodes = elim (is_above u.nodes child parent) as (λ t. EachRow (NodeIs n T) (cond t u.nodes (insert u.nodes child place))) [
          | true ↦ f.nodes
          | false ↦ each_insert id_cmp_total id_cmp_exact (NodeIs n T) u.nodes child place f.nodes ((loose n child is.0 is.1 is.2, is.3, timed), (named_by child less.0, (named_by parent less.1.0, (by, tt))))
        ];
        positions = position_row u.positions parent at f.positions is.3 is.4 less.1.0 less.1.1.0 c.0;
        registers = f.registers;
        texts = f.texts;
        list_positions = f.list_positions;
        elements = f.elements;
      }
  formed_done u (put_key node key value) one is there less f = record {
    nodes = f.nodes;
    positions = f.positions;
    registers = each_insert register_total register_exact (RegisterIs n T) u.registers (node, key) (record { writer = id; value = value }) f.registers ((is.0, is.1, timed, is.2), (named_by node less.0, (by, tt)));
    texts = f.texts;
    list_positions = f.list_positions;
    elements = f.elements;
  }
  formed_done u (type_text node at []) one is there less f = absurd (omega arith)
  formed_done u (type_text node at (c ∷ d ∷ cs)) one is there less f = absurd (omega arith)
  formed_done u (type_text node at (c ∷ [])) one is there less f =
      let a = both_true _ _ there in let b = both_true _ _ a.1 in record {
        nodes = f.nodes;
        positions = f.positions;
        registers = f.registers;
        texts = each_insert row_total row_exact (CharacterIs n T) u.texts (node, id) (record { at = at; character = c; dead = false }) f.texts
            ((is.0, timed, row_anchor u.texts node at (λ q x g. (f.texts (node, q) x g).0.1.1) b.0 is.1, is.2.each.0), (named_by node less.0, (by, (named_by at.on less.1.0, tt))));
        list_positions = f.list_positions;
        elements = f.elements;
      }
  formed_done u (erase_text node first count) one is there less f = record {
    nodes = f.nodes;
    positions = f.positions;
    registers = f.registers;
    texts = killed_rows node (run_of first count) u.texts f.texts;
    list_positions = f.list_positions;
    elements = f.elements;
  }
  formed_done u (add_item node at value) one is there less f =
      let a = both_true _ _ there in let b = both_true _ _ a.1 in record {
        nodes = f.nodes;
        positions = f.positions;
        registers = f.registers;
        texts = f.texts;
        list_positions = position_row u.list_positions node at f.list_positions is.0 is.1 less.0 less.1.0 b.0;
        elements = each_insert row_total row_exact (ElementIs n T) u.elements (node, id) (record { position = id; writer = id; value = value; dropped = false }) f.elements
            ((is.0, timed, timed, timed, is.2), (named_by node less.0, (by, (by, (by, tt)))));
      }
  formed_done u (shift_item node element at) one is there less f =
      let a = both_true _ _ there in let b = both_true _ _ a.1 in let c = both_true _ _ b.1 in record {
        nodes = f.nodes;
        positions = f.positions;
        registers = f.registers;
        texts = f.texts;
        list_positions = position_row u.list_positions node at f.list_positions is.0 is.2 less.0 less.1.1.0 c.0;
        elements = each_edit (ElementIs n T) u.elements (node, element) (λ e. record e { position = id }) (λ q x p. ((p.0.0, p.0.1, timed, p.0.3, p.0.4), (p.1.0, (p.1.1.0, (by, p.1.1.1.1))))) f.elements;
      }
  formed_done u (set_item node element value) one is there less f = record {
    nodes = f.nodes;
    positions = f.positions;
    registers = f.registers;
    texts = f.texts;
    list_positions = f.list_positions;
    elements = each_edit (ElementIs n T) u.elements (node, element) (λ e. record e { writer = id; value = value }) (λ q x p. ((p.0.0, p.0.1, p.0.2, timed, is.2), (p.1.0, (p.1.1.0, (p.1.1.1.0, (by, tt)))))) f.elements;
  }
  formed_done u (drop_item node element) one is there less f = record {
    nodes = f.nodes;
    positions = f.positions;
    registers = f.registers;
    texts = f.texts;
    list_positions = f.list_positions;
    elements = each_edit (ElementIs n T) u.elements (node, element) (λ e. record e { dropped = true }) (λ q x p. p) f.elements;
  }

-- ---- operations one after the other

pub formed_along : (n T : ℕ) (u : State) (list : List Atom) → GoodAlong u list → AllByRecursion (AtomIs n T) list → Formed n T u → Formed n T (all_done u list)
formed_along n T u [] g is f = f
formed_along n T u (a ∷ list) g is f =
    formed_along n T (done_one u a) list g.1 is.1 (formed_done n T a.id is.0.timed is.0.by u a.operation g.0.single is.0.operation g.0.names g.0.smaller f)
