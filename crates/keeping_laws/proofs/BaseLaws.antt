-- A base that is moved on to a later time keeps the rules of bases.
use Rattle.std.proofs.Common.{◌≡◌, ℕ, ◌+◌, ◌<◌, ◌≤◌, ◌^◌, sum_by, true, leb, List, [], ◌∷◌, ◌++◌, length, refl, sym, subst, ◌∙◌, arith, inl, inr}
use Rattle.std.specs.Prelude.{Some, flat_map}
use Rattle.std.proofs.lemmas.List.Sums.{sum_by-cons}
use Rattle.std.specs.List.{AllByRecursion}
use Rattle.std.specs.Char.{IsScalar}
use Rattle.std.specs.Ordering.{eq_by_cmp}
use Rattle.std.specs.Cmp.{IsTotalOrder}
use Rattle.std.specs.FinMap.{FinMap, get, entries, get-entries, IsAntisymmetric}
use Rattle.std.specs.FinMap.Entries as es
use Rattle.std.specs.declared.cmp.Ordering.{Ordering}
use Rattle.std.proofs.lemmas.List.FromFn.{length-map-range_with_len}
use Rattle.op_ids.specs.declared.OpId.{OpId}
use Rattle.op_ids.specs.Order.{id_cmp}
use Rattle.op_ids.proofs.OrderLaws.{id_cmp_total, id_cmp_exact}
use Rattle.model.specs.Value.{IsOpId}
use Rattle.model.specs.Operation.{Anchor, Operation, IsAnchor, IsOperation, width_of, new_node, move_node, put_key, type_text, erase_text, add_item, shift_item, set_item, drop_item}
use Rattle.model.specs.Change.{Change, IsChange, EachAfter}
use Rattle.model.specs.State.{State, row_cmp, register_cmp, apart, characters_apart, right_of, by_ids, change_atoms, atoms, replay}
use Rattle.model.specs.Base.{Base, base_of, past, up_to, member_row, rows_of_changes}
use Rattle.model.specs.BaseItem.{tables_of, IsTimed, IsMemberRow, IsNodeRow, IsPositionRow, IsRegisterRow, IsCharacterRow, IsElementRow, AreBy, TablesRise, TablesBy, Stand}
use Rattle.model.specs.File.{IsBase}
use Rattle.model.specs.Ledger.{Sound, IsAmong, Joins}
use Rattle.model_laws.proofs.ArrivalLaws.{after_done, all_done, good_along}
use Rattle.model_laws.proofs.ChangeLaws.{EachAfter-front}
use Rattle.model_laws.proofs.ListLaws.{all_append, all_both, all_more}
use Rattle.model_laws.proofs.NodeLaws.{parents_lead_up}
use Rattle.model_laws.proofs.Tables.{key_cases, key_itself, keys_rise, register_exact, register_total, row_exact, row_total}
use Rattle.model_laws.proofs.TrimLaws.{replay-append, up_to-append-past}
use Rattle.arrival_laws.proofs.AddLaws.{all_kept, order_from, to_order}
use Rattle.arrival_laws.proofs.DocumentLaws.{made_of}
use Rattle.arrival_laws.proofs.ReadLaws.{Halves}
use Rattle.arrival_laws.proofs.SoundLaws.{order_kept}
use Rattle.arrival_laws.proofs.TimeLaws.{times_by, up_to_later}
use Rattle.ledger_laws.proofs.FileLaws.{timed}
use Rattle.ledger_laws.proofs.RowLaws.{got_each}
use Rattle.keeping_laws.proofs.FormLaws.{AtomIs, EachRow, Formed, formed_along}
use Rattle.keeping_laws.proofs.MemberRows.{each_row, row_formed, rows_all_agree}
use Rattle.keeping_laws.proofs.PlaceLaws.{stand_along}

-- ---- tables and their entries

module _ {K X : Type 0} {R : K → K → Ordering} (o : IsTotalOrder R) (exact : IsAntisymmetric R) where
  found_row : (P : K × X → Type 0) (list : List (K × X)) (k : K) (x : X) → AllByRecursion P list → es.find R k list ≡ Some x → P (k, x)
  found_row P [] k x h e = absurd cc
  found_row P (y ∷ list) k x h e =
      elim (key_cases exact k y.0) as (λ _. P (k, x)) [
        | inl same ↦
            let t : eq_by_cmp R k y.0 ≡ true = key_itself o k y.0 same in
            let v : Some y.1 ≡ Some x = rw t at e in
            let w : y.1 ≡ x = cc in
            subst P (λ i. (sym same i, w i)) h.0
        | inr other ↦ (let v : es.find R k list ≡ Some x = rw other at e in found_row P list k x h.1 v)
      ]

  -- what holds of each entry holds of what is got at each key, and the other way round
  from_rows : (P : K × X → Type 0) (m : FinMap R X) → AllByRecursion P (entries m) → EachRow P m
  from_rows P m h k x e = found_row P (entries m) k x h (sym (get-entries m k) ∙ e)

  to_rows : (P : K × X → Type 0) (m : FinMap R X) → EachRow P m → AllByRecursion P (entries m)
  to_rows P m h = all_more (λ e. get m e.0 ≡ Some e.1) P (λ e g. h e.0 e.1 g) (entries m) (got_each o m)

pub tables_rise : (s : State) → TablesRise (tables_of s)
tables_rise s = record {
  nodes = keys_rise id_cmp s.nodes;
  positions = keys_rise row_cmp s.positions;
  registers = keys_rise register_cmp s.registers;
  texts = keys_rise row_cmp s.texts;
  list_positions = keys_rise row_cmp s.list_positions;
  elements = keys_rise row_cmp s.elements;
}

-- the tables are in form
record TablesFormed (n : ℕ) (s : State) : Type 0 where
  nodes : AllByRecursion (IsNodeRow n) (entries s.nodes)
  positions : AllByRecursion (IsPositionRow n) (entries s.positions)
  registers : AllByRecursion (IsRegisterRow n) (entries s.registers)
  texts : AllByRecursion (IsCharacterRow n) (entries s.texts)
  list_positions : AllByRecursion (IsPositionRow n) (entries s.list_positions)
  elements : AllByRecursion (IsElementRow n) (entries s.elements)

both_rows : {K X : Type 0} {R : K → K → Ordering} (o : IsTotalOrder R) (exact : IsAntisymmetric R) (P Q : K × X → Type 0) (m : FinMap R X) → AllByRecursion P (entries m) → AllByRecursion Q (entries m) → EachRow (λ e. P e × Q e) m
both_rows o exact P Q m h k = from_rows o exact (λ e. P e × Q e) m (all_both P Q (entries m) h k)

formed_from : (n H : ℕ) (s : State) → TablesFormed n s → TablesBy H (tables_of s) → Formed n H s
formed_from n H s f b = record {
  nodes = both_rows id_cmp_total id_cmp_exact (IsNodeRow n) _ s.nodes f.nodes b.nodes;
  positions = both_rows row_total row_exact (IsPositionRow n) _ s.positions f.positions b.positions;
  registers = both_rows register_total register_exact (IsRegisterRow n) _ s.registers f.registers b.registers;
  texts = both_rows row_total row_exact (IsCharacterRow n) _ s.texts f.texts b.texts;
  list_positions = both_rows row_total row_exact (IsPositionRow n) _ s.list_positions f.list_positions b.list_positions;
  elements = both_rows row_total row_exact (IsElementRow n) _ s.elements f.elements b.elements;
}

first_rows : {K X : Type 0} {R : K → K → Ordering} (o : IsTotalOrder R) (exact : IsAntisymmetric R) (P Q : K × X → Type 0) (m : FinMap R X) → EachRow (λ e. P e × Q e) m → AllByRecursion P (entries m)
first_rows o exact P Q m h = to_rows o exact P m (λ k x e. (h k x e).0)

second_rows : {K X : Type 0} {R : K → K → Ordering} (o : IsTotalOrder R) (exact : IsAntisymmetric R) (P Q : K × X → Type 0) (m : FinMap R X) → EachRow (λ e. P e × Q e) m → AllByRecursion Q (entries m)
second_rows o exact P Q m h = to_rows o exact Q m (λ k x e. (h k x e).1)

tables_formed : (n H : ℕ) (s : State) → Formed n H s → TablesFormed n s
tables_formed n H s f = record {
  nodes = first_rows id_cmp_total id_cmp_exact (IsNodeRow n) (λ e. AreBy H (e.0 ∷ e.1.parent ∷ e.1.position ∷ [])) s.nodes f.nodes;
  positions = first_rows row_total row_exact (IsPositionRow n) (λ e. AreBy H (e.0.0 ∷ e.0.1 ∷ e.1.on ∷ [])) s.positions f.positions;
  registers = first_rows register_total register_exact (IsRegisterRow n) (λ e. AreBy H (e.0.0 ∷ e.1.writer ∷ [])) s.registers f.registers;
  texts = first_rows row_total row_exact (IsCharacterRow n) (λ e. AreBy H (e.0.0 ∷ e.0.1 ∷ e.1.at.on ∷ [])) s.texts f.texts;
  list_positions = first_rows row_total row_exact (IsPositionRow n) (λ e. AreBy H (e.0.0 ∷ e.0.1 ∷ e.1.on ∷ [])) s.list_positions f.list_positions;
  elements = first_rows row_total row_exact (IsElementRow n) (λ e. AreBy H (e.0.0 ∷ e.0.1 ∷ e.1.position ∷ e.1.writer ∷ [])) s.elements f.elements;
}

tables_by : (n H : ℕ) (s : State) → Formed n H s → TablesBy H (tables_of s)
tables_by n H s f = record {
  nodes = second_rows id_cmp_total id_cmp_exact (IsNodeRow n) (λ e. AreBy H (e.0 ∷ e.1.parent ∷ e.1.position ∷ [])) s.nodes f.nodes;
  positions = second_rows row_total row_exact (IsPositionRow n) (λ e. AreBy H (e.0.0 ∷ e.0.1 ∷ e.1.on ∷ [])) s.positions f.positions;
  registers = second_rows register_total register_exact (IsRegisterRow n) (λ e. AreBy H (e.0.0 ∷ e.1.writer ∷ [])) s.registers f.registers;
  texts = second_rows row_total row_exact (IsCharacterRow n) (λ e. AreBy H (e.0.0 ∷ e.0.1 ∷ e.1.at.on ∷ [])) s.texts f.texts;
  list_positions = second_rows row_total row_exact (IsPositionRow n) (λ e. AreBy H (e.0.0 ∷ e.0.1 ∷ e.1.on ∷ [])) s.list_positions f.list_positions;
  elements = second_rows row_total row_exact (IsElementRow n) (λ e. AreBy H (e.0.0 ∷ e.0.1 ∷ e.1.position ∷ e.1.writer ∷ [])) s.elements f.elements;
}

-- a base in form
pub base_formed : (n : ℕ) (b : Base) → IsBase n b → Formed n b.horizon b.state
base_formed n b is =
    formed_from n b.horizon b.state
    (record { nodes = is.forms.nodes; positions = is.forms.positions; registers = is.forms.registers; texts = is.forms.texts; list_positions = is.forms.list_positions; elements = is.forms.elements })
    is.by_horizon

-- a time that is later
ids_by : (H L : ℕ) → H ≤ L → (ids : List OpId) → AreBy H ids → AreBy L ids
ids_by H L l ids h = all_more (λ (id : OpId). id.time ≤ H) (λ id. id.time ≤ L) (λ id k. omega arith) ids h

pub formed_later : (n H L : ℕ) (s : State) → H ≤ L → Formed n H s → Formed n L s
formed_later n H L s l f = record {
  nodes = λ k x e. (let p = f.nodes k x e in (p.0, ids_by H L l (k ∷ x.parent ∷ x.position ∷ []) p.1));
  positions = λ k x e. (let p = f.positions k x e in (p.0, ids_by H L l (k.0 ∷ k.1 ∷ x.on ∷ []) p.1));
  registers = λ k x e. (let p = f.registers k x e in (p.0, ids_by H L l (k.0 ∷ x.writer ∷ []) p.1));
  texts = λ k x e. (let p = f.texts k x e in (p.0, ids_by H L l (k.0 ∷ k.1 ∷ x.at.on ∷ []) p.1));
  list_positions = λ k x e. (let p = f.list_positions k x e in (p.0, ids_by H L l (k.0 ∷ k.1 ∷ x.on ∷ []) p.1));
  elements = λ k x e. (let p = f.elements k x e in (p.0, ids_by H L l (k.0 ∷ k.1 ∷ x.position ∷ x.writer ∷ []) p.1));
}

-- ---- the operations of changes in form

module _ (n H : ℕ) (t m : ℕ) (below : m < n) (some : 1 ≤ t) (most : t < 2 ^ 48) (by : t ≤ H) where
  abbrev id_at : ℕ → OpId
  id_at index = record { time = t; member = m; index = index }

  id_is : (index : ℕ) → index < 2 ^ 16 → IsTimed n (id_at index)
  id_is index l = (record { time = most; member = below; index = l; fixed = λ z. absurd (omega arith) }, some)

  one_is : (index : ℕ) (o : Operation) → index + 1 ≤ 65536 → IsOperation n o → AllByRecursion (AtomIs n H) (record { id = id_at index; operation = o } ∷ [])
  one_is index o l is = (record { timed = id_is index (omega arith); by = by; operation = is }, tt)

  characters_are : (node : OpId) (index : ℕ) (at : Anchor) (cs : List ℕ) → IsOpId n node → IsAnchor n at → AllByRecursion IsScalar cs → index + length cs ≤ 65536 → AllByRecursion (AtomIs n H) (characters_apart node (id_at index) at cs)
  characters_are node index at [] o a h l = tt
  characters_are node index at (c ∷ cs) o a h l = (
    record { timed = id_is index (omega arith); by = by; operation = (o, a, record { each = (h.0, tt); some = omega arith; most = omega arith }) },
    characters_are node (index + 1) (right_of (id_at index)) cs o (record { on = (id_is index (omega arith)).0; head = λ e. refl }) h.1 (omega arith),
  )

  apart_are : (index : ℕ) (o : Operation) → IsOperation n o → index + width_of o ≤ 65536 → AllByRecursion (AtomIs n H) (apart (id_at index) o)
  apart_are index (type_text node at cs) is l = characters_are node index at cs is.0 is.1 is.2.each l
  apart_are index (new_node parent at) is l = one_is index (new_node parent at) l is
  apart_are index (move_node child parent at) is l = one_is index (move_node child parent at) l is
  apart_are index (put_key node key value) is l = one_is index (put_key node key value) l is
  apart_are index (erase_text node first count) is l = one_is index (erase_text node first count) l is
  apart_are index (add_item node at value) is l = one_is index (add_item node at value) l is
  apart_are index (shift_item node element at) is l = one_is index (shift_item node element at) l is
  apart_are index (set_item node element value) is l = one_is index (set_item node element value) l is
  apart_are index (drop_item node element) is l = one_is index (drop_item node element) l is

  operations_are : (index : ℕ) (os : List Operation) → AllByRecursion (IsOperation n) os → index + sum_by width_of os ≤ 65536 → AllByRecursion (AtomIs n H) (flat_map (λ a. apart a.id a.operation) (by_ids t m index os))
  operations_are index [] is l = tt
  operations_are index (o ∷ os) is l =
      let w = sum_by-cons width_of o os in
      all_append (AtomIs n H) (apart (id_at index) o) (flat_map (λ a. apart a.id a.operation) (by_ids t m (index + width_of o) os)) (apart_are index o is.0 (omega arith)) (operations_are (index + width_of o) os is.1 (omega arith))

pub atoms_are : (n H : ℕ) (cs : List Change) → AllByRecursion (IsChange n) cs → AllByRecursion (λ c. c.time ≤ H) cs → AllByRecursion (AtomIs n H) (atoms cs)
atoms_are n H [] is by = tt
atoms_are n H (c ∷ cs) is by =
    all_append (AtomIs n H) (change_atoms c) (atoms cs) (operations_are n H c.time c.member is.0.member is.0.time_some is.0.time_most by.0 0 c.operations is.0.operations (omega (arith, is.0.width_most))) (atoms_are n H cs is.1 by.1)

-- ---- a state moved on

-- a state in form, in which what rows name is there
pub record IsOn (n H : ℕ) (s : State) : Type 0 where
  pub formed : Formed n H s
  pub stand : Stand s

pub moved_on : (n H L : ℕ) (early mid : List Change) → H ≤ L → Sound n (early ++ mid) → IsOn n H (replay early) → AllByRecursion (IsChange n) mid → AllByRecursion (λ c. c.time ≤ L) mid → IsOn n L (replay (early ++ mid))
moved_on n H L early mid l sound on each by =
    let good = good_along (replay early) (atoms mid) (made_of n early mid sound) in
    let same : replay (early ++ mid) ≡ all_done (replay early) (atoms mid) = replay-append early mid ∙ after_done (replay early) (atoms mid) good in
    subst (IsOn n L) (sym same) (record {
      formed = formed_along n L (replay early) (atoms mid) good (atoms_are n L mid each by) (formed_later n H L (replay early) l on.formed);
      stand = stand_along (replay early) (atoms mid) good on.stand;
    })

-- ---- a base moved on

-- the front of a ledger up to a time
pub front_sound : (n L : ℕ) (h : List Change) → Sound n h → Sound n (up_to L h)
front_sound n L h sound = record {
  in_order = to_order (up_to L h) (order_kept (λ c. leb c.time L) h (order_from h sound.in_order));
  among = all_kept (IsAmong n) (λ c. leb c.time L) h sound.among;
  each = EachAfter-front (Joins n) [] (up_to L h) (past L h) (subst (λ l. EachAfter (Joins n) [] l) (sym (up_to-append-past L h sound.in_order)) sound.each);
}

-- the base of changes up to a time, whose rows are in form
pub base_is : (n L : ℕ) (now : List Change) → Sound n now → AllByRecursion (λ c. c.time ≤ L) now → L < 2 ^ 48 → IsOn n L (replay now) → AllByRecursion (IsMemberRow n) (rows_of_changes n now) → IsBase n (record { horizon = L; rows = rows_of_changes n now; state = replay now })
base_is n L now sound by most on rows =
    let f = tables_formed n L (replay now) on.formed in
    record {
      forms = record {
        horizon = most;
        rows_each = length-map-range_with_len (member_row n now) 0 n;
        rows = rows;
        nodes = f.nodes;
        positions = f.positions;
        registers = f.registers;
        texts = f.texts;
        list_positions = f.list_positions;
        elements = f.elements;
      };
      rise = tables_rise (replay now);
      stand = on.stand;
      lead_up = parents_lead_up now sound.in_order (timed n now sound);
      by_horizon = tables_by n L (replay now) on.formed;
      rows_agree = rows_all_agree n now L sound by (tables_of (replay now));
    }

pub base_moved_on : (n H L : ℕ) (h : List Change) → Sound n h → H ≤ L → L < 2 ^ 48 → IsBase n (base_of n h H) → AllByRecursion (IsChange n) (past H h) → IsBase n (base_of n h L)
base_moved_on n H L h sound l most is each =
    let early = up_to H h in
    let mid = up_to L (past H h) in
    let now = up_to L h in
    let split : now ≡ early ++ mid = up_to_later H L h sound.in_order l in
    let now_sound = front_sound n L h sound in
    let split_sound : Sound n (early ++ mid) = subst (Sound n) split now_sound in
    let mid_each = all_kept (IsChange n) (λ c. leb c.time L) (past H h) each in
    let on : IsOn n L (replay now) = subst (λ c. IsOn n L (replay c)) (sym split) (moved_on n H L early mid l split_sound (record { formed = base_formed n (base_of n h H) is; stand = is.stand }) mid_each (times_by L (past H h))) in
    let halves : Halves n early mid H = record { each = split_sound.each; by_then = times_by H h } in
    let rows : AllByRecursion (IsMemberRow n) (rows_of_changes n now) = subst (λ c. AllByRecursion (IsMemberRow n) (rows_of_changes n c)) (sym split) (each_row (IsMemberRow n) n (early ++ mid) (row_formed n early mid H halves is.forms.rows mid_each)) in
    base_is n L now now_sound (times_by L h) most on rows
