-- The base of no changes keeps the rules of bases.
use Rattle.std.proofs.Common.{◌≡◌, ℕ, zero, suc, ◌^◌, ◌⊎◌, inl, inr, true, false, List, [], ◌∷◌, map, replicate, get_or, Some, None, refl, sym, ap, subst, ◌∙◌, arith, lit<}
use Rattle.std.specs.Prelude.{slice_get, slice_index, is_some, IsTrue}
use Rattle.std.specs.List.{AllByRecursion}
use Rattle.std.specs.List.Sorted.{IsStrictlySortedBy}
use Rattle.std.specs.FinMap.{empty, entries, get, get-empty, len}
use Rattle.std.specs.declared.cmp.Ordering.{Ordering}
use Rattle.std.proofs.lemmas.Bool.{cases_lt}
use Rattle.std.proofs.lemmas.List.{length-replicate, get_or-replicate, get_or_past}
use Rattle.std.proofs.lemmas.List.FromFn.{length-map-range_with_len}
use Rattle.op_ids.specs.declared.OpId.{OpId}
use Rattle.op_ids.specs.Order.{id_cmp, id_eq, root_id, trash_id}
use Rattle.op_ids.proofs.OrderLaws.{id_eq-exact}
use Rattle.model.specs.State.{row_cmp, register_cmp, Place, Character, Written, Element, empty_state, is_fixed, is_above}
use Rattle.model.specs.Operation.{Anchor}
use Rattle.model.specs.Base.{MemberRow, members, member_row}
use Rattle.model.specs.BaseItem.{base_parts, HasForms, IsMemberRow, IsNodeRow, IsPositionRow, IsRegisterRow, IsCharacterRow, IsElementRow, TablesRise, keys, IsForest, Stand, LeadUp, TablesBy, AreBy, RowAgrees}
use Rattle.model.specs.File.{IsBase}
use Rattle.model_laws.proofs.ListLaws.{all_map, all_of_any}
use Rattle.model_laws.proofs.TreeLaws.{above_itself, or_cases}
use Rattle.replica.specs.Empty.{empty_base}
use Rattle.replica.proofs.EmptyItem.{entries-empty, each_zero}

-- ---- tables with no rows

none_at : {K X Q : Type 0} (R : K → K → Ordering) (k : K) (x : X) → get (empty {X = X} {R = R}) k ≡ Some x → Q
none_at {X = X} R k x e = let none = get-empty {X = X} R k in absurd (let bad : None ≡ Some x = sym none ∙ e in cc)

each_none : {K X : Type 0} (R : K → K → Ordering) (P : K × X → Type 0) → AllByRecursion P (entries (empty {X = X} {R = R}))
each_none {K = K} {X = X} R P = subst (λ (es : List (K × X)). AllByRecursion P es) (sym (entries-empty R)) tt

rises_none : {K : Type 0} (X : Type 0) (R : K → K → Ordering) → IsStrictlySortedBy R (keys (entries (empty {X = X} {R = R})))
unfolding IsStrictlySortedBy
rises_none {K = K} X R = subst (λ (es : List (K × X)). IsStrictlySortedBy R (keys es)) (sym (entries-empty R)) tt

-- ---- members who made nothing

zero_at : (n k : ℕ) → ◌≡◌ {A = ℕ} (get_or (replicate n 0) k 0) 0
zero_at n k =
    elim (cases_lt k n) [
      | inl lt ↦ get_or-replicate n k 0 0 lt
      | inr le ↦ get_or_past (replicate n 0) k 0 (omega (arith, length-replicate {A = ℕ} n 0))
    ]

idle : (n m : ℕ) → IsMemberRow n (member_row n [] m)
idle n m = record { count = lit< tt; last = lit< tt; known_each = length-replicate {A = ℕ} n 0; known_most = each_zero (2 ^ 32) n (lit< tt) }

-- what holds of each holds of the one at a place
at_place : {A : Type 0} (P : A → Type 0) (xs : List A) (k : ℕ) (x : A) → AllByRecursion P xs → slice_get xs k ≡ Some x → P x
at_place P [] k x all e = absurd cc
at_place P (y ∷ ys) zero x all e = let same : y ≡ x = cc in subst P same all.0
at_place P (y ∷ ys) (suc k) x all e = at_place P ys k x all.1 e

-- the row of one who made nothing
abbrev IsIdle : ℕ → MemberRow → Type 0
IsIdle n r = r ≡ record { count = 0; last = 0; known = replicate n 0 }

all_idle : (n : ℕ) (ms : List ℕ) → AllByRecursion (IsIdle n) (map (member_row n []) ms)
all_idle n [] = tt
all_idle n (m ∷ ms) = (refl, all_idle n ms)

agrees : (n m : ℕ) (r : MemberRow) → IsIdle n r → RowAgrees (base_parts (empty_base n)) m r
agrees n m r is = record {
  last = omega (arith, ap (λ (x : MemberRow). x.last) is);
  own = ap (λ (x : MemberRow). slice_index x.known m) is ∙ zero_at n m ∙ sym (ap (λ (x : MemberRow). x.count) is);
  known = λ k other e. omega (arith, ap (λ (x : MemberRow). slice_index x.known k) is, zero_at n k);
  made_none = λ e. (ap (λ (x : MemberRow). x.last) is, λ k. ap (λ (x : MemberRow). slice_index x.known k) is ∙ zero_at n k);
  no_last = λ e. ap (λ (x : MemberRow). x.count) is;
}

-- ---- the rules

forms : (n : ℕ) → HasForms n (base_parts (empty_base n))
forms n = record {
  horizon = lit< tt;
  rows_each = length-map-range_with_len (member_row n []) 0 n;
  rows = all_map (IsMemberRow n) (member_row n []) (members n) (all_of_any (λ m. IsMemberRow n (member_row n [] m)) (idle n) (members n));
  nodes = each_none {X = Place} id_cmp (IsNodeRow n);
  positions = each_none {X = Anchor} row_cmp (IsPositionRow n);
  registers = each_none {X = Written} register_cmp (IsRegisterRow n);
  texts = each_none {X = Character} row_cmp (IsCharacterRow n);
  list_positions = each_none {X = Anchor} row_cmp (IsPositionRow n);
  elements = each_none {X = Element} row_cmp (IsElementRow n);
}

rise : (n : ℕ) → TablesRise (base_parts (empty_base n)).tables
rise n = record {
  nodes = rises_none Place id_cmp;
  positions = rises_none Anchor row_cmp;
  registers = rises_none Written register_cmp;
  texts = rises_none Character row_cmp;
  list_positions = rises_none Anchor row_cmp;
  elements = rises_none Element row_cmp;
}

forest : {X : Type 0} (at : X → Anchor) → IsForest empty_state at (empty {X = X} {R = row_cmp})
forest at = record { owner = λ owner id x e. none_at row_cmp (owner, id) x e; anchor = λ owner id x e _. none_at row_cmp (owner, id) x e }

stand : Stand empty_state
stand = record {
  nodes = record {
    parent = λ id p e. none_at id_cmp id p e;
    position = λ id p e. none_at id_cmp id p e;
    not_smaller = λ id p e. none_at id_cmp id p e;
    own_position = λ id other p q e _ _. none_at id_cmp id p e;
  };
  positions = forest (λ at. at);
  registers = λ node key w e. none_at register_cmp (node, key) w e;
  texts = forest (λ c. c.at);
  list_positions = forest (λ at. at);
  elements = record {
    owner = λ node id x e. none_at row_cmp (node, id) x e;
    position = λ node id x e. none_at row_cmp (node, id) x e;
    not_smaller = λ node id x e. none_at row_cmp (node, id) x e;
    own_position = λ node id other x y e _ _. none_at row_cmp (node, id) x e;
  };
}

lead_up : LeadUp empty_state
lead_up id there =
    elim (or_cases (is_fixed id) (is_some (get empty_state.nodes id)) there) as (λ _. IsTrue (is_above empty_state.nodes root_id id) ⊎ IsTrue (is_above empty_state.nodes trash_id id)) [
      | inl fixed ↦
          elim (or_cases (id_eq id root_id) (id_eq id trash_id) fixed) as (λ _. IsTrue (is_above empty_state.nodes root_id id) ⊎ IsTrue (is_above empty_state.nodes trash_id id)) [
            | inl root ↦ inl (subst (λ (x : OpId). IsTrue (is_above empty_state.nodes root_id x)) (sym (id_eq-exact id root_id root)) (above_itself (len empty_state.nodes) (get empty_state.nodes) root_id))
            | inr trash ↦ inr (subst (λ (x : OpId). IsTrue (is_above empty_state.nodes trash_id x)) (sym (id_eq-exact id trash_id trash)) (above_itself (len empty_state.nodes) (get empty_state.nodes) trash_id))
          ]
      | inr row ↦ let none = get-empty {X = Place} id_cmp id in absurd (let bad : false ≡ true = sym (ap is_some none) ∙ row in cc)
    ]

by_horizon : (n : ℕ) → TablesBy 0 (base_parts (empty_base n)).tables
by_horizon n = record {
  nodes = each_none {X = Place} id_cmp (λ e. AreBy 0 (e.0 ∷ e.1.parent ∷ e.1.position ∷ []));
  positions = each_none {X = Anchor} row_cmp (λ e. AreBy 0 (e.0.0 ∷ e.0.1 ∷ e.1.on ∷ []));
  registers = each_none {X = Written} register_cmp (λ e. AreBy 0 (e.0.0 ∷ e.1.writer ∷ []));
  texts = each_none {X = Character} row_cmp (λ e. AreBy 0 (e.0.0 ∷ e.0.1 ∷ e.1.at.on ∷ []));
  list_positions = each_none {X = Anchor} row_cmp (λ e. AreBy 0 (e.0.0 ∷ e.0.1 ∷ e.1.on ∷ []));
  elements = each_none {X = Element} row_cmp (λ e. AreBy 0 (e.0.0 ∷ e.0.1 ∷ e.1.position ∷ e.1.writer ∷ []));
}

pub empty_is_base : (n : ℕ) → IsBase n (empty_base n)
empty_is_base n = record {
  forms = forms n;
  rise = rise n;
  stand = stand;
  lead_up = lead_up;
  by_horizon = by_horizon n;
  rows_agree = λ m r e. agrees n m r (at_place (IsIdle n) (map (member_row n []) (members n)) m r (all_idle n (members n)) e);
}
