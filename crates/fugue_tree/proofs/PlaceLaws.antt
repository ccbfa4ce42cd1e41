-- The first child of a row, and the place of a row that is to stand after another.
use Rattle.std.specs.Prelude.{◌≡◌, ℕ, suc, ◌<◌, ◌≤◌, Bool, true, false, Option, Some, None, [], ◌∷◌, length, refl}
use Rattle.std.proofs.Common.{sym, ◌∙◌, ap, inl, inr, arith}
use Rattle.std.specs.List.{list_any}
use Rattle.std.specs.BTreeSet.{BTreeSet, contains}
use Rattle.op_ids.specs.declared.OpId.{OpId}
use Rattle.op_ids.specs.declared.Side.{Side}
use Rattle.op_ids.specs.declared.Side.TheVariants.{Left, Right}
use Rattle.op_ids.specs.Order.{id_lt}
use Rattle.op_ids.proofs.OrderLaws.{lt_trans, lt_itself}
use Rattle.model.specs.Operation.{Anchor}
use Rattle.model.specs.Walk.{Rows, hangs, place_after}
use Rattle.walk_laws.specs.Insertion.{anchor_of, IsInsertionTree, HeadOrRow, LeastChild, Leftmost}
use Rattle.walk_laws.proofs.Walks.{key_cases}
use Rattle.walk_laws.proofs.TreeWalks.{lesser}
use Rattle.walk_laws.proofs.InsertionLaws.{child_found, leftmost_stands_next}
use Rattle.fugue_tree.specs.declared.children.Child.{Child}
use Rattle.fugue_tree.specs.Tree.{at, child_cmp, hangs_so, AreChildren, IsFirstAt, IsFirstChild}
use Rattle.fugue_tree.proofs.ChildLaws.{sides_same, child_is, is_child_of-at}

abbrev there_at : OpId → Side → Anchor
there_at on side = record { on = on; side = side }

-- a row hangs where its anchor says
hangs_there : (o : Option Anchor) (on : OpId) (side : Side) (id : OpId) → hangs_so o (at on side id) ≡ true → o ≡ Some (there_at on side)
hangs_there None on side id e = cc
hangs_there (Some a) on side id e =
    let same = child_is a.on a.side (at on side id) e in
    let same_on : a.on ≡ on = sym (ap (λ (c : Child). c.anchor) same) in
    let same_side : a.side ≡ side = sides_same a.side side (sym (ap (λ (c : Child). c.is_right) same)) in
    ap Some (λ i. record { on = same_on i; side = same_side i })

module _ (rows : Rows) (s : BTreeSet Child) (same : AreChildren rows s) (on : OpId) (side : Side) where
  pub there : (q : OpId) → contains child_cmp s (at on side q) ≡ true → anchor_of rows q ≡ Some (there_at on side)
  there q e = hangs_there (anchor_of rows q) on side q (sym (same (at on side q)) ∙ e)

  pub held : (q : OpId) → anchor_of rows q ≡ Some (there_at on side) → contains child_cmp s (at on side q) ≡ true
  held q e = same (at on side q) ∙ ap (λ o. hangs_so o (at on side q)) e ∙ is_child_of-at on side q

  pub first_is : (o : Option OpId) → IsFirstAt s on side o → IsFirstChild rows on side o
  first_is None h = λ q e. let both : true ≡ false = sym (held q e) ∙ h q in absurd (let c : true ≡ false = both in cc)
  first_is (Some c) h = record { is = there c h.0; least = λ q e. h.1 q (held q e) }

-- ---- a measure: how many rows have greater ids

abbrev counted : Bool → ℕ → ℕ
counted true n = suc n
counted false n = n

abbrev pub above : OpId → Rows → ℕ
above c [] = 0
above c (e ∷ es) = counted (id_lt c e.0) (above c es)

counts : (a b : Bool) (m n : ℕ) → (a ≡ true → b ≡ true) → m ≤ n → counted a m ≤ counted b n
counts true true m n h l = omega arith
counts true false m n h l = (let no : false ≡ true = h refl in cc)
counts false true m n h l = omega arith
counts false false m n h l = l

counts_less : (a b : Bool) (m n : ℕ) → (a ≡ true → b ≡ true) → m < n → counted a m < counted b n
counts_less true true m n h l = omega arith
counts_less true false m n h l = (let no : false ≡ true = h refl in cc)
counts_less false true m n h l = omega arith
counts_less false false m n h l = l

fewer : (c d : OpId) (es : Rows) → id_lt c d ≡ true → above d es ≤ above c es
fewer c d [] l = omega arith
fewer c d (e ∷ es) l = counts (id_lt d e.0) (id_lt c e.0) (above d es) (above c es) (λ k. lt_trans c d e.0 l k) (fewer c d es l)

pub falls : (es : Rows) (c d : OpId) (a : Anchor) → id_lt c d ≡ true → anchor_of es d ≡ Some a → above d es < above c es
falls [] c d a l e = cc
falls (x ∷ es) c d a l e =
    elim (key_cases d x.0) as (λ _. counted (id_lt d x.0) (above d es) < counted (id_lt c x.0) (above c es)) [
      | inl same ↦
          (let no : id_lt d x.0 ≡ false = ap (id_lt d) (sym same) ∙ lt_itself d in
          let yes : id_lt c x.0 ≡ true = ap (id_lt c) (sym same) ∙ l in
          let le = fewer c d es l in
          rw (no, yes) (omega arith))
      | inr ne ↦
          (let e' : anchor_of es d ≡ Some a = rw ne at e in
          counts_less (id_lt d x.0) (id_lt c x.0) (above d es) (above c es) (λ k. lt_trans c d x.0 l k) (falls es c d a l e'))
    ]

counts_all : (b : Bool) (m n : ℕ) → m ≤ n → counted b m ≤ suc n
counts_all true m n l = omega arith
counts_all false m n l = omega arith

above_le : (c : OpId) (es : Rows) → above c es ≤ length es
above_le c [] = omega arith
above_le c (e ∷ es) = counts_all (id_lt c e.0) (above c es) (length es) (above_le c es)

counts_fewer : (b : Bool) (m n : ℕ) → m < n → counted b m < suc n
counts_fewer true m n l = omega arith
counts_fewer false m n l = omega arith

pub above_row : (es : Rows) (c : OpId) (a : Anchor) → anchor_of es c ≡ Some a → above c es < length es
above_row [] c a e = cc
above_row (x ∷ es) c a e =
    elim (key_cases c x.0) as (λ _. counted (id_lt c x.0) (above c es) < suc (length es)) [
      | inl same ↦
          (let no : id_lt c x.0 ≡ false = ap (id_lt c) (sym same) ∙ lt_itself c in
          let le = above_le c es in
          rw no (omega arith))
      | inr ne ↦
          (let e' : anchor_of es c ≡ Some a = rw ne at e in
          counts_fewer (id_lt c x.0) (above c es) (length es) (above_row es c a e'))
    ]

-- a left child has a greater id
pub left_below : (rows : Rows) → IsInsertionTree rows → (on c : OpId) → anchor_of rows c ≡ Some (there_at on Left) → id_lt on c ≡ true
left_below rows t on c e = lesser rows t c (there_at on Left) e

-- ---- the place

pub place_at_end : (rows : Rows) → IsInsertionTree rows → (left : OpId) → IsFirstChild rows left Right None → place_after rows left ≡ there_at left Right
place_at_end rows t left none =
    elim (list_any (hangs left Right) rows) as (λ b. list_any (hangs left Right) rows ≡ b → place_after rows left ≡ there_at left Right) [
      | true ↦ λ e. (let c = child_found rows t left Right e in absurd (none c.0 c.1))
      | false ↦ λ e. rw e refl
    ] refl

pub place_before : (rows : Rows) → IsInsertionTree rows → (left c n : OpId) → HeadOrRow rows left → LeastChild rows left Right c → Leftmost rows c n → place_after rows left ≡ there_at n Left
place_before rows t left c n there least more = (leftmost_stands_next rows left c n t there least more).place
