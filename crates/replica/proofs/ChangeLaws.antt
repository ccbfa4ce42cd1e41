-- Changes that keep their places in a file, and the first rule that others break.
use Rattle.std.proofs.Common.{◌≡◌, ◌≢◌, ℕ, zero, suc, ◌+◌, ◌^◌, ◌<◌, ◌≤◌, ◌==◌, Bool, true, false, cond, List, [], ◌∷◌, ◌++◌, length, refl, sym, ap, ◌∙◌, arith, inl, inr, eq-eqb}
use Rattle.std.specs.Prelude.{Option, None, Some, slice_get, slice_index}
use Rattle.std.specs.List.{last_or}
use Rattle.cbor_det.specs.Item.{Item, IsSpelled, spell}
use Rattle.std.proofs.lemmas.Bool.{eqb-true}
use Rattle.file_laws.proofs.BodyLaws.{plain_spelled}
use Rattle.file_laws.proofs.FileLaws.{change_plain}
use Rattle.model.specs.Base.{Base}
use Rattle.model.specs.Change.{Change, IsChange, change_item}
use Rattle.model.specs.Rules.{Rule, F4, F5, BreaksFirst, KeepsAll, KeepsChange, change_rules}
use Rattle.model.specs.File.{Kind, member_file, bundle, snapshot, KeepsPlace, IsNextBehind}
use Rattle.file_laws.proofs.RuleLaws.{changes_keep}
use Rattle.replica.specs.Empty.{empty_base, base_in}
use Rattle.replica.specs.Heads.{kind_of, base_by}
use Rattle.replica.specs.Counts.{IsCounted}
use Rattle.replica.specs.declared.head.FileHead.{FileHead}

-- the last of a list, by its place
pub last_at : {X : Type 0} (o : Option X) (xs : List X) (k : ℕ) (x : X) → k + 1 ≡ length xs → slice_get xs k ≡ Some x → last_or o xs ≡ Some x
last_at o [] k x size e = absurd (omega arith)
last_at o (y ∷ []) zero x size e = e
last_at o (y ∷ []) (suc k) x size e = absurd (omega arith)
last_at o (y ∷ z ∷ zs) zero x size e = absurd (omega arith)
last_at o (y ∷ z ∷ zs) (suc k) x size e = last_at (Some y) (z ∷ zs) k x (omega arith) e

-- ---- changes may stand in a sequence

pub change_is_spelled : (n : ℕ) (c : Change) → n ≤ 32 → IsChange n c → length (spell (change_item c)) < 2 ^ 64 → IsSpelled (change_item c)
change_is_spelled n c few k short = plain_spelled (change_item c) 2 (omega arith) (change_plain n c (omega (arith, few)) k) short

-- ---- the first broken rule

breaks_in_front : (Keeps : Rule → Item → Type 0) (qs rs : List Rule) (x : Item) (r : Rule) → BreaksFirst Keeps qs x r → BreaksFirst Keeps (qs ++ rs) x r
breaks_in_front Keeps [] rs x r b = absurd b
breaks_in_front Keeps (q ∷ qs) rs x r (inl here) = inl here
breaks_in_front Keeps (q ∷ qs) rs x r (inr later) = inr (later.0, breaks_in_front Keeps qs rs x r later.1)

breaks_behind : (Keeps : Rule → Item → Type 0) (qs rs : List Rule) (x : Item) (r : Rule) → KeepsAll Keeps qs x → BreaksFirst Keeps rs x r → BreaksFirst Keeps (qs ++ rs) x r
breaks_behind Keeps [] rs x r all b = b
breaks_behind Keeps (q ∷ qs) rs x r all b = inr (all.0, breaks_behind Keeps qs rs x r all.1 b)

module _ (n : ℕ) (Order Next : Change → Type 0) where
  -- where a rule of changes is broken
  pub change_breaks : (rs : List Rule) (x : Item) (r : Rule) → BreaksFirst (KeepsChange n) change_rules x r → BreaksFirst (KeepsPlace n Order Next) (change_rules ++ rs) x r
  change_breaks rs x r b = breaks_in_front (KeepsPlace n Order Next) change_rules rs x r b

  module _ (few : n ≤ 32) (c : Change) (is : IsChange n c) where
    keeps_all : KeepsAll (KeepsPlace n Order Next) change_rules (change_item c)
    keeps_all = changes_keep n (change_item c) (omega (arith, few)) (c, refl, is)

    -- where its order is broken
    pub order_breaks : (rs : List Rule) → ((d : Change) → change_item d ≡ change_item c → Order d → Order c) → (Order c → ⊥) → BreaksFirst (KeepsPlace n Order Next) (change_rules ++ F4 ∷ rs) (change_item c) F4
    order_breaks rs move none =
        breaks_behind (KeepsPlace n Order Next) change_rules (F4 ∷ rs) (change_item c) F4 keeps_all (inl (refl, λ k. none (move k.0 (sym k.1) k.2)))

    -- where its number is
    pub next_breaks : ((d : Change) → change_item d ≡ change_item c → Next d → Next c) → Order c → (Next c → ⊥) → BreaksFirst (KeepsPlace n Order Next) (change_rules ++ F4 ∷ F5 ∷ []) (change_item c) F5
    next_breaks move later none =
        breaks_behind (KeepsPlace n Order Next) change_rules (F4 ∷ F5 ∷ []) (change_item c) F5 keeps_all
        (inr ((c, refl, later), inl (refl, λ k. none (move k.0 (sym k.1) k.2))))

-- ---- the next of its member

-- what holds of a bundle, and of the others, holds of the kind of this number
pub by_kinds : (P : Kind → Type 0) (k : ℕ) → (k ≡ 1 → P bundle) → (k ≢ 1 → P member_file) → (k ≢ 1 → P snapshot) → P (kind_of k)
by_kinds P k of_bundle of_member of_snapshot = split (k == 0) (k == 1) refl refl
  where
    split : (a b : Bool) → (k == 0) ≡ a → (k == 1) ≡ b → P (cond a member_file (cond b bundle snapshot))
    split true b ea eb = of_member (λ e. omega (arith, eqb-true k 0 ea))
    split false true ea eb = of_bundle (eqb-true k 1 eb)
    split false false ea eb = of_snapshot (λ e. let yes : (k == 1) ≡ true = eq-eqb k 1 e in let bad : false ≡ true = sym eb ∙ yes in cc)

pub by_kind : (P : Option Base → Type 0) (n k : ℕ) → (k ≡ 1 → P None) → (k ≢ 1 → P (Some (empty_base n))) → P (base_in (kind_of k) n)
by_kind P n k none some = by_kinds (λ q. P (base_in q n)) k none some some

module _ (h : FileHead) (kept : List Change) (c : Change) (is : IsChange h.doc.n c) where
  pub not_behind : (counts : List ℕ) → IsCounted h kept counts → h.kind ≢ 1 → (c.number ≡ slice_index counts c.member + 1 → ⊥) → IsNextBehind (base_by h) kept c → ⊥
  not_behind counts counted other none =
      by_kind (λ b. IsNextBehind b kept c → ⊥) h.doc.n h.kind (λ one. absurd (other one)) (λ _ k. none (k.0 ∙ ap (λ k. k + 1) (sym (counted.are other c.member is.member))))
