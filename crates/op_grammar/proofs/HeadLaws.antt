-- The rules that heads break, one by one, and that they keep them all.
use Rattle.std.proofs.Common.{◌≡◌, ℕ, ◌-◌, ◌<◌, ◌≤◌, ◌^◌, List, length, get_or, refl, sym, ap, subst, ◌∙◌, arith, inl, inr}
use Rattle.std.specs.Prelude.{None, Some, Result, Ok, Err}
use Rattle.std.proofs.lemmas.Option.{slice_get-get_or, same_Some}
use Rattle.cbor_det.specs.Item.{Item}
use Rattle.model.specs.Change.{ChangeParts, parts_item}
use Rattle.model.specs.Rules.{BreaksFirst, KeepsAll, KeepsChange, SaysChange, AreCauses}
use Rattle.file_laws.proofs.SameParts.{parts_same}
use Rattle.op_grammar.specs.Rules.{rule_of}
use Rattle.op_grammar.specs.Changes.{head_rules}
use Rattle.op_grammar.specs.Parts.{BeginsWith, PartsAnswer, CausesAnswer, SaidAnswer, said_parts}
use Rattle.cbor_det.specs.Unread.{unread}
use Rattle.op_grammar.specs.declared.parts.Parts.{Parts}
use Rattle.op_grammar.specs.declared.head.Said.{Said}
use Rattle.op_grammar.proofs.PartsLaws.{Causes}
use Rattle.op_grammar.specs.declared.rule.Rule.{Rule}
use Rattle.op_grammar.specs.declared.rule.Rule.TheVariants as r

-- Parts that aren't so are no parts of the item that says them.
pub denies : (P : ChangeParts → Type 0) (p : ChangeParts) → (P p → ⊥) → SaysChange P (parts_item p) → ⊥
denies P p other k = other (subst P (parts_same k.0 p (sym k.1)) k.2)

abbrev pub Breaks : ℕ → ChangeParts → Rule → Type 0
Breaks n p rule = BreaksFirst (KeepsChange n) head_rules (parts_item p) (rule_of rule)

pub breaks_G1 : (n : ℕ) (x : Item) → PartsAnswer None x → BreaksFirst (KeepsChange n) head_rules x (rule_of r.G1)
breaks_G1 n x none = inl (refl, λ k. none k.0 k.1)

module _ (n member number time : ℕ) (p : ChangeParts) (b : BeginsWith member number time p) where
  pub breaks_G2 : n ≤ member → Breaks n p r.G2
  breaks_G2 out = inr ((p, refl, tt), inl (refl, denies (λ q. q.member < n) p (λ k. omega (arith, out, b.0, k))))

  pub breaks_G3 : member < n → (1 ≤ number → number < 2 ^ 32 → ⊥) → Breaks n p r.G3
  breaks_G3 within out = inr (
    (p, refl, tt),
    inr (
      (p, refl, omega (arith, within, b.0)),
      inl (refl, denies (λ q. (1 ≤ q.number) × (q.number < 2 ^ 32)) p (λ k. out (omega (arith, b.1, k.0)) (omega (arith, b.1, k.1)))),
    ),
  )

  pub breaks_G4 : member < n → 1 ≤ number → number < 2 ^ 32 → (1 ≤ time → time < 2 ^ 48 → ⊥) → Breaks n p r.G4
  breaks_G4 within some few out = inr (
    (p, refl, tt),
    inr (
      (p, refl, omega (arith, within, b.0)),
      inr (
        (p, refl, (omega (arith, some, b.1), omega (arith, few, b.1))),
        inl (refl, denies (λ q. (1 ≤ q.time) × (q.time < 2 ^ 48)) p (λ k. out (omega (arith, b.2, k.0)) (omega (arith, b.2, k.1)))),
      ),
    ),
  )

pub ruleset number_laws = (breaks_G2, breaks_G3, breaks_G4)

-- the numbers are within their bounds
abbrev pub AreWithin : ℕ → ChangeParts → Type 0
AreWithin n p = (p.member < n) × (1 ≤ p.number) × (p.number < 2 ^ 32) × (1 ≤ p.time) × (p.time < 2 ^ 48)

pub breaks_G5 : (n : ℕ) (p : ChangeParts) → AreWithin n p → (AreCauses n p → ⊥) → Breaks n p r.G5
breaks_G5 n p w out = inr ((p, refl, tt), inr ((p, refl, w.0), inr ((p, refl, (w.1, w.2)), inr ((p, refl, (w.3, w.4)), inl (refl, denies (AreCauses n) p out)))))

pub keeps_head : (n : ℕ) (p : ChangeParts) → AreWithin n p → AreCauses n p → KeepsAll (KeepsChange n) head_rules (parts_item p)
keeps_head n p w causes = ((p, refl, tt), ((p, refl, w.0), ((p, refl, (w.1, w.2)), ((p, refl, (w.3, w.4)), ((p, refl, causes), tt)))))

-- ---- what is read, by the parts

module _ (n : ℕ) (x : Item) (p : Parts) (whole : PartsAnswer (Some p) x) where
  begins : BeginsWith p.member p.number p.time whole.0
  begins = (whole.2.member, whole.2.number, whole.2.time)

  pub numbers_break : (rule : Rule) → ((q : ChangeParts) → BeginsWith p.member p.number p.time q → Breaks n q rule) → (r : Result Said Rule) → r ≡ Err rule → SaidAnswer n x r
  numbers_break rule breaks (Ok s) e = absurd cc
  numbers_break rule breaks (Err other) e =
      let same : rule ≡ other = cc in
      subst (λ o. SaidAnswer n x (Err o)) same (subst (λ y. BreaksFirst (KeepsChange n) head_rules y (rule_of rule)) (sym whole.1) (breaks whole.0 begins))

  module _ (b : (p.member < n) × (1 ≤ p.number) × (p.number < 2 ^ 32) × (1 ≤ p.time) × (p.time < 2 ^ 48)) where
    within : AreWithin n whole.0
    within = (omega (arith, b.0, whole.2.member), omega (arith, b.1, whole.2.number), omega (arith, b.2, whole.2.number), omega (arith, b.3, whole.2.time), omega (arith, b.4, whole.2.time))

    pub causes_break : Causes n (unread p.causes) None → SaidAnswer n x (Err r.G5)
    causes_break none =
        subst (λ y. BreaksFirst (KeepsChange n) head_rules y (rule_of r.G5)) (sym whole.1)
        (breaks_G5 n whole.0 within (λ k. none whole.0.causes whole.2.causes.0 whole.2.causes.1 whole.2.causes.2 k.each k.most))

    module _ (v : List ℕ) (some : Causes n (unread p.causes) (Some v)) where
      counts : CausesAnswer n whole.0.causes (Some v)
      counts = some whole.0.causes whole.2.causes.0 whole.2.causes.1 whole.2.causes.2

      pub own_breaks : (get_or v p.member 0 ≡ p.number - 1 → ⊥) → SaidAnswer n x (Err r.G5)
      own_breaks other =
          subst (λ y. BreaksFirst (KeepsChange n) head_rules y (rule_of r.G5)) (sym whole.1)
          (breaks_G5 n whole.0 within (λ k.
          let c = counts in
          let inside : whole.0.member < length whole.0.causes = omega (arith, c.1, within.0) in
          let own : get_or whole.0.causes whole.0.member 0 ≡ k.own.0 = same_Some _ _ (sym (slice_get-get_or whole.0.causes whole.0.member 0 inside) ∙ k.own.1) in
          let here : get_or v p.member 0 ≡ get_or whole.0.causes whole.0.member 0 = λ i. get_or (c.0 i) (sym whole.2.member i) 0 in
          other (omega (arith, here, own, k.own.2, whole.2.number))))

      pub head_said : (s : Said) → s.member ≡ p.member → s.number ≡ p.number → s.time ≡ p.time → s.causes ≡ v → s.count ≡ p.count → s.width ≡ p.width → s.body.now ≡ p.body.now → get_or v p.member 0 ≡ p.number - 1 → SaidAnswer n x (Ok s)
      head_said s e0 e1 e2 e3 e4 e5 e6 own =
          let c = counts in
          let inside : whole.0.member < length whole.0.causes = omega (arith, c.1, within.0) in
          let here : get_or v p.member 0 ≡ get_or whole.0.causes whole.0.member 0 = λ i. get_or (c.0 i) (sym whole.2.member i) 0 in
          let a0 : whole.0.member ≡ s.member = whole.2.member ∙ sym e0 in
          let a1 : whole.0.number ≡ s.number = whole.2.number ∙ sym e1 in
          let a2 : whole.0.time ≡ s.time = whole.2.time ∙ sym e2 in
          let a3 : whole.0.causes ≡ s.causes = sym c.0 ∙ sym e3 in
          let a4 : whole.0.count ≡ s.count = whole.2.count ∙ sym e4 in
          let a5 : whole.0.width ≡ s.width = whole.2.width ∙ sym e5 in
          let a6 : whole.0.body ≡ s.body.now = whole.2.body ∙ sym e6 in
          let same : whole.0 ≡ said_parts s = λ i. record { member = a0 i; number = a1 i; time = a2 i; causes = a3 i; count = a4 i; width = a5 i; body = a6 i } in
          let causes : AreCauses n whole.0 = record { each = c.1; most = c.2; own = (get_or whole.0.causes whole.0.member 0, slice_get-get_or whole.0.causes whole.0.member 0 inside, omega (arith, here, own, whole.2.number, b.1)) } in
          (whole.1 ∙ ap parts_item same, subst (KeepsAll (KeepsChange n) head_rules) (sym whole.1) (keeps_head n whole.0 within causes))
